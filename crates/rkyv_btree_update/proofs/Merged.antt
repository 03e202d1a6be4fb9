-- The steps of a merge.
use Rattle.std.proofs.Common.{◌≡◌, ℕ, true, false, ◌<◌, List, [], ◌∷◌, length, Option, Some, None, refl, sym, ap, subst, ◌∙◌, arith}
use Rattle.std.specs.Cmp.{IsTotalOrder}
use Rattle.std.specs.Iterator.{MakesProgress, YieldsFirst, item_count}
use Rattle.std.specs.List.Sorted.{IsStrictlySortedBy}
use Rattle.std.specs.Option.{option_map}
use Rattle.std.specs.Ordering.{ordering_reverse}
use Rattle.std.specs.Prelude.{IfSome}
use Rattle.std.specs.declared.cmp.Ordering.{Ordering}
use Rattle.std.specs.declared.cmp.Ordering.TheVariants.{Less, Equal, Greater}
use Rattle.rkyv_btree_format.specs.Increasing.{Increasing}
use Rattle.rkyv_btree_portable.specs.declared.check.Portable
use Rattle.rkyv_btree_update.proofs.Changed.{entry_first, value_put, entry_deleted, put_first, none_deleted, put_last}
use Rattle.rkyv_btree_update.specs.Natives.{both}
use Rattle.rkyv_btree_update.specs.Updated.{change_meant, updated}
use Rattle.rkyv_btree_update.specs.declared.change.Change.{Change}
use Rattle.rkyv_btree_update.specs.declared.change.Change.TheVariants.{Put, Delete}
use Rattle.rkyv_btree_update.specs.declared.updates.Updates.{Updates}
use Rattle.rkyv_btree_update.specs.mirror.Merged.{AreOrdered, CanMerge, Steps, entry_put, merged, new_left, old_left}
use Rattle.rkyv_btree_walk.specs.declared.archived_map.ArchivedMap

tail : {X : Type 0} → List X → List X
tail [] = []
tail (x ∷ xs) = xs

first_or : {X : Type 0} → X → List X → X
first_or d [] = d
first_or d (x ∷ xs) = x

-- what is left after the first was taken
pub taken_rest : {X S : Type 0} (rest : S → List X) (s : S) (r : Option X) (t : S) (e : X) (es : List X) → YieldsFirst rest s r t → rest s ≡ e ∷ es → (r ≡ Some e) × (rest t ≡ es)
unfolding tail first_or
taken_rest rest s None t e es h parts = absurd (let n : [] ≡ e ∷ es = sym h.0 ∙ parts in cc n)
taken_rest rest s (Some x) t e es h parts = let both : x ∷ rest t ≡ e ∷ es = sym h ∙ parts in (ap (λ zs. Some (first_or x zs)) both, ap tail both)

pub increasing_tail : {A X : Type 0} (order : A → A → Ordering) (x : A × X) (xs : List (A × X)) → Increasing order (x ∷ xs) → Increasing order xs
unfolding IsStrictlySortedBy
increasing_tail order x xs h = h.1

increasing_none : {A : Type 0} (X : Type 0) (order : A → A → Ordering) → Increasing {A = A} {B = X} order []
unfolding IsStrictlySortedBy
increasing_none X order = tt

module _ {T U S : Type 0} {cmp : T → T → Ordering} (total : IsTotalOrder cmp) (old : S → List (T × U)) (new : S → List (T × Change U)) (s t : S) (ordered : AreOrdered cmp old new s) where
  abbrev all : S → List (T × U)
  all = merged cmp old new

  merged_is : (u : S) (m : List (T × U)) (cs : List (T × Change U)) → old u ≡ m → new u ≡ cs → all u ≡ updated cmp m cs
  merged_is u m cs is are = ap (λ zs. updated cmp zs (new u)) is ∙ ap (updated cmp m) are

  -- no change is left
  pub no_changes : (r : Option (T × U)) → new s ≡ [] → new t ≡ [] → YieldsFirst old s r t → Steps cmp old new s (Some r) t
  no_changes None done rest h = ((merged_is s [] [] h.0 done, merged_is t [] [] h.1 rest), tt)
  no_changes (Some x) done rest h = (
    merged_is s (x ∷ old t) [] h done ∙ ap (λ zs. x ∷ zs) (sym (merged_is t (old t) [] refl rest)),
    record { old_increase = increasing_tail cmp x (old t) (subst (Increasing cmp) h ordered.old_increase); new_increase = subst (Increasing cmp) (sym rest) (increasing_none (Change U) cmp) },
  )

  fewer : (c : T × Change U) → new s ≡ c ∷ new t → length (new t) < length (new s)
  fewer c change = let l : length (new s) ≡ length (c ∷ new t) = ap length change in omega (arith, l)

  -- no entry of the map is left
  pub no_entries : (k : T) (c : Change U) → old s ≡ [] → old t ≡ [] → new s ≡ (k, c) ∷ new t → Steps cmp old new s (entry_put k c) t
  no_entries k (Put v) done rest change =
      let changes : Increasing cmp ((k, Put v) ∷ new t) = subst (Increasing cmp) change ordered.new_increase in (
        merged_is s [] ((k, Put v) ∷ new t) done change ∙ put_last total k v (new t) changes ∙ ap (λ zs. (k, v) ∷ zs) (sym (merged_is t [] (new t) rest refl)),
        record { old_increase = subst (Increasing cmp) (sym rest) (increasing_none U cmp); new_increase = increasing_tail cmp (k, Put v) (new t) changes },
      )
  no_entries k Delete done rest change =
      let changes : Increasing cmp ((k, Delete) ∷ new t) = subst (Increasing cmp) change ordered.new_increase in (
        merged_is s [] ((k, Delete) ∷ new t) done change ∙ sym (merged_is t [] (new t) rest refl),
        record { old_increase = subst (Increasing cmp) (sym rest) (increasing_none U cmp); new_increase = increasing_tail cmp (k, Delete) (new t) changes },
        fewer (k, Delete) change,
      )

  module _ (e : T × U) (es : List (T × U)) (parts : old s ≡ e ∷ es) (k : T) where
    abbrev entries : Increasing cmp (e ∷ es)
    entries = subst (Increasing cmp) parts ordered.old_increase

    -- the entry comes before the change
    pub entry_before : (c : Change U) (cs : List (T × Change U)) (r : Option (T × U)) → new s ≡ (k, c) ∷ cs → new t ≡ new s → YieldsFirst old s r t → cmp e.0 k ≡ Less → Steps cmp old new s (Some r) t
    entry_before c cs r change same h less =
        let is = taken_rest old s r t e es h parts in
        let changes : Increasing cmp ((k, c) ∷ cs) = subst (Increasing cmp) change ordered.new_increase in
        subst (λ o. Steps cmp old new s (Some o) t) (sym is.0) (
          merged_is s (e ∷ es) ((k, c) ∷ cs) parts change ∙ entry_first total e es k cs c less changes ∙ ap (λ zs. e ∷ zs) (sym (merged_is t es ((k, c) ∷ cs) is.1 (same ∙ change))),
          record { old_increase = subst (Increasing cmp) (sym is.1) (increasing_tail cmp e es entries); new_increase = subst (Increasing cmp) (sym same) ordered.new_increase },
        )

    -- the change is of the entry
    pub entry_changed : (c : Change U) (r : Option (T × U)) → new s ≡ (k, c) ∷ new t → YieldsFirst old s r t → cmp e.0 k ≡ Equal → Steps cmp old new s (entry_put e.0 c) t
    entry_changed (Put v) r change h alike =
        let is = taken_rest old s r t e es h parts in
        let changes : Increasing cmp ((k, Put v) ∷ new t) = subst (Increasing cmp) change ordered.new_increase in (
          merged_is s (e ∷ es) ((k, Put v) ∷ new t) parts change ∙ value_put total e es k (new t) v alike changes ∙ ap (λ zs. (e.0, v) ∷ zs) (sym (merged_is t es (new t) is.1 refl)),
          record { old_increase = subst (Increasing cmp) (sym is.1) (increasing_tail cmp e es entries); new_increase = increasing_tail cmp (k, Put v) (new t) changes },
        )
    entry_changed Delete r change h alike =
        let is = taken_rest old s r t e es h parts in
        let changes : Increasing cmp ((k, Delete) ∷ new t) = subst (Increasing cmp) change ordered.new_increase in (
          merged_is s (e ∷ es) ((k, Delete) ∷ new t) parts change ∙ entry_deleted total e es k (new t) alike ∙ sym (merged_is t es (new t) is.1 refl),
          record { old_increase = subst (Increasing cmp) (sym is.1) (increasing_tail cmp e es entries); new_increase = increasing_tail cmp (k, Delete) (new t) changes },
          fewer (k, Delete) change,
        )

    -- the change comes before the entry
    pub change_before : (c : Change U) → new s ≡ (k, c) ∷ new t → old t ≡ old s → cmp e.0 k ≡ Greater → Steps cmp old new s (entry_put k c) t
    change_before (Put v) change same past =
        let before : cmp k e.0 ≡ Less = total.antisymm k e.0 ∙ ap ordering_reverse past in
        let changes : Increasing cmp ((k, Put v) ∷ new t) = subst (Increasing cmp) change ordered.new_increase in (
          merged_is s (e ∷ es) ((k, Put v) ∷ new t) parts change ∙ put_first total e es k (new t) v before changes ∙ ap (λ zs. (k, v) ∷ zs) (sym (merged_is t (e ∷ es) (new t) (same ∙ parts) refl)),
          record { old_increase = subst (Increasing cmp) (sym same) ordered.old_increase; new_increase = increasing_tail cmp (k, Put v) (new t) changes },
        )
    change_before Delete change same past =
        let before : cmp k e.0 ≡ Less = total.antisymm k e.0 ∙ ap ordering_reverse past in
        let changes : Increasing cmp ((k, Delete) ∷ new t) = subst (Increasing cmp) change ordered.new_increase in (
          merged_is s (e ∷ es) ((k, Delete) ∷ new t) parts change ∙ none_deleted total e es k (new t) before entries ∙ sym (merged_is t (e ∷ es) (new t) (same ∙ parts) refl),
          record { old_increase = subst (Increasing cmp) (sym same) ordered.old_increase; new_increase = increasing_tail cmp (k, Delete) (new t) changes },
          fewer (k, Delete) change,
        )

-- a call that passed over some changes, and then gave what a step gave
module _ {X S : Type 0} (rest : S → List X) (can : S → Type 0) (a s t : S) (same : rest a ≡ rest s) where
  pub gives : (r : Option X) → YieldsFirst rest s r t → YieldsFirst rest a r t
  gives None h = (same ∙ h.0, h.1)
  gives (Some x) h = same ∙ h

  fewer_left : (x : X) → rest s ≡ x ∷ rest t → length (rest t) < length (rest a)
  fewer_left x h = let l : length (rest a) ≡ length (x ∷ rest t) = ap length (same ∙ h) in omega (arith, l)

  pub goes : {Y : Type 0} (f : Y → X) (r : Option Y) → YieldsFirst rest s (option_map f r) t → IfSome (option_map f r) (λ _. can t) → MakesProgress can (item_count rest) a r t
  goes f None h may = record { on = λ f. tt; keeps = tt; rests = λ f. tt }
  goes f (Some x) h may = record { on = λ q. (may, tt, fewer_left (f x) h); keeps = may; rests = λ f. tt }

-- what holds if there is one to show
pub if_shown : {X Y : Type 0} (P : Type 0) (f : Y → X) (r : Option Y) → IfSome (option_map f r) (λ _. P) → IfSome r (λ _. P)
if_shown P f None h = tt
if_shown P f (Some x) h = h

-- a merge of these lists
module _ {T U S : Type 0} (cmp : T → T → Ordering) (old : S → List (T × U)) (new : S → List (T × Change U)) (s : S) (xs : List (T × U)) (cs : List (T × Change U)) (are : old s ≡ xs) (come : new s ≡ cs) where
  pub merged_lists : merged cmp old new s ≡ updated cmp xs cs
  merged_lists = ap (λ zs. updated cmp zs (new s)) are ∙ ap (updated cmp xs) come

  ordered_lists : Increasing cmp xs → Increasing cmp cs → AreOrdered cmp old new s
  ordered_lists h k = record { old_increase = subst (Increasing cmp) (sym are) h; new_increase = subst (Increasing cmp) (sym come) k }

-- a merge can begin with a comparison
pub can_start : {M K V A B T U : Type 0} {g : ArchivedMap.Ghosts M K V} {m : Portable.Ghosts M} {k : Portable.Ghosts K} {v : Portable.Ghosts V}
    (order : T → T → Ordering) (key_lent : List ℕ → ℕ → T) (value_lent : List ℕ → ℕ → U) (key : A → T) (value : B → U) (s : Updates M A B K V g m k v) (xs : List (T × U)) (cs : List (T × Change U))
    → old_left key_lent value_lent key value s ≡ xs → new_left key_lent value_lent key value s ≡ cs → s.quiet ≡ false → Increasing order xs → Increasing order cs
    → CanMerge order key_lent value_lent key value s
can_start order key_lent value_lent key value s xs cs are come compared h k = record {
  ordered = ordered_lists order (old_left key_lent value_lent key value) (new_left key_lent value_lent key value) s xs cs are come h k;
  quiet = λ is. absurd (let n : false ≡ true = sym compared ∙ is in cc n);
}

-- the entry of a key after a change shows what its parts show
pub put_shown : {A B T U : Type 0} (key : A → T) (value : B → U) (k : A) (c : Change B) → option_map (option_map (both key value)) (entry_put k c) ≡ entry_put (key k) (change_meant value c)
put_shown key value k (Put v) = refl
put_shown key value k Delete = refl
