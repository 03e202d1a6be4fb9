-- The first entries of a list come before all changes if the last of them comes before the first change.
use Rattle.std.proofs.Common.{◌≡◌, ℕ, zero, suc, ◌+◌, List, [], ◌∷◌, ◌++◌, length, Option, Some, None, IsTrue, is_some, false, refl, sym, ap, subst, ◌∙◌, arith}
use Rattle.std.specs.Cmp.{IsTotalOrder}
use Rattle.std.specs.List.{AllByRecursion}
use Rattle.std.specs.List.Sorted.{IsStrictlySortedBy}
use Rattle.std.specs.Map.{keys_of}
use Rattle.std.specs.Option.{option_map}
use Rattle.std.specs.Prelude.{IfNone}
use Rattle.std.specs.declared.cmp.Ordering.{Ordering}
use Rattle.std.specs.declared.cmp.Ordering.TheVariants.{Less}
use Rattle.rkyv_btree_format.specs.Increasing.{Increasing}
use Rattle.rkyv_btree_portable.specs.declared.check.Portable
use Rattle.rkyv_btree_update.proofs.Changed.{before_updated, less_than_all}
use Rattle.rkyv_btree_update.proofs.Merged.{increasing_tail}
use Rattle.rkyv_btree_update.specs.Natives.{both}
use Rattle.rkyv_btree_update.specs.Updated.{updated}
use Rattle.rkyv_btree_update.specs.declared.change.Change.{Change}
use Rattle.rkyv_btree_update.specs.declared.updates.Updates.{Updates}
use Rattle.rkyv_btree_update.specs.mirror.Merged.{AreOrdered, CanCross, CanMerge, FirstBefore, IsBeforeAll, merged, new_left, old_left, put_back, shown_left}
use Rattle.rkyv_btree_view.specs.Iter.{at_hand}
use Rattle.rkyv_btree_walk.specs.Bounds.{IsLastOf}
use Rattle.rkyv_btree_walk.specs.declared.archived_map.ArchivedMap

-- there is no change
pub no_later : {T U : Type 0} (W : Type 0) (cmp : T → T → Ordering) (n : ℕ) (xs : List (T × U)) → FirstBefore {W = W} cmp n xs []
no_later W cmp zero xs = tt
no_later W cmp (suc n) [] = tt
no_later W cmp (suc n) (x ∷ xs) = (tt, no_later W cmp n xs)

key_in : {T U : Type 0} (P : T → Type 0) (before later : List (T × U)) (e : T × U) → AllByRecursion P (keys_of (before ++ e ∷ later)) → P e.0
key_in P [] later e all = all.0
key_in P (x ∷ before) later e all = key_in P before later e all.1

module _ {T U W : Type 0} {cmp : T → T → Ordering} (total : IsTotalOrder cmp) where
  module _ (e : T × U) (k : T) (c : W) (cs : List (T × W)) (less : cmp e.0 k ≡ Less) (changes : AllByRecursion (λ x. cmp k x ≡ Less) (keys_of cs)) (later : List (T × U)) where
    earlier : (before : List (T × U)) → IsStrictlySortedBy cmp (keys_of (before ++ e ∷ later)) → FirstBefore cmp (suc (length before)) (before ++ e ∷ later) ((k, c) ∷ cs)
    unfolding IsStrictlySortedBy
    earlier [] h = ((less, less_than_all total e.0 k (keys_of cs) less changes), tt)
    earlier (x ∷ before) h =
        let first : cmp x.0 k ≡ Less = total.trans x.0 e.0 k (key_in (λ y. cmp x.0 y ≡ Less) before later e h.0) less in
        ((first, less_than_all total x.0 k (keys_of cs) first changes), earlier before h.1)

  -- of the first entries one is taken
  quiet_first : (n m : ℕ) (xs es : List (T × U)) (e : T × U) (cs : List (T × W)) → n ≡ 1 + m → xs ≡ e ∷ es → FirstBefore cmp n xs cs → IsBeforeAll cmp e cs × FirstBefore cmp m es cs
  quiet_first n m xs es e cs fewer parts h = let many : n ≡ suc m = omega (arith, fewer) in rw (many, parts) at h

  -- an entry before them does too
  pub earlier_before : (n : ℕ) (xs : List (T × U)) (d e : T × U) (k : T) (c : W) (cs : List (T × W)) → IsLastOf n xs e → Increasing cmp (d ∷ xs) → Increasing cmp ((k, c) ∷ cs) → cmp e.0 k ≡ Less → IsBeforeAll cmp d ((k, c) ∷ cs)
  unfolding IsStrictlySortedBy
  earlier_before n xs d e k c cs (before, later, is, count) h changes less =
      let all : AllByRecursion (λ y. cmp d.0 y ≡ Less) (keys_of (before ++ e ∷ later)) = subst (λ ys. AllByRecursion (λ y. cmp d.0 y ≡ Less) (keys_of ys)) is h.0 in
      let first : cmp d.0 k ≡ Less = total.trans d.0 e.0 k (key_in (λ y. cmp d.0 y ≡ Less) before later e all) less in
      (first, less_than_all total d.0 k (keys_of cs) first changes.0)

  pub last_before : (n : ℕ) (xs : List (T × U)) (e : T × U) (k : T) (c : W) (cs : List (T × W)) → IsLastOf n xs e → Increasing cmp xs → Increasing cmp ((k, c) ∷ cs) → cmp e.0 k ≡ Less → FirstBefore cmp n xs ((k, c) ∷ cs)
  unfolding IsStrictlySortedBy
  last_before n xs e k c cs (before, later, is, count) h changes less =
      let many : n ≡ suc (length before) = omega (arith, count) in
      rw (many, is) (earlier e k c cs less changes.0 later before (subst (Increasing cmp) is h))

module _ {M K V A B T U : Type 0} {g : ArchivedMap.Ghosts M K V} {m : Portable.Ghosts M} {k : Portable.Ghosts K} {v : Portable.Ghosts V}
    {order : T → T → Ordering} (total : IsTotalOrder order) (key_lent : List ℕ → ℕ → T) (value_lent : List ℕ → ℕ → U) (key : A → T) (value : B → U) where
  abbrev old : Updates M A B K V g m k v → List (T × U)
  old = old_left key_lent value_lent key value

  abbrev new : Updates M A B K V g m k v → List (T × Change U)
  new = new_left key_lent value_lent key value

  pub bare : (s : Updates M A B K V g m k v) → s.ahead ≡ None → old s ≡ shown_left key_lent value_lent s.entries
  bare s none = ap (λ o. put_back (option_map (both key value) o) (shown_left key_lent value_lent s.entries)) none

  -- an entry at hand is taken
  module _ (s : Updates M A B K V g m k v) (can : CanMerge order key_lent value_lent key value s) (is : IsTrue s.quiet) (e : T × U) where
    taken : (n : ℕ) (rest : List (T × U)) → shown_left key_lent value_lent s.entries ≡ e ∷ rest → at_hand s.entries ≡ 1 + n → IsBeforeAll order e (new s) × FirstBefore order n rest (new s)
    taken n rest parts fewer = quiet_first total _ n _ rest e (new s) fewer parts (can.quiet is).1

    pub quiet_gives : (n : ℕ) (rest : List (T × U)) → shown_left key_lent value_lent s.entries ≡ e ∷ rest → at_hand s.entries ≡ 1 + n
        → merged order old new s ≡ e ∷ updated order (put_back (option_map (both key value) s.ahead) rest) (new s)
    quiet_gives n rest parts fewer =
        let none = (can.quiet is).0 in
        ap (λ xs. updated order xs (new s)) (bare s none ∙ parts) ∙ before_updated total e rest (new s) (taken n rest parts fewer).0
        ∙ ap (λ o. e ∷ updated order (put_back (option_map (both key value) o) rest) (new s)) (sym none)

    pub quiet_goes : (t : Updates M A B K V g m k v) → t.ahead ≡ s.ahead → new t ≡ new s → shown_left key_lent value_lent s.entries ≡ e ∷ shown_left key_lent value_lent t.entries → at_hand s.entries ≡ 1 + at_hand t.entries
        → CanMerge order key_lent value_lent key value t
    quiet_goes t ahead same parts fewer =
        let none = (can.quiet is).0 in
        let left = shown_left key_lent value_lent t.entries in
        let first = taken (at_hand t.entries) left parts fewer in
        let entries : Increasing order (e ∷ left) = subst (Increasing order) (bare s none ∙ parts) can.ordered.old_increase in
        record {
          ordered = record { old_increase = subst (Increasing order) (sym (bare t (ahead ∙ none))) (increasing_tail order e left entries); new_increase = subst (Increasing order) (sym same) can.ordered.new_increase };
          quiet = λ _. (ahead ∙ none, subst (FirstBefore order (at_hand t.entries) left) (sym same) first.1);
        }

  -- nothing is
  pub quiet_stays : (s t : Updates M A B K V g m k v) → CanMerge order key_lent value_lent key value s → t.ahead ≡ s.ahead → new t ≡ new s → shown_left key_lent value_lent t.entries ≡ shown_left key_lent value_lent s.entries
      → AreOrdered order old new t
  quiet_stays s t can ahead same left =
      let rest : old t ≡ old s = ap (λ o. put_back (option_map (both key value) o) (shown_left key_lent value_lent t.entries)) ahead ∙ ap (put_back (option_map (both key value) s.ahead)) left in
      record { old_increase = subst (Increasing order) (sym rest) can.ordered.old_increase; new_increase = subst (Increasing order) (sym same) can.ordered.new_increase }

pub none_of : {X : Type 0} (o : Option X) → is_some o ≡ false → o ≡ None
none_of None h = refl
none_of (Some x) h = cc h

pub if_none : {X P Q : Type 0} (o : Option X) → IfNone o P → (P → Q) → IfNone o Q
if_none None h then = then h
if_none (Some x) h then = tt

module _ {M K V A B T U : Type 0} {g : ArchivedMap.Ghosts M K V} {m : Portable.Ghosts M} {k : Portable.Ghosts K} {v : Portable.Ghosts V}
    {order : T → T → Ordering} (total : IsTotalOrder order) (key_lent : List ℕ → ℕ → T) (value_lent : List ℕ → ℕ → U) (key : A → T) (value : B → U)
    (s : Updates M A B K V g m k v) (can : CanCross order key_lent value_lent key value s) (is : IsTrue s.quiet) where
  abbrev left : Updates M A B K V g m k v → List (T × U)
  left t = shown_left key_lent value_lent t.entries

  abbrev changes : List (T × Change U)
  changes = new_left key_lent value_lent key value s

  whole : old_left key_lent value_lent key value s ≡ left s
  whole = ap (λ o. put_back (option_map (both key value) o) (left s)) (can.bare is)

  -- an entry was taken: the lists that are left
  module _ (e : T × U) (rest : List (T × U)) (parts : left s ≡ e ∷ rest) where
    pub all_entries : Increasing order (e ∷ rest)
    all_entries = subst (Increasing order) (whole ∙ parts) can.ordered.old_increase

    pub crossed : (t : Updates M A B K V g m k v) → left t ≡ rest → t.ahead ≡ None → new_left key_lent value_lent key value t ≡ changes → AreOrdered order (old_left key_lent value_lent key value) (new_left key_lent value_lent key value) t
    crossed t is none same = record {
      old_increase = subst (Increasing order) (sym (ap (λ o. put_back (option_map (both key value) o) (left t)) none ∙ is)) (increasing_tail order e rest all_entries);
      new_increase = subst (Increasing order) (sym same) can.ordered.new_increase;
    }

    pub crossing_gives : IsBeforeAll order e changes → merged order (old_left key_lent value_lent key value) (new_left key_lent value_lent key value) s ≡ e ∷ updated order (put_back (option_map (both key value) s.ahead) rest) changes
    crossing_gives before =
        ap (λ xs. updated order xs changes) (whole ∙ parts) ∙ before_updated total e rest changes before
        ∙ ap (λ o. e ∷ updated order (put_back (option_map (both key value) o) rest) changes) (sym (can.bare is))

    -- it is put back
    pub returned : old_left key_lent value_lent key value s ≡ e ∷ rest
    returned = whole ∙ parts
