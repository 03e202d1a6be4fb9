-- It follows the code: what is left of the entries of a map and of a merge of these and of changes.
use Rattle.std.specs.Iterator.{YieldsFirst}
use Rattle.std.specs.Option.{option_map}
use Rattle.std.specs.Ordering.{is_eq}
use Rattle.std.specs.List.{AllByRecursion}
use Rattle.std.specs.Map.{keys_of}
use Rattle.std.specs.Prelude.{◌≡◌, ℕ, zero, suc, ◌+◌, ◌-◌, ◌<◌, List, [], ◌∷◌, length, Option, None, Some, IfNone, IfSome, IsTrue, MatchOption}
use Rattle.std.specs.declared.cmp.Ordering.{Ordering}
use Rattle.std.specs.declared.cmp.Ordering.TheVariants.{Less}
use Rattle.rkyv_btree_format.specs.Increasing.{Increasing}
use Rattle.rkyv_btree_portable.specs.declared.check.Portable
use Rattle.rkyv_btree_update.specs.Natives.{both, read_shown}
use Rattle.rkyv_btree_update.specs.Updated.{all_put, changes_meant, key_change, updated}
use Rattle.rkyv_btree_update.specs.declared.change.Change.{Change}
use Rattle.rkyv_btree_update.specs.declared.change.Change.TheVariants.{Put, Delete}
use Rattle.rkyv_btree_update.specs.mirror.Compared.{compared}
use Rattle.rkyv_btree_update.specs.declared.diff.Differences.{Differences}
use Rattle.rkyv_btree_update.specs.declared.changing.Changing.{Changing}
use Rattle.rkyv_btree_update.specs.declared.changing.Changing.TheVariants.{Listed, Puts}
use Rattle.rkyv_btree_update.specs.declared.updates.Updates.{Updates}
use Rattle.rkyv_btree_update.specs.declared.entries.Entries.{Entries}
use Rattle.rkyv_btree_view.specs.Iter.{at_hand, last_of}
use Rattle.rkyv_btree_view.specs.declared.iter.Iter.{Iter}
use Rattle.rkyv_btree_walk.specs.declared.archived_map.ArchivedMap

-- an element that was taken ahead, and those after it: where none was, there was none to take
abbrev pub ahead : {X : Type 0} → Option X → List X → List X
ahead None rest = []
ahead (Some x) rest = x ∷ rest

module _ {M K V T U : Type 0} {g : ArchivedMap.Ghosts M K V} {m : Portable.Ghosts M} {k : Portable.Ghosts K} {v : Portable.Ghosts V}
    (key_lent : List ℕ → ℕ → T) (value_lent : List ℕ → ℕ → U) where
  -- what the entries that remain of an iterator show
  abbrev pub shown_left : Iter M K V g m k v → List (T × U)
  shown_left s = last_of (s.walk.behind + (s.walk.end - s.walk.next)) (read_shown k.kind v.kind g.E key_lent value_lent s.buf.now s.pos)

  -- and those that are to come, of which the next one is known
  abbrev pub entries_ahead : {A B : Type 0} → (A → T) → (B → U) → Entries M A B K V g m k v → List (T × U)
  entries_ahead key value s = ahead (option_map (both key value) s.next) (shown_left s.later)

-- the entry of a key after a change, if there is one
abbrev pub entry_put : {T U : Type 0} → T → Change U → Option (Option (T × U))
entry_put k (Put v) = Some (Some (k, v))
entry_put k Delete = None

module _ {T U S : Type 0} (cmp : T → T → Ordering) (old : S → List (T × U)) (new : S → List (T × Change U)) where
  -- the keys of both lists increase
  pub record AreOrdered (s : S) : Type 0 where
    pub old_increase : Increasing cmp (old s)
    pub new_increase : Increasing cmp (new s)

  -- the entries after the changes that are left
  abbrev pub merged : S → List (T × U)
  merged s = updated cmp (old s) (new s)

  -- a step gave the next entry, if there is one, or passed over a change that deletes
  abbrev pub Steps : S → Option (Option (T × U)) → S → Type 0
  Steps s step t =
      MatchOption step ((merged s ≡ merged t) × AreOrdered t × (length (new t) < length (new s)))
      (λ item. YieldsFirst merged s item t × IfSome item (λ _. AreOrdered t))

-- an entry comes before all changes
abbrev pub IsBeforeAll : {T U W : Type 0} → (T → T → Ordering) → T × U → List (T × W) → Type 0
IsBeforeAll cmp e cs = AllByRecursion (λ k. cmp e.0 k ≡ Less) (keys_of cs)

-- the first n entries of a list do
abbrev pub FirstBefore : {T U W : Type 0} → (T → T → Ordering) → ℕ → List (T × U) → List (T × W) → Type 0
FirstBefore cmp zero xs cs = Unit {0}
FirstBefore cmp (suc n) [] cs = Unit {0}
FirstBefore cmp (suc n) (x ∷ xs) cs = IsBeforeAll cmp x cs × FirstBefore cmp n xs cs

-- an element that was put back, and those after it
abbrev pub put_back : {X : Type 0} → Option X → List X → List X
put_back None rest = rest
put_back (Some x) rest = x ∷ rest

-- what the entries and the changes that are left of a merge show
abbrev pub old_left : {M K V A B T U : Type 0} {g : ArchivedMap.Ghosts M K V} {m : Portable.Ghosts M} {k : Portable.Ghosts K} {v : Portable.Ghosts V}
    → (List ℕ → ℕ → T) → (List ℕ → ℕ → U) → (A → T) → (B → U) → Updates M A B K V g m k v → List (T × U)
old_left key_lent value_lent key value s =
    put_back (option_map (both key value) s.ahead) (shown_left key_lent value_lent s.entries)

-- and the changes alone
abbrev pub changing_left : {M K V A B T U : Type 0} {g : ArchivedMap.Ghosts M K V} {m : Portable.Ghosts M} {k : Portable.Ghosts K} {v : Portable.Ghosts V}
    → (List ℕ → ℕ → T) → (List ℕ → ℕ → U) → (A → T) → (B → U) → Changing M A B K V g m k v → List (T × Change U)
changing_left key_lent value_lent key value (Listed changes) = changes_meant key value changes.now
changing_left key_lent value_lent key value (Puts entries) = all_put (shown_left key_lent value_lent entries)

abbrev pub new_left : {M K V A B T U : Type 0} {g : ArchivedMap.Ghosts M K V} {m : Portable.Ghosts M} {k : Portable.Ghosts K} {v : Portable.Ghosts V}
    → (List ℕ → ℕ → T) → (List ℕ → ℕ → U) → (A → T) → (B → U) → Updates M A B K V g m k v → List (T × Change U)
new_left key_lent value_lent key value s =
    ahead (option_map (key_change key value) s.change) (changing_left key_lent value_lent key value s.changes)

-- a merge at which all entries at hand come before the changes that are left, if it says so
module _ {M K V A B T U : Type 0} {g : ArchivedMap.Ghosts M K V} {m : Portable.Ghosts M} {k : Portable.Ghosts K} {v : Portable.Ghosts V}
    (order : T → T → Ordering) (key_lent : List ℕ → ℕ → T) (value_lent : List ℕ → ℕ → U) (key : A → T) (value : B → U) where
  abbrev pub IsQuiet : Updates M A B K V g m k v → Type 0
  IsQuiet s = (s.ahead ≡ None) × FirstBefore order (at_hand s.entries) (shown_left key_lent value_lent s.entries) (new_left key_lent value_lent key value s)

  -- or the next entry is in another node
  pub record CanCross (s : Updates M A B K V g m k v) : Type 0 where
    pub ordered : AreOrdered order (old_left key_lent value_lent key value) (new_left key_lent value_lent key value) s
    pub bare : IsTrue s.quiet → s.ahead ≡ None

  pub record CanMerge (s : Updates M A B K V g m k v) : Type 0 where
    pub ordered : AreOrdered order (old_left key_lent value_lent key value) (new_left key_lent value_lent key value) s
    pub quiet : IsTrue s.quiet → IsQuiet s

  abbrev all_left : Updates M A B K V g m k v → List (T × U)
  all_left = merged order (old_left key_lent value_lent key value) (new_left key_lent value_lent key value)

  -- the next entry was taken, or the same entries are to come
  pub record MayTake (s : Updates M A B K V g m k v) (r : Option (A × B)) (t : Updates M A B K V g m k v) : Type 0 where
    pub gives : IfSome r (λ entry. all_left s ≡ both key value entry ∷ all_left t)
    pub can : IfSome r (λ _. CanMerge t)
    pub kept : IfNone r (all_left t ≡ all_left s)

-- what is left of a comparison of two maps: the changes, and how many entries
module _ {M K V A B T U : Type 0} {g : ArchivedMap.Ghosts M K V} {m : Portable.Ghosts M} {k : Portable.Ghosts K} {v : Portable.Ghosts V} where
  abbrev pub diff_left : (T → T → Ordering) → (U → U → Ordering) → (List ℕ → ℕ → T) → (List ℕ → ℕ → U) → (A → T) → (B → U)
      → Differences M A B K V g m k v → List (T × Change U)
  diff_left order value_order key_lent value_lent key value s =
      compared order (λ x y. is_eq (value_order x y)) (entries_ahead key_lent value_lent key value s.from)
      (entries_ahead key_lent value_lent key value s.to)

  abbrev pub diff_size : (List ℕ → ℕ → T) → (List ℕ → ℕ → U) → (A → T) → (B → U) → Differences M A B K V g m k v → ℕ
  diff_size key_lent value_lent key value s =
      length (entries_ahead key_lent value_lent key value s.from) + length (entries_ahead key_lent value_lent key value s.to)
