-- The changes that lead from one map's list to another's.
use Rattle.std.specs.BTreeMap.{is_at}
use Rattle.std.specs.List.{AllByRecursion}
use Rattle.std.specs.List.Sorted.{IsStrictlySortedBy}
use Rattle.std.specs.Map.{keys_of, lookup}
use Rattle.std.specs.Prelude.{◌≡◌, List, Option, Some}
use Rattle.std.specs.declared.cmp.Ordering.{Ordering}
use Rattle.rkyv_btree_update.specs.Updated.{updated, last_word}
use Rattle.rkyv_btree_update.specs.declared.change.Change.{Change}

-- a change doesn't leave what was there: it deletes an entry, or puts another value than the entry's
abbrev pub Differs : {B : Type 0} → Change B → Option B → Type 0
Differs c old = last_word (Some c) old ≡ old → ⊥

module _ {A B : Type 0} (order : A → A → Ordering) where
  -- a change of a list isn't in vain
  abbrev pub Counts : List (A × B) → A × Change B → Type 0
  Counts m c = Differs c.1 (lookup (is_at (order c.0)) m)

  -- changes whose keys increase, none of which is in vain, lead from one list to the other
  pub record IsDifference (m n : List (A × B)) (changes : List (A × Change B)) : Type 0 where
    pub increase : IsStrictlySortedBy order (keys_of changes)
    pub counts : AllByRecursion (Counts m) changes
    pub leads : updated order m changes ≡ n
