-- The search for an entry that is out of order, as the code goes.
use Rattle.std.specs.Prelude.{ℕ, ◌+◌, List, [], ◌∷◌, Option, None, Some}
use Rattle.std.specs.Ordering.{match_ordering}
use Rattle.std.specs.declared.cmp.Ordering.{Ordering}

module _ {A B : Type 0} (order : A → A → Ordering) where
  -- among entries after one with this key, from a number on, the first whose key isn't greater than the key before it
  abbrev pub unordered_after : A → List (A × B) → ℕ → Option ℕ
  unordered_after last [] index = None
  unordered_after last (e ∷ m) index = match_ordering (order last e.0) (unordered_after e.0 m (index + 1)) (Some index) (Some index)

  -- among all
  abbrev pub unordered : List (A × B) → Option ℕ
  unordered [] = None
  unordered (e ∷ m) = unordered_after e.0 m 1
