-- Lists of entries whose keys increase.
use Rattle.std.specs.Prelude.{◌≡◌, ℕ, ◌+◌, List, [], ◌∷◌, ◌++◌, length}
use Rattle.std.specs.List.Sorted.{IsStrictlySortedBy}
use Rattle.std.specs.Map.{keys_of}
use Rattle.std.specs.declared.cmp.Ordering.{Ordering}
use Rattle.std.specs.declared.cmp.Ordering.TheVariants.{Less}

module _ {A B : Type 0} (order : A → A → Ordering) where
  -- each key is less than those after it, as the keys of a std map are
  abbrev pub Increasing : List (A × B) → Type 0
  Increasing m = IsStrictlySortedBy order (keys_of m)

  -- each key is greater than the key before it
  abbrev pub EachIsGreater : List (A × B) → Type 0
  EachIsGreater m =
      (front back : List (A × B)) (before e : A × B) → m ≡ front ++ before ∷ e ∷ back → order before.0 e.0 ≡ Less

  -- entry `index` is the first whose key isn't greater than the key before it
  pub record IsOutOfOrder (m : List (A × B)) (index : ℕ) : Type 0 where
    pub front : List (A × B)
    pub before : A × B
    pub entry : A × B
    pub back : List (A × B)
    pub parts : m ≡ front ++ before ∷ entry ∷ back
    pub number : index ≡ length front + 1
    pub first : Increasing (front ++ before ∷ [])
    pub not_greater : ¬ (order before.0 entry.0 ≡ Less)
