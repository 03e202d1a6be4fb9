-- The current entry of a cursor among all entries.
use Rattle.std.specs.Prelude.{◌≡◌, List, [], ◌∷◌, ◌++◌, Option, Some, None}

-- the element that is lent, if one is, stands in the list, right before those that are left
abbrev pub lent_list : {X : Type 0} → Option X → List X
lent_list None = []
lent_list (Some x) = x ∷ []

abbrev pub IsAmong : {X : Type 0} → List X → Option X → List X → Type 0
IsAmong {X} all lent left = (before behind : List X) × (all ≡ before ++ (lent_list lent ++ (left ++ behind)))
