-- The last of a list that is mapped.
use Rattle.std.proofs.Common.{◌≡◌, List, [], ◌∷◌, map, refl, Option, Some, None}
use Rattle.std.specs.List.{last_or}
use Rattle.std.specs.Option.{option_map}

mapped_from : {A B : Type 0} (f : A → B) (o : Option A) (xs : List A) → option_map f (last_or o xs) ≡ last_or (option_map f o) (map f xs)
mapped_from f o [] = refl
mapped_from f o (x ∷ xs) = mapped_from f (Some x) xs

pub last_mapped : {A B : Type 0} (f : A → B) (xs : List A) → option_map f (last_or None xs) ≡ last_or None (map f xs)
last_mapped f xs = mapped_from f None xs
