-- Two lists whose first items agree are the same exactly where the rest of both is.
use Rattle.std.proofs.Common.{◌≡◌, Bool, true, List, ◌∷◌, refl}
use Rattle.std.specs.Cmp.Lexicographic.{pointwise}

pub agreed : {A B : Type 0} (same : A → B → Bool) (xs rest : List A) (ys others : List B) (x : A) (y : B) → xs ≡ x ∷ rest → ys ≡ y ∷ others → same x y ≡ true → pointwise same rest others ≡ pointwise same xs ys
agreed same xs rest ys others x y first second both = rw (first, second, both) refl
