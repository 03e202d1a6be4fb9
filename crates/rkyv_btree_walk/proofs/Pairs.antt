-- What holds of each element of a list, and of each and each later one.
use Rattle.std.proofs.Common.{◌≡◌, ℕ, zero, suc, ◌<◌, List, [], ◌∷◌, ◌++◌, arith, subst, Some, slice_get}

module _ {X : Type 0} where
  abbrev pub Each : (X → Type 0) → List X → Type 0
  Each P [] = Unit {0}
  Each P (x ∷ xs) = P x × Each P xs

  abbrev pub Pairs : (X → X → Type 0) → List X → Type 0
  Pairs R [] = Unit {0}
  Pairs R (x ∷ xs) = Each (R x) xs × Pairs R xs

  pub each_more : (P Q : X → Type 0) (xs : List X) → ((x : X) → P x → Q x) → Each P xs → Each Q xs
  each_more P Q [] more h = tt
  each_more P Q (x ∷ xs) more h = (more x h.0, each_more P Q xs more h.1)

  pub each_append : (P : X → Type 0) (xs ys : List X) → Each P xs → Each P ys → Each P (xs ++ ys)
  each_append P [] ys h k = k
  each_append P (x ∷ xs) ys h k = (h.0, each_append P xs ys h.1 k)

  pub pairs_append : (R : X → X → Type 0) (xs ys : List X) → Pairs R xs → Pairs R ys → Each (λ x. Each (R x) ys) xs → Pairs R (xs ++ ys)
  pairs_append R [] ys h k both = k
  pairs_append R (x ∷ xs) ys h k both = (each_append (R x) xs ys h.0 both.0, pairs_append R xs ys h.1 k both.1)

  pub pairs_more : (R S : X → X → Type 0) (xs : List X) → ((x y : X) → R x y → S x y) → Pairs R xs → Pairs S xs
  pairs_more R S [] more h = tt
  pairs_more R S (x ∷ xs) more h = (each_more (R x) (S x) xs (more x) h.0, pairs_more R S xs more h.1)

  pub each_get : (P : X → Type 0) (xs : List X) (i : ℕ) (x : X) → Each P xs → slice_get xs i ≡ Some x → P x
  each_get P [] i x h is = absurd (cc is)
  each_get P (y ∷ xs) zero x h is = let same : y ≡ x = cc is in subst P same h.0
  each_get P (y ∷ xs) (suc i) x h is = each_get P xs i x h.1 is

  pub pairs_get : (R : X → X → Type 0) (xs : List X) (i j : ℕ) (x y : X) → Pairs R xs → i < j → slice_get xs i ≡ Some x → slice_get xs j ≡ Some y → R x y
  pairs_get R [] i j x y h less is at = absurd (cc is)
  pairs_get R (z ∷ xs) i zero x y h less is at = absurd (omega arith)
  pairs_get R (z ∷ xs) zero (suc j) x y h less is at = let same : z ≡ x = cc is in subst (λ w. R w y) same (each_get (R z) xs j y h.0 at)
  pairs_get R (z ∷ xs) (suc i) (suc j) x y h less is at = pairs_get R xs i j x y h.1 (omega arith) is at

  pub each_right : (P : X → Type 0) (xs ys : List X) → Each P (xs ++ ys) → Each P ys
  each_right P [] ys h = h
  each_right P (x ∷ xs) ys h = each_right P xs ys h.1

-- what holds of each element of one list with each of another, holds the other way round
pub each_flip : {X Y : Type 0} (P : X → Y → Type 0) (xs : List X) (ys : List Y) → Each (λ x. Each (P x) ys) xs → Each (λ y. Each (λ x. P x y) xs) ys
each_flip P xs [] h = tt
each_flip P xs (y ∷ ys) h =
    (each_more (λ x. Each (P x) (y ∷ ys)) (λ x. P x y) xs (λ x w. w.0) h, each_flip P xs ys (each_more (λ x. Each (P x) (y ∷ ys)) (λ x. Each (P x) ys) xs (λ x w. w.1) h))
