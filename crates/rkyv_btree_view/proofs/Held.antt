-- What an iterator holds of what it has searched: the first of it, and how the rest goes on.
use Rattle.std.proofs.Common.{◌≡◌, ℕ, zero, suc, [], ◌∷◌, ◌++◌, ◌≤◌, ◌-◌, length, take, drop, map, ◌+◌, ◌<◌, List, Some, refl, ap, ◌∙◌, arith, slice_get, slice_index_or}
use Rattle.std.proofs.Math.Seq.{drop-cons}
use Rattle.std.proofs.lemmas.List.{length-drop, length-map, length-take-le}
use Rattle.std.specs.List.{AllZip}

module _ {A B : Type 0} (f : A → B) (none : A) where
  -- one is taken, and the others are left
  pub one_taken : (ways : List A) (next left : ℕ) → next + left ≤ length ways → (left ≡ 0 → ⊥)
      → map f (take left (drop next ways)) ≡ f (slice_index_or ways next none) ∷ map f (take (left - 1) (drop (next + 1) ways))
  one_taken ways next zero fits some = absurd (some refl)
  one_taken ways next (suc n) fits some =
      let less : suc n - 1 ≡ n = omega arith in
      let more : next + 1 ≡ suc next = omega arith in
      let step : drop next ways ≡ slice_index_or ways next none ∷ drop (suc next) ways = drop-cons ways next none (omega (arith, fits)) in
      rw (less, more, step) refl

  -- there are as many as are left
  pub held_count : (ways : List A) (next left : ℕ) → next + left ≤ length ways → length (map f (take left (drop next ways))) ≡ left
  held_count ways next left fits =
      let behind = length-drop next ways in
      length-map (take left (drop next ways)) f ∙ length-take-le left (drop next ways) (omega (arith, behind, fits))

  module _ {N : Type 0} where
    -- what the first ways give is what a function gives of each key, and the other keys are left
    pub filled : (g : N → B) (keys : List N) (ways : List A) (n : ℕ) → n ≤ length keys → n ≤ length ways
        → ((j : ℕ) (key : N) → j < n → slice_get keys j ≡ Some key → f (slice_index_or ways j none) ≡ g key) → map f (take n ways) ++ map g (drop n keys) ≡ map g keys
    filled g keys ways zero few fits each = refl
    filled g [] ways (suc n) few fits each = absurd (omega arith)
    filled g (key ∷ keys) [] (suc n) few fits each = absurd (omega arith)
    filled g (key ∷ keys) (way ∷ ways) (suc n) few fits each =
        let first : f way ≡ g key = each 0 key (omega arith) refl in
        rw first (ap (λ rest. g key ∷ rest) (filled g keys ways n (omega arith) (omega arith) (λ j k low is. each (suc j) k (omega arith) is)))

    -- the same where it is a relation what is given of a key
    pub all_filled : (R : N → B → Type 0) (keys : List N) (ways : List A) (later : List B) (n : ℕ) → n ≤ length keys → n ≤ length ways
        → ((j : ℕ) (key : N) → j < n → slice_get keys j ≡ Some key → R key (f (slice_index_or ways j none))) → AllZip R (drop n keys) later → AllZip R keys (map f (take n ways) ++ later)
    all_filled R keys ways later zero few fits each rest = rest
    all_filled R [] ways later (suc n) few fits each rest = absurd (omega arith)
    all_filled R (key ∷ keys) [] later (suc n) few fits each rest = absurd (omega arith)
    all_filled R (key ∷ keys) (way ∷ ways) later (suc n) few fits each rest =
        (each 0 key (omega arith) refl, all_filled R keys ways later n (omega arith) (omega arith) (λ j k low is. each (suc j) k (omega arith) is) rest)
