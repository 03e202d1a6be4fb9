-- Comparisons of arrays, element by element.
use Rattle.std.specs.Prelude.{◌≡◌, ◌≢◌, ℕ, zero, suc, ◌+◌, ◌*◌, ◌<◌, ◌≤◌, true, false, List, [], ◌∷◌, length, drop, slice_index_or}
use Rattle.std.specs.Cmp.Lexicographic.{pointwise, slice_cmp}
use Rattle.std.specs.Hash as fed
use Rattle.std.specs.Hash.{fed_then}
use Rattle.std.specs.List.{fold, flat_map}
use Rattle.std.specs.Ordering.{ordering_then}
use Rattle.std.specs.declared.cmp.Ordering.{Ordering}
use Rattle.std.specs.declared.cmp.Ordering.TheVariants.{Less, Equal, Greater}
use Rattle.std.proofs.Common.{arith, refl, sym, ap, ◌∙◌}
use Rattle.rkyv_btree_compound.proofs.ArrayElements.{rest_read, rest_begin, row_step, row_end, rest_places, places_step}
use Rattle.rkyv_btree_compound.specs.Elements.{elements_read}
use Rattle.rkyv_btree_portable.specs.Kind.{Kind}

-- what decides by itself
pub then_stop : (o rest : Ordering) → (o ≢ Equal) → ordering_then o rest ≡ o
then_stop Less rest unequal = refl
then_stop Equal rest unequal = absurd (unequal refl)
then_stop Greater rest unequal = refl

pub then_goes : (o rest : Ordering) → o ≡ Equal → ordering_then o rest ≡ rest
then_goes o rest equal = rw equal refl

module _ (T : Kind) (a b : List ℕ) (N p q i : ℕ) where
  module _ (less : i < N) where
    abbrev first : T.Value
    first = T.read a (p + i * T.size)

    abbrev second : T.Value
    second = T.read b (q + i * T.size)

    pub same_step : T.same first second ≡ true → pointwise T.same (rest_read T a N p i) (rest_read T b N q i) ≡ pointwise T.same (rest_read T a N p (i + 1)) (rest_read T b N q (i + 1))
    same_step same = rw (row_step T a N i p less, row_step T b N i q less, same) refl

    pub same_stop : T.same first second ≡ false → pointwise T.same (rest_read T a N p i) (rest_read T b N q i) ≡ false
    same_stop same = rw (row_step T a N i p less, row_step T b N i q less, same) refl

  pub same_end : N ≤ i → pointwise T.same (rest_read T a N p i) (rest_read T b N q i) ≡ true
  same_end none = rw (row_end T a N i p none, row_end T b N i q none) refl

  pub order_step : i < N → T.order (T.read a (p + i * T.size)) (T.read b (q + i * T.size)) ≡ Equal → slice_cmp T.order (rest_read T a N p i) (rest_read T b N q i) ≡ slice_cmp T.order (rest_read T a N p (i + 1)) (rest_read T b N q (i + 1))
  order_step less equal = rw (row_step T a N i p less, row_step T b N i q less) (then_goes _ _ equal)

  pub order_stop : i < N → (T.order (T.read a (p + i * T.size)) (T.read b (q + i * T.size)) ≢ Equal) → slice_cmp T.order (rest_read T a N p i) (rest_read T b N q i) ≡ T.order (T.read a (p + i * T.size)) (T.read b (q + i * T.size))
  order_stop less unequal = rw (row_step T a N i p less, row_step T b N i q less) (then_stop _ _ unequal)

-- an array is hashed by the number of its elements, and then by each
module _ (T : Kind) (b : List ℕ) (N at : ℕ) {S : Type 0} (write : S → List ℕ → S) where
  elements_count : (n from : ℕ) → length (elements_read T b n from) ≡ n
  elements_count zero from = refl
  elements_count (suc n) from = ap suc (elements_count n (from + T.size))

  pub hash_begin : (s t : S) → t ≡ fold write s (fed.usize N) → fold write s (fed.slice T.hash_input (elements_read T b N at)) ≡ fold write t (flat_map T.hash_input (rest_read T b N at 0))
  hash_begin s t told = rw (elements_count N at, rest_begin T b N at) (ap (λ r. fold write r (flat_map T.hash_input (elements_read T b N at))) (sym told))

  pub hash_step : (i : ℕ) (s t : S) → i < N → t ≡ fold write s (T.hash_input (T.read b (at + i * T.size))) → fold write s (flat_map T.hash_input (rest_read T b N at i)) ≡ fold write t (flat_map T.hash_input (rest_read T b N at (i + 1)))
  hash_step i s t less told =
      let rest = flat_map T.hash_input (rest_read T b N at (i + 1)) in
      rw (row_step T b N i at less) (sym (fed_then write s t (fold write t rest) (T.hash_input (T.read b (at + i * T.size))) rest told refl))

-- an element of a list, and those after it
pub drop_here : {X : Type 0} (xs : List X) (i : ℕ) (x : X) → i < length xs → x ≡ slice_index_or xs i x → drop i xs ≡ (x ∷ drop (i + 1) xs)
drop_here [] i x less is = absurd (omega (arith, less))
drop_here (y ∷ ys) zero x less is = ap (λ z. z ∷ ys) (sym is)
drop_here (y ∷ ys) (suc i) x less is =
    let next : suc (i + 1) ≡ suc i + 1 = omega arith in
    drop_here ys i x (omega (arith, less)) is ∙ ap (λ k. x ∷ drop k (y ∷ ys)) next

-- a native array is compared by its elements and those at their places
module _ {M : Type 0} (T : Kind) (compare_at : M → ℕ → Ordering) (natives : List M) (N at i : ℕ) (n : M) (less : i < N) (here : drop i natives ≡ (n ∷ drop (i + 1) natives)) where
  pub native_step : compare_at n (at + i * T.size) ≡ Equal → slice_cmp compare_at (drop i natives) (rest_places T N at i) ≡ slice_cmp compare_at (drop (i + 1) natives) (rest_places T N at (i + 1))
  native_step equal = rw (here, places_step T N i at less) (then_goes _ _ equal)

  pub native_stop : (compare_at n (at + i * T.size) ≢ Equal) → slice_cmp compare_at (drop i natives) (rest_places T N at i) ≡ compare_at n (at + i * T.size)
  native_stop unequal = rw (here, places_step T N i at less) (then_stop _ _ unequal)
