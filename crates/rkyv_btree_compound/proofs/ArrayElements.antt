-- The elements of an array where they are.
use Rattle.std.specs.Prelude.{◌≡◌, ℕ, zero, suc, ◌+◌, ◌-◌, ◌*◌, ◌<◌, ◌≤◌, IsTrue, List, [], ◌∷◌, length}
use Rattle.std.proofs.Common.{arith, ap, subst, sym, ◌∙◌}
use Rattle.std.proofs.Math.Nat.{suc-mul}
use Rattle.rkyv_btree_compound.specs.ArrayNatives.{element_places}
use Rattle.rkyv_btree_compound.specs.Arrays.{array_kind}
use Rattle.rkyv_btree_compound.specs.Elements.{Elements, elements_read}
use Rattle.rkyv_btree_compound.specs.laws.ArrayLaws.{array_laws, fitting_array}
use Rattle.rkyv_btree_compound.specs.laws.ElementLaws.{after_one}
use Rattle.rkyv_btree_portable.specs.Kind.{Kind, IsLawful}
use Rattle.rkyv_btree_portable.specs.Views.{stands}
use Rattle.rkyv_btree_portable.specs.laws.Views.{means_read, stands_of, fitting_of}

module _ (T : Kind) (t : IsLawful T) where
  elements_stand : IsTrue T.is_fitting → (b : List ℕ) (lo hi at left : ℕ) (vs : List T.Value) (i : ℕ) → i < length vs → Elements T b lo hi at left vs → IsTrue (stands T b (at + i * T.size))
  elements_stand fits b lo hi at left [] i less m = absurd (omega (arith, less))
  elements_stand fits b lo hi at left (v ∷ vs) zero less m = subst (λ p. IsTrue (stands T b p)) (omega arith) (stands_of t fits b lo hi at m.0 v m.1)
  elements_stand fits b lo hi at left (v ∷ vs) (suc i) less m =
      subst (λ p. IsTrue (stands T b p)) (sym (after_one at i T.size)) (elements_stand fits b m.0 hi (at + T.size) left vs i (omega (arith, less)) m.2)

  -- where an array stands, so does each of its elements
  pub element_stands : (N : ℕ) (b : List ℕ) (at : ℕ) → IsTrue (stands (array_kind T N) b at) → (i : ℕ) → i < N → IsTrue (stands T b (at + i * T.size))
  element_stands N b at h i less =
      let m = means_read (array_laws T N t) b at h in
      let fits = (fitting_array T N (fitting_of (array_kind T N) b at h)).element in
      elements_stand fits b 0 at at m.left _ i (omega (arith, less, m.means.count)) m.means.elements

-- what is read of the elements of an array of N from one on
abbrev pub rest_read : (T : Kind) → List ℕ → ℕ → ℕ → ℕ → List T.Value
rest_read T b N at i = elements_read T b (N - i) (at + i * T.size)

pub rest_begin : (T : Kind) (b : List ℕ) (N at : ℕ) → rest_read T b N at 0 ≡ elements_read T b N at
rest_begin T b N at =
    let all : N - 0 ≡ N = omega arith in
    let first : at + 0 * T.size ≡ at = omega arith in
    ap (λ k. elements_read T b k (at + 0 * T.size)) all ∙ ap (elements_read T b N) first

-- an element, and what is read after it
pub row_step : (T : Kind) (b : List ℕ) (N i at : ℕ) → i < N → rest_read T b N at i ≡ (T.read b (at + i * T.size) ∷ rest_read T b N at (i + 1))
row_step T b N i at less =
    let more : N - i ≡ suc (N - (i + 1)) = omega (arith, less) in
    let next : at + i * T.size + T.size ≡ at + (i + 1) * T.size = omega (arith, suc-mul i T.size) in
    ap (λ k. elements_read T b k (at + i * T.size)) more ∙ ap (λ p. T.read b (at + i * T.size) ∷ elements_read T b (N - (i + 1)) p) next

-- and after the last one nothing
pub row_end : (T : Kind) (b : List ℕ) (N i at : ℕ) → N ≤ i → rest_read T b N at i ≡ []
row_end T b N i at none =
    let over : N - i ≡ 0 = omega (arith, none) in
    ap (λ k. elements_read T b k (at + i * T.size)) over

-- where those elements are
abbrev pub rest_places : (T : Kind) → ℕ → ℕ → ℕ → List ℕ
rest_places T N at i = element_places T.size (N - i) (at + i * T.size)

pub places_begin : (T : Kind) (N at : ℕ) → rest_places T N at 0 ≡ element_places T.size N at
places_begin T N at =
    let all : N - 0 ≡ N = omega arith in
    let first : at + 0 * T.size ≡ at = omega arith in
    ap (λ k. element_places T.size k (at + 0 * T.size)) all ∙ ap (element_places T.size N) first

pub places_step : (T : Kind) (N i at : ℕ) → i < N → rest_places T N at i ≡ ((at + i * T.size) ∷ rest_places T N at (i + 1))
places_step T N i at less =
    let more : N - i ≡ suc (N - (i + 1)) = omega (arith, less) in
    let next : at + i * T.size + T.size ≡ at + (i + 1) * T.size = omega (arith, suc-mul i T.size) in
    ap (λ k. element_places T.size k (at + i * T.size)) more ∙ ap (λ p. (at + i * T.size) ∷ element_places T.size (N - (i + 1)) p) next

pub places_end : (T : Kind) (N i at : ℕ) → N ≤ i → rest_places T N at i ≡ []
places_end T N i at none =
    let over : N - i ≡ 0 = omega (arith, none) in
    ap (λ k. element_places T.size k (at + i * T.size)) over
