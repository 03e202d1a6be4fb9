-- What comparisons of vectors owe, by what those of their elements owe.
use Rattle.std.specs.Cmp.{first_so, second_so}
use Rattle.std.specs.Cmp.Lexicographic.{pointwise, as_long}
use Rattle.std.specs.Hash as fed
use Rattle.std.specs.List.{flat_map}
use Rattle.std.specs.Int.RustNames.{unsigned_abs}
use Rattle.std.specs.Prelude.{◌≡◌, ℕ, zero, suc, ◌+◌, Bool, true, IsTrue, List, [], ◌∷◌}
use Rattle.std.proofs.Common.{refl}
use Rattle.rkyv_btree_compound.specs.Elements.{elements_read}
use Rattle.rkyv_btree_compound.specs.VectorNatives.{places, vector_same_at}
use Rattle.rkyv_btree_compound.specs.Vectors.{vector_kind, vector_read}
use Rattle.rkyv_btree_portable.specs.Bytes.{place_at}
use Rattle.rkyv_btree_portable.specs.Kind.{Kind}
use Rattle.rkyv_btree_portable.specs.Text.{text_len}
use Rattle.rkyv_btree_view.specs.SameAs.{TestsSame}

module _ (T : Kind) (respects : (x y : T.Value) → IsTrue (T.same x y) → T.hash_input x ≡ T.hash_input y) where
  -- elements that are the same one by one are fed alike
  elements_respect : (xs ys : List T.Value) → IsTrue (pointwise T.same xs ys) → flat_map T.hash_input xs ≡ flat_map T.hash_input ys
  elements_respect [] [] same = refl
  elements_respect [] (y ∷ ys) same = absurd (cc same)
  elements_respect (x ∷ xs) [] same = absurd (cc same)
  elements_respect (x ∷ xs) (y ∷ ys) same =
      let first = respects x y (first_so (T.same x y) (pointwise T.same xs ys) same) in
      let rest = elements_respect xs ys (second_so (T.same x y) (pointwise T.same xs ys) same) in
      cc (first, rest)

  pub vectors_respect : (xs ys : List T.Value) → IsTrue (pointwise T.same xs ys) → fed.slice T.hash_input xs ≡ fed.slice T.hash_input ys
  vectors_respect xs ys same =
      let rest = elements_respect xs ys same in
      let long = as_long T.same xs ys same in
      rw (long, rest) refl

-- the test of a vector with native values, by those of its elements
module _ {T : Kind} {N : Type 0} {same_at : N → List ℕ → ℕ → Bool} (t : TestsSame T same_at) where
  tested_read : (b : List ℕ) (n at : ℕ) (natives : List N) → pointwise (λ p m. same_at m b p) (places T.size n at) natives ≡ pointwise t.same (elements_read T b n at) natives
  tested_read b zero at [] = refl
  tested_read b zero at (m ∷ ms) = refl
  tested_read b (suc n) at [] = refl
  tested_read b (suc n) at (m ∷ ms) =
      let first = t.by_value m b at in
      let rest = tested_read b n (at + T.size) ms in
      rw (first, rest) refl

  elements_alike : (natives : List N) (xs ys : List T.Value) → pointwise t.same xs natives ≡ true → pointwise t.same ys natives ≡ pointwise T.same xs ys
  elements_alike [] [] [] is = refl
  elements_alike [] [] (y ∷ ys) is = refl
  elements_alike [] (x ∷ xs) ys is = absurd (cc is)
  elements_alike (m ∷ ms) [] ys is = absurd (cc is)
  elements_alike (m ∷ ms) (x ∷ xs) [] is = refl
  elements_alike (m ∷ ms) (x ∷ xs) (y ∷ ys) is =
      let first = t.alike m x y (first_so (t.same x m) (pointwise t.same xs ms) is) in
      let rest = elements_alike ms xs ys (second_so (t.same x m) (pointwise t.same xs ms) is) in
      rw (first, rest) refl

  pub vector_tested : (b : List ℕ) (at : ℕ) (natives : List N) → vector_same_at T same_at natives b at ≡ pointwise t.same (vector_read T b at) natives
  vector_tested b at natives = tested_read b (text_len b at) (unsigned_abs (place_at b at)) natives

  pub vector_tests : {X : Type 0} (items : X → List N) → TestsSame (vector_kind T) (λ (x : X) b at. vector_same_at T same_at (items x) b at)
  vector_tests items = record {
    same = λ vs x. pointwise t.same vs (items x);
    by_value = λ x b at. vector_tested b at (items x);
    alike = λ x. elements_alike (items x);
  }
