-- What native vectors owe, by what their elements owe.
use Rattle.std.specs.Cmp.{first_so, second_so}
use Rattle.std.specs.Cmp.Lexicographic.{pointwise}
use Rattle.std.specs.Int.RustNames.{unsigned_abs}
use Rattle.std.specs.Prelude.{◌≡◌, ℕ, zero, suc, ◌+◌, Bool, true, List, [], ◌∷◌, map, Result}
use Rattle.std.proofs.Common.{refl, ap}
use Rattle.rkyv_btree_compound.specs.Elements.{elements_read}
use Rattle.rkyv_btree_compound.specs.Vectors.{vector_kind, vector_read}
use Rattle.rkyv_btree_convert.specs.Deserializing.{IsByMeaning, all}
use Rattle.rkyv_btree_convert.specs.Vectors.{elements_given, vector_decoded}
use Rattle.rkyv_btree_convert.specs.laws.Pairs.{ModelIsWhole}
use Rattle.rkyv_btree_portable.specs.Bytes.{place_at}
use Rattle.rkyv_btree_portable.specs.Kind.{Kind}
use Rattle.rkyv_btree_portable.specs.Text.{text_len}
use Rattle.rkyv_btree_writer.specs.declared.fault.EntryFault.{EntryFault}

-- what elements give is what their values give
pub given_by_values : {A : Type 0} (T : Kind) {decoded : List ℕ → ℕ → Result A EntryFault} → (t : IsByMeaning T decoded) → (b : List ℕ) (n at : ℕ) → elements_given T decoded b n at ≡ map t.of_value (elements_read T b n at)
given_by_values T t b zero at = refl
given_by_values T t b (suc n) at =
    let first = t.by_value b at in
    let rest = given_by_values T t b n (at + T.size) in
    cc

pub vector_by_values : {A : Type 0} (T : Kind) {decoded : List ℕ → ℕ → Result A EntryFault} → (t : IsByMeaning T decoded) → (b : List ℕ) (at : ℕ) → vector_decoded T decoded b at ≡ all (map t.of_value (vector_read T b at))
vector_by_values T t b at = ap all (given_by_values T t b (text_len b at) (unsigned_abs (place_at b at)))

pub vector_by_meaning : {A : Type 0} (T : Kind) {decoded : List ℕ → ℕ → Result A EntryFault} → IsByMeaning T decoded → IsByMeaning (vector_kind T) (vector_decoded T decoded)
vector_by_meaning T t = record {
  of_value = λ vs. all (map t.of_value vs);
  by_value = vector_by_values T t;
}

-- vectors with the same model are equal where they equal themselves
pub vector_model_whole : {N A : Type 0} {model : N → A} {same : N → N → Bool} → ModelIsWhole model same → (xs ys : List N) → map model xs ≡ map model ys → pointwise same xs xs ≡ true → pointwise same xs ys ≡ true
vector_model_whole whole [] [] model own = refl
vector_model_whole whole [] (y ∷ ys) model own = absurd (cc model)
vector_model_whole whole (x ∷ xs) [] model own = absurd (cc model)
vector_model_whole {same} whole (x ∷ xs) (y ∷ ys) model own =
    let first = whole x y (cc model) (first_so (same x x) (pointwise same xs xs) own) in
    let rest = vector_model_whole whole xs ys (cc model) (second_so (same x x) (pointwise same xs xs) own) in
    rw first rest
