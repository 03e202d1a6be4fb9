-- What native arrays owe, by what their elements owe.
use Rattle.std.specs.Cmp.Lexicographic.{slice_cmp}
use Rattle.std.specs.Ordering.{ordering_then}
use Rattle.std.specs.Prelude.{◌≡◌, ℕ, List, [], ◌∷◌, map, Result}
use Rattle.std.specs.declared.cmp.Ordering.{Ordering}
use Rattle.std.specs.declared.cmp.Ordering.TheVariants.{Less, Equal, Greater}
use Rattle.std.proofs.Common.{refl, ap}
use Rattle.rkyv_btree_compound.specs.Arrays.{array_kind}
use Rattle.rkyv_btree_compound.specs.Elements.{elements_read}
use Rattle.rkyv_btree_convert.specs.Deserializing.{IsByMeaning, all}
use Rattle.rkyv_btree_convert.specs.Vectors.{array_decoded}
use Rattle.rkyv_btree_convert.specs.laws.Vectors.{given_by_values}
use Rattle.rkyv_btree_portable.specs.Kind.{Kind}
use Rattle.rkyv_btree_writer.specs.declared.fault.EntryFault.{EntryFault}

pub array_by_values : {A : Type 0} (T : Kind) (N : ℕ) {decoded : List ℕ → ℕ → Result A EntryFault} → (t : IsByMeaning T decoded) → (b : List ℕ) (at : ℕ) → array_decoded T decoded N b at ≡ all (map t.of_value (elements_read T b N at))
array_by_values T N t b at = ap all (given_by_values T t b N at)

pub array_by_meaning : {A : Type 0} (T : Kind) (N : ℕ) {decoded : List ℕ → ℕ → Result A EntryFault} → IsByMeaning T decoded → IsByMeaning (array_kind T N) (array_decoded T decoded N)
array_by_meaning T N t = record {
  of_value = λ vs. all (map t.of_value vs);
  by_value = array_by_values T N t;
}

-- arrays of keys are ordered as their models
pub arrays_ordered : {M A : Type 0} (model : M → A) {order : M → M → Ordering} (model_order : A → A → Ordering) → ((x y : M) → order x y ≡ model_order (model x) (model y)) → (xs ys : List M) → slice_cmp order xs ys ≡ slice_cmp model_order (map model xs) (map model ys)
arrays_ordered model model_order alike [] [] = refl
arrays_ordered model model_order alike [] (y ∷ ys) = refl
arrays_ordered model model_order alike (x ∷ xs) [] = refl
arrays_ordered model model_order alike (x ∷ xs) (y ∷ ys) = rw (alike x y, arrays_ordered model model_order alike xs ys) refl

-- where equal elements are the same, so are equal arrays
pub arrays_same : {A : Type 0} {order : A → A → Ordering} → ((x y : A) → order x y ≡ Equal → x ≡ y) → (xs ys : List A) → slice_cmp order xs ys ≡ Equal → xs ≡ ys
arrays_same same [] [] equal = refl
arrays_same same [] (y ∷ ys) equal = absurd (cc equal)
arrays_same same (x ∷ xs) [] equal = absurd (cc equal)
arrays_same {order} same (x ∷ xs) (y ∷ ys) equal =
    let both = then_equal (order x y) (slice_cmp order xs ys) equal in
    let first = same x y both.0 in
    let rest = arrays_same same xs ys both.1 in
    cc
  where
    then_equal : (o rest : Ordering) → ordering_then o rest ≡ Equal → (o ≡ Equal) × (rest ≡ Equal)
    then_equal Less rest e = absurd (cc e)
    then_equal Equal rest e = (refl, e)
    then_equal Greater rest e = absurd (cc e)
