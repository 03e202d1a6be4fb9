-- What tests with native values owe: of numbers and texts, and of entries and maps by what their parts owe.
use Rattle.std.specs.Prelude.{◌≡◌, ◌+◌, ◌&&◌, ℕ, Bool, true, false, List, [], ◌∷◌, map}
use Rattle.std.specs.Cmp.{IsEquivalence, first_so, second_so}
use Rattle.std.specs.Cmp.Lexicographic.{pointwise}
use Rattle.std.specs.declared.cmp.Ordering.{Ordering}
use Rattle.std.proofs.Common.{refl, sym, ap, ◌∙◌}
use Rattle.rkyv_btree_portable.specs.Entry.{entry_kind, value_offset}
use Rattle.rkyv_btree_portable.specs.Kind.{Kind}
use Rattle.rkyv_btree_format.specs.Layout.{layout_of, key_at, value_at}
use Rattle.rkyv_btree_verify.specs.Map.{map_kind}
use Rattle.rkyv_btree_format.specs.Read.{entry_at, map_tree}
use Rattle.rkyv_btree_portable.specs.Scalars.{unit_kind}
use Rattle.rkyv_btree_format.specs.Units.{with_units}
use Rattle.rkyv_btree_shape.specs.Tree.{list}
use Rattle.rkyv_btree_view.specs.Native.{ReadAs}
use Rattle.rkyv_btree_view.specs.SameAs.{TestsSame, map_same_at, set_same_at}

-- the test with one element of an equivalence
one_class : {X : Type 0} {same : X → X → Bool} → IsEquivalence same → (n x y : X) → same x n ≡ true → same y n ≡ same x y
one_class e n x y is = e.symm y n ∙ sym (e.congr x n y is)

-- a native value that has a value of the kind
pub same_tests : {N : Type 0} (kind : Kind) → IsEquivalence kind.same → (value : N → kind.Value) → TestsSame kind (λ (n : N) b at. kind.same (kind.read b at) (value n))
same_tests kind equivalence value = record { same = λ x n. kind.same x (value n); by_value = λ n b at. refl; alike = λ n. one_class equivalence (value n) }

-- a native value, where values are read as native ones and compared as these
pub native_tests : {N : Type 0} {kind : Kind} {read_native : List ℕ → ℕ → N} {native_same : N → N → Bool} {native_order : N → N → Ordering} {native_input : N → List (List ℕ)} (r : ReadAs kind read_native native_same native_order native_input)
    → IsEquivalence native_same → TestsSame kind (λ n b at. native_same (read_native b at) n)
native_tests {native_same} r equivalence = record {
  same = λ x n. native_same (r.native x) n;
  by_value = λ n b at. ap (λ x. native_same x n) (r.by_value b at);
  alike = λ n x y is. one_class equivalence n (r.native x) (r.native y) is ∙ sym (r.same x y);
}

module _ {K V : Kind} {T U : Type 0} {same_key_at : T → List ℕ → ℕ → Bool} {same_value_at : U → List ℕ → ℕ → Bool} (k : TestsSame K same_key_at) (v : TestsSame V same_value_at) where
  -- the test of both parts
  abbrev same_parts : K.Value × V.Value → T × U → Bool
  same_parts e n = k.same e.0 n.0 && v.same e.1 n.1

  parts_alike : (n : T × U) (x y : K.Value × V.Value) → same_parts x n ≡ true → same_parts y n ≡ (entry_kind K V).same x y
  parts_alike n x y is =
      let key = k.alike n.0 x.0 y.0 (first_so (k.same x.0 n.0) (v.same x.1 n.1) is) in
      let value = v.alike n.1 x.1 y.1 (second_so (k.same x.0 n.0) (v.same x.1 n.1) is) in
      rw (key, value) refl

  pub pair_tests : {N : Type 0} (parts : N → T × U) → TestsSame (entry_kind K V) (λ n b at. same_key_at (parts n).0 b at && same_value_at (parts n).1 b (at + value_offset K V))
  pair_tests parts = record {
    same = λ e n. k.same e.0 (parts n).0 && v.same e.1 (parts n).1;
    by_value = λ n b at. rw (k.by_value (parts n).0 b at, v.by_value (parts n).1 b (at + value_offset K V)) refl;
    alike = λ n. parts_alike (parts n);
  }

  lists_alike : (ns : List (T × U)) (xs ys : List (K.Value × V.Value)) → pointwise same_parts xs ns ≡ true → pointwise same_parts ys ns ≡ pointwise (entry_kind K V).same xs ys
  lists_alike [] [] [] is = refl
  lists_alike [] [] (y ∷ ys) is = refl
  lists_alike [] (x ∷ xs) ys is = absurd (cc is)
  lists_alike (n ∷ ns) [] ys is = absurd (cc is)
  lists_alike (n ∷ ns) (x ∷ xs) [] is = refl
  lists_alike (n ∷ ns) (x ∷ xs) (y ∷ ys) is =
      let first = parts_alike n x y (first_so (same_parts x n) (pointwise same_parts xs ns) is) in
      let rest = lists_alike ns xs ys (second_so (same_parts x n) (pointwise same_parts xs ns) is) in
      cc

module _ (K V : Kind) (E : ℕ) {T U : Type 0} {same_key_at : T → List ℕ → ℕ → Bool} {same_value_at : U → List ℕ → ℕ → Bool} where
  -- the test at positions is the test by what keys and values mean
  pub places_tested : (same_key : K.Value → T → Bool) (same_value : V.Value → U → Bool) → ((n : T) (b : List ℕ) (at : ℕ) → same_key_at n b at ≡ same_key (K.read b at) n) → ((n : U) (b : List ℕ) (at : ℕ) → same_value_at n b at ≡ same_value (V.read b at) n)
      → (b : List ℕ) (places : List (ℕ × ℕ)) (natives : List (T × U))
      → pointwise (λ e n. same_key_at n.0 b (e.0 + key_at (layout_of K V E) e.1) && same_value_at n.1 b (e.0 + value_at (layout_of K V E) e.1)) places natives ≡ pointwise (λ e n. same_key e.0 n.0 && same_value e.1 n.1) (map (entry_at K V E b) places) natives
  places_tested same_key same_value keys values b [] [] = refl
  places_tested same_key same_value keys values b [] (n ∷ ns) = refl
  places_tested same_key same_value keys values b (e ∷ es) [] = refl
  places_tested same_key same_value keys values b (e ∷ es) (n ∷ ns) =
      let key = keys n.0 b (e.0 + key_at (layout_of K V E) e.1) in
      let value = values n.1 b (e.0 + value_at (layout_of K V E) e.1) in
      let rest = places_tested same_key same_value keys values b es ns in
      cc

  pub map_tests : {N : Type 0} → TestsSame K same_key_at → TestsSame V same_value_at → (entries : N → List (T × U)) → TestsSame (map_kind K V E) (λ n b at. map_same_at K V E same_key_at same_value_at (entries n) b at)
  map_tests k v entries = record {
    same = λ es n. pointwise (λ e n. k.same e.0 n.0 && v.same e.1 n.1) es (entries n);
    by_value = λ n b at. places_tested k.same v.same k.by_value v.by_value b (list (map_tree (layout_of K V E) b at)) (entries n);
    alike = λ n. lists_alike k v (entries n);
  }

-- a () is the same as each other
unit_tests : TestsSame unit_kind (λ (unit : Unit {0}) b at. true)
unit_tests = record { same = λ x n. true; by_value = λ n b at. refl; alike = λ n x y is. refl }

pub set_tests : (K : Kind) (E : ℕ) {T N : Type 0} {same_key_at : T → List ℕ → ℕ → Bool} → TestsSame K same_key_at → (keys : N → List T) → TestsSame (map_kind K unit_kind E) (λ n b at. set_same_at K E same_key_at (keys n) b at)
set_tests K E k keys = map_tests K unit_kind E k unit_tests (λ n. with_units (keys n))

-- the test of keys is that of entries with a () each
and_true : (b : Bool) → (b && true) ≡ b
and_true true = refl
and_true false = refl

pub units_tested : {A T : Type 0} (same : A → T → Bool) (entries : List (A × Unit {0})) (natives : List T) → pointwise (λ e n. same e.0 n.0 && true) entries (with_units natives) ≡ pointwise same (map (λ e. e.0) entries) natives
units_tested same [] [] = refl
units_tested same [] (n ∷ ns) = refl
units_tested same (e ∷ es) [] = refl
units_tested same (e ∷ es) (n ∷ ns) = rw (and_true (same e.0 n), units_tested same es ns) refl
