-- What comparisons of arrays with native ones owe, by what those of their elements owe.
use Rattle.std.specs.Prelude.{◌≡◌, ℕ, zero, suc, ◌+◌, ◌⊎◌, Bool, true, List, [], ◌∷◌, map}
use Rattle.std.specs.Cmp.{first_so, second_so}
use Rattle.std.specs.Cmp.Lexicographic.{pointwise, slice_cmp}
use Rattle.std.specs.declared.cmp.Ordering.{Ordering}
use Rattle.std.specs.declared.cmp.Ordering.TheVariants.{Less, Equal, Greater}
use Rattle.std.proofs.Common.{refl, ap, ◌∙◌, inl, inr}
use Rattle.rkyv_btree_portable.specs.Kind.{Kind}
use Rattle.rkyv_btree_view.specs.Query.{IsCut, ComparesAs}
use Rattle.rkyv_btree_view.specs.SameAs.{TestsSame}
use Rattle.rkyv_btree_view.specs.laws.Cuts.{pair_cuts}
use Rattle.rkyv_btree_compound.specs.ArrayNatives.{element_places, array_compared_at, array_same_at}
use Rattle.rkyv_btree_compound.specs.Arrays.{array_kind}
use Rattle.rkyv_btree_compound.specs.Elements.{elements_read}

module _ (T : Kind) where
  -- elements are read where they are
  pub read_places : (b : List ℕ) (n at : ℕ) → map (T.read b) (element_places T.size n at) ≡ elements_read T b n at
  read_places b zero at = refl
  read_places b (suc n) at = ap (λ vs. T.read b at ∷ vs) (read_places b n (at + T.size))

  module _ {M : Type 0} where
    compared_places : {compared_at : M → List ℕ → ℕ → Ordering} (compared : M → T.Value → Ordering) → ((n : M) (b : List ℕ) (at : ℕ) → compared_at n b at ≡ compared n (T.read b at)) → (b : List ℕ) (ns : List M) (places : List ℕ) → slice_cmp (λ n place. compared_at n b place) ns places ≡ slice_cmp compared ns (map (T.read b) places)
    compared_places compared by_value b [] [] = refl
    compared_places compared by_value b [] (p ∷ ps) = refl
    compared_places compared by_value b (n ∷ ns) [] = refl
    compared_places compared by_value b (n ∷ ns) (p ∷ ps) = rw (by_value n b p, compared_places compared by_value b ns ps) refl

    tested_places : {same_at : M → List ℕ → ℕ → Bool} (same : T.Value → M → Bool) → ((n : M) (b : List ℕ) (at : ℕ) → same_at n b at ≡ same (T.read b at) n) → (b : List ℕ) (places : List ℕ) (ns : List M) → pointwise (λ place n. same_at n b place) places ns ≡ pointwise same (map (T.read b) places) ns
    tested_places same by_value b [] [] = refl
    tested_places same by_value b [] (n ∷ ns) = refl
    tested_places same by_value b (p ∷ ps) [] = refl
    tested_places same by_value b (p ∷ ps) (n ∷ ns) = rw (by_value n b p, tested_places same by_value b ps ns) refl

    -- a list of native elements, by what its first element gives and by what the rest does
    module _ {compared : M → T.Value → Ordering} (cuts : (n : M) → IsCut T.order (compared n)) where
      abbrev CutsRows : List M → Type 0
      CutsRows ns = IsCut (slice_cmp T.order) (slice_cmp compared ns)

      none_less : (xs ys : List T.Value) → slice_cmp T.order xs ys ≡ Less → (slice_cmp compared [] xs ≡ Greater) ⊎ (slice_cmp compared [] ys ≡ Less)
      none_less [] [] less = absurd (cc less)
      none_less [] (y ∷ ys) less = inr refl
      none_less (x ∷ xs) [] less = absurd (cc less)
      none_less (x ∷ xs) (y ∷ ys) less = inr refl

      none_equal : (xs ys : List T.Value) → slice_cmp T.order xs ys ≡ Equal → slice_cmp compared [] xs ≡ slice_cmp compared [] ys
      none_equal [] [] equal = refl
      none_equal [] (y ∷ ys) equal = absurd (cc equal)
      none_equal (x ∷ xs) [] equal = absurd (cc equal)
      none_equal (x ∷ xs) (y ∷ ys) equal = refl

      some_less : (n : M) (ns : List M) → CutsRows ns → (xs ys : List T.Value) → slice_cmp T.order xs ys ≡ Less → (slice_cmp compared (n ∷ ns) xs ≡ Greater) ⊎ (slice_cmp compared (n ∷ ns) ys ≡ Less)
      some_less n ns rest [] [] less = absurd (cc less)
      some_less n ns rest [] (y ∷ ys) less = inl refl
      some_less n ns rest (x ∷ xs) [] less = absurd (cc less)
      some_less n ns rest (x ∷ xs) (y ∷ ys) less = (pair_cuts (cuts n) rest).less (x, xs) (y, ys) less

      some_equal : (n : M) (ns : List M) → CutsRows ns → (xs ys : List T.Value) → slice_cmp T.order xs ys ≡ Equal → slice_cmp compared (n ∷ ns) xs ≡ slice_cmp compared (n ∷ ns) ys
      some_equal n ns rest [] [] equal = refl
      some_equal n ns rest [] (y ∷ ys) equal = absurd (cc equal)
      some_equal n ns rest (x ∷ xs) [] equal = absurd (cc equal)
      some_equal n ns rest (x ∷ xs) (y ∷ ys) equal = (pair_cuts (cuts n) rest).equal (x, xs) (y, ys) equal

      rows_cut : (ns : List M) → CutsRows ns
      rows_cut [] = record { less = none_less; equal = none_equal }
      rows_cut (n ∷ ns) = let rest = rows_cut ns in record { less = some_less n ns rest; equal = some_equal n ns rest }

    module _ {same : T.Value → M → Bool} (alike : (n : M) (x y : T.Value) → same x n ≡ true → same y n ≡ T.same x y) where
      rows_alike : (ns : List M) (xs ys : List T.Value) → pointwise same xs ns ≡ true → pointwise same ys ns ≡ pointwise T.same xs ys
      rows_alike [] [] [] is = refl
      rows_alike [] [] (y ∷ ys) is = refl
      rows_alike [] (x ∷ xs) ys is = absurd (cc is)
      rows_alike (n ∷ ns) [] ys is = absurd (cc is)
      rows_alike (n ∷ ns) (x ∷ xs) [] is = refl
      rows_alike (n ∷ ns) (x ∷ xs) (y ∷ ys) is =
          let first = alike n x y (first_so (same x n) (pointwise same xs ns) is) in
          let rest = rows_alike ns xs ys (second_so (same x n) (pointwise same xs ns) is) in
          cc

    pub arrays_compare : {compared_at : M → List ℕ → ℕ → Ordering} (N : ℕ) → ComparesAs T compared_at → ComparesAs (array_kind T N) (array_compared_at T N compared_at)
    arrays_compare N c = record {
      compared = slice_cmp c.compared;
      by_value = λ natives b at. compared_places c.compared c.by_value b natives (element_places T.size N at) ∙ ap (slice_cmp c.compared natives) (read_places b N at);
      cuts = rows_cut c.cuts;
    }

    pub arrays_test : {same_at : M → List ℕ → ℕ → Bool} (N : ℕ) → TestsSame T same_at → TestsSame (array_kind T N) (array_same_at T N same_at)
    arrays_test N t = record {
      same = pointwise t.same;
      by_value = λ natives b at. tested_places t.same t.by_value b (element_places T.size N at) natives ∙ ap (λ vs. pointwise t.same vs natives) (read_places b N at);
      alike = λ natives. rows_alike t.alike natives;
    }
