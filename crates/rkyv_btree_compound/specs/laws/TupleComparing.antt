-- What comparisons of tuples and of their first fields owe, by what those of their fields owe.
use Rattle.std.specs.Cmp.{IsEquivalence, IsTotalOrder, on_equiv, on_total, and_equiv, then_total, both_tied, first_so, second_so}
use Rattle.std.specs.Ordering.{is_eq, ordering_then}
use Rattle.std.specs.Prelude.{◌≡◌, ◌&&◌, ℕ, Bool, true, IsTrue, List}
use Rattle.std.specs.declared.cmp.Ordering.{Ordering}
use Rattle.std.proofs.Common.{refl}
use Rattle.rkyv_btree_compound.specs.Joined.{joined_end, joined_kind}
use Rattle.rkyv_btree_compound.specs.Tuples.{front_kind, tuple_kind, tuple_size}
use Rattle.rkyv_btree_compound.specs.TupleNatives.{joined_compared_at, joined_same_at}
use Rattle.rkyv_btree_portable.specs.Kind.{Kind}
use Rattle.rkyv_btree_view.specs.Query.{ComparesAs}
use Rattle.rkyv_btree_view.specs.SameAs.{TestsSame}
use Rattle.rkyv_btree_view.specs.laws.Cuts.{pair_cuts}

abbrev pub AreTied : Kind → Type 0
AreTied kind = (x y : kind.Value) → kind.same x y ≡ is_eq (kind.order x y)

abbrev pub Respects : Kind → Type 0
Respects kind = (x y : kind.Value) → IsTrue (kind.same x y) → kind.hash_input x ≡ kind.hash_input y

-- of two values, in however many bytes
module _ (P L : Kind) (size : ℕ) where
  pub joined_equivalence : IsEquivalence P.same → IsEquivalence L.same → IsEquivalence (joined_kind P L size).same
  joined_equivalence p l = and_equiv (on_equiv (λ e. e.0) p) (on_equiv (λ e. e.1) l)

  pub joined_total : IsTotalOrder P.order → IsTotalOrder L.order → IsTotalOrder (joined_kind P L size).order
  joined_total p l = then_total (on_total (λ e. e.0) p) (on_total (λ e. e.1) l)

  pub joined_tied : AreTied P → AreTied L → AreTied (joined_kind P L size)
  joined_tied p l x y = both_tied _ _ (P.order x.0 y.0) (L.order x.1 y.1) (p x.0 y.0) (l x.1 y.1)

  pub joined_respects : Respects P → Respects L → Respects (joined_kind P L size)
  joined_respects p l x y same = rw (p x.0 y.0 (first_so (P.same x.0 y.0) (L.same x.1 y.1) same), l x.1 y.1 (second_so (P.same x.0 y.0) (L.same x.1 y.1) same)) refl

-- with native values, which are taken apart
module _ {P L : Kind} {T X Y : Type 0} (parts : T → X × Y) (size : ℕ) where
  pub joined_compares : {front : X → List ℕ → ℕ → Ordering} {last : Y → List ℕ → ℕ → Ordering} → ComparesAs P front → ComparesAs L last → ComparesAs (joined_kind P L size) (joined_compared_at parts P L front last)
  joined_compares p l = record {
    compared = λ n e. ordering_then (p.compared (parts n).0 e.0) (l.compared (parts n).1 e.1);
    by_value = λ n buf at. rw (p.by_value (parts n).0 buf at, l.by_value (parts n).1 buf _) refl;
    cuts = λ n. pair_cuts (p.cuts (parts n).0) (l.cuts (parts n).1);
  }

  module _ {front : X → List ℕ → ℕ → Bool} {last : Y → List ℕ → ℕ → Bool} (p : TestsSame P front) (l : TestsSame L last) where
    abbrev same_parts : (joined_kind P L size).Value → T → Bool
    same_parts e n = p.same e.0 (parts n).0 && l.same e.1 (parts n).1

    parts_alike : (n : T) (x y : (joined_kind P L size).Value) → same_parts x n ≡ true → same_parts y n ≡ (joined_kind P L size).same x y
    parts_alike n x y is =
        let one = p.alike (parts n).0 x.0 y.0 (first_so (p.same x.0 (parts n).0) (l.same x.1 (parts n).1) is) in
        let two = l.alike (parts n).1 x.1 y.1 (second_so (p.same x.0 (parts n).0) (l.same x.1 (parts n).1) is) in
        rw (one, two) refl

    pub joined_tests : TestsSame (joined_kind P L size) (joined_same_at parts P L front last)
    joined_tests = record { same = same_parts; by_value = λ n buf at. rw (p.by_value (parts n).0 buf at, l.by_value (parts n).1 buf _) refl; alike = parts_alike }

-- of the first fields and the next one, and of all but the last and the last
module _ {P L : Kind} {X Y : Type 0} where
  pub fields_compare : {front : X → List ℕ → ℕ → Ordering} {last : Y → List ℕ → ℕ → Ordering} → ComparesAs P front → ComparesAs L last → ComparesAs (front_kind P L) (joined_compared_at (λ (x : X × Y). x) P L front last)
  fields_compare p l = joined_compares (λ x. x) (joined_end P L) p l

  pub fields_test : {front : X → List ℕ → ℕ → Bool} {last : Y → List ℕ → ℕ → Bool} → TestsSame P front → TestsSame L last → TestsSame (front_kind P L) (joined_same_at (λ (x : X × Y). x) P L front last)
  fields_test p l = joined_tests (λ x. x) (joined_end P L) p l

  module _ {T : Type 0} (parts : T → X × Y) where
    pub tuple_compares : {front : X → List ℕ → ℕ → Ordering} {last : Y → List ℕ → ℕ → Ordering} → ComparesAs P front → ComparesAs L last → ComparesAs (tuple_kind P L) (joined_compared_at parts P L front last)
    tuple_compares p l = joined_compares parts (tuple_size P L) p l

    pub tuple_tests : {front : X → List ℕ → ℕ → Bool} {last : Y → List ℕ → ℕ → Bool} → TestsSame P front → TestsSame L last → TestsSame (tuple_kind P L) (joined_same_at parts P L front last)
    tuple_tests p l = joined_tests parts (tuple_size P L) p l
