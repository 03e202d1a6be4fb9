-- What comparisons of native values give those of the values that are read as them, and what those of keys and values
-- give maps.
use Rattle.std.specs.Prelude.{◌≡◌, ℕ, Bool, List, [], ◌∷◌, IsTrue, Some}
use Rattle.std.specs.Cmp.{IsEquivalence, IsTotalOrder, IsPartialOrder, on_equiv, on_total, partial_order_from_agreeing_total, first_so, second_so}
use Rattle.std.specs.Cmp.Lexicographic.{pointwise}
use Rattle.std.specs.List.{flat_map}
use Rattle.std.specs.Ordering.{is_eq}
use Rattle.std.specs.declared.cmp.Ordering.{Ordering}
use Rattle.std.proofs.Common.{refl, sym, ap, subst, ◌∙◌}
use Rattle.rkyv_btree_portable.specs.Entry.{entry_kind}
use Rattle.rkyv_btree_portable.specs.Kind.{Kind}
use Rattle.rkyv_btree_portable.specs.Scalars.{unit_kind}
use Rattle.rkyv_btree_view.specs.Native.{ReadAs}

module _ {N : Type 0} {kind : Kind} {read_native : List ℕ → ℕ → N} {native_same : N → N → Bool} {native_order : N → N → Ordering} {native_input : N → List (List ℕ)} (r : ReadAs kind read_native native_same native_order native_input) where
  pub native_equivalence : IsEquivalence native_same → IsEquivalence kind.same
  native_equivalence e = subst IsEquivalence (λ i x y. sym (r.same x y) i) (on_equiv r.native e)

  pub native_total : IsTotalOrder native_order → IsTotalOrder kind.order
  native_total o = subst IsTotalOrder (λ i x y. sym (r.order x y) i) (on_total r.native o)

  pub native_matches : ((m n : N) → native_same m n ≡ is_eq (native_order m n)) → (x y : kind.Value) → kind.same x y ≡ is_eq (kind.order x y)
  native_matches h x y = r.same x y ∙ h (r.native x) (r.native y) ∙ ap is_eq (sym (r.order x y))

  pub native_respects : ((m n : N) → IsTrue (native_same m n) → native_input m ≡ native_input n) → (x y : kind.Value) → IsTrue (kind.same x y) → kind.hash_input x ≡ kind.hash_input y
  native_respects h x y e = r.hash_input x ∙ h (r.native x) (r.native y) (subst IsTrue (r.same x y) e) ∙ sym (r.hash_input y)

-- views of a kind with a total order
pub views_order : (kind : Kind) → IsTotalOrder kind.order → ((x y : kind.Value) → kind.same x y ≡ is_eq (kind.order x y)) → IsPartialOrder kind.same (λ x y. Some (kind.order x y))
views_order kind total matches = partial_order_from_agreeing_total kind.order total (λ x y. refl) matches

-- all values of a set's entries are equal
pub unit_equivalence : IsEquivalence unit_kind.same
unit_equivalence = record { refl = λ x. refl; symm = λ x y. refl; congr = λ x y z same. refl }

-- maps whose lists agree entry by entry are hashed alike, where keys and values are
pub map_respects : (K V : Kind) → ((x y : K.Value) → IsTrue (K.same x y) → K.hash_input x ≡ K.hash_input y) → ((x y : V.Value) → IsTrue (V.same x y) → V.hash_input x ≡ V.hash_input y)
    → (xs ys : List (K.Value × V.Value)) → IsTrue (pointwise (entry_kind K V).same xs ys) → flat_map (entry_kind K V).hash_input xs ≡ flat_map (entry_kind K V).hash_input ys
map_respects K V keys values [] [] same = refl
map_respects K V keys values [] (y ∷ ys) same = absurd (cc same)
map_respects K V keys values (x ∷ xs) [] same = absurd (cc same)
map_respects K V keys values (x ∷ xs) (y ∷ ys) same =
    let first = first_so _ (pointwise (entry_kind K V).same xs ys) same in
    let key = keys x.0 y.0 (first_so _ (V.same x.1 y.1) first) in
    let value = values x.1 y.1 (second_so (K.same x.0 y.0) _ first) in
    let rest = map_respects K V keys values xs ys (second_so ((entry_kind K V).same x y) _ same) in
    cc (key, value, rest)
