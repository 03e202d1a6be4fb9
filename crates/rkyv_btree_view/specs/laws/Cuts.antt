-- Which comparisons are cuts: those with a value of an order, with a native value that is read, and of pairs part by part.
use Rattle.std.specs.Prelude.{◌≡◌, ℕ, ◌+◌, List, Bool, ◌⊎◌}
use Rattle.std.specs.Cmp.{IsTotalOrder}
use Rattle.std.specs.Ordering.{ordering_then, ordering_reverse}
use Rattle.std.specs.declared.cmp.Ordering.{Ordering}
use Rattle.std.specs.declared.cmp.Ordering.TheVariants.{Less, Equal, Greater}
use Rattle.std.proofs.Common.{refl, sym, ap, ◌∙◌, inl, inr}
use Rattle.rkyv_btree_portable.specs.Entry.{entry_kind, value_offset}
use Rattle.rkyv_btree_portable.specs.Kind.{Kind}
use Rattle.rkyv_btree_view.specs.Native.{ReadAs}
use Rattle.rkyv_btree_view.specs.Query.{IsCut, ComparesAs}

module _ {X : Type 0} {order : X → X → Ordering} (total : IsTotalOrder order) (q : X) where
  past_or_before : (x y : X) → order x y ≡ Less → (order q x ≡ Greater) ⊎ (order q y ≡ Less)
  past_or_before x y less =
      elim (order q x) as (λ o. order q x ≡ o → (o ≡ Greater) ⊎ (order q y ≡ Less)) [
        | Less ↦ λ e. inr (total.trans q x y e less)
        | Equal ↦ λ e. inr (total.congr q x y e ∙ less)
        | Greater ↦ λ e. inl refl
      ] refl

  alike : (x y : X) → order x y ≡ Equal → order q x ≡ order q y
  alike x y same = total.antisymm q x ∙ ap ordering_reverse (total.congr x y q same) ∙ sym (total.antisymm q y)

  -- a value of the order
  pub order_cuts : IsCut order (order q)
  order_cuts = record { less = past_or_before; equal = alike }

-- a native value, where values are read as native ones and ordered as these
pub native_cuts : {N : Type 0} {kind : Kind} {read_native : List ℕ → ℕ → N} {native_same : N → N → Bool} {native_order : N → N → Ordering} {native_input : N → List (List ℕ)} (r : ReadAs kind read_native native_same native_order native_input)
    → IsTotalOrder native_order → (q : N) → IsCut kind.order (λ x. native_order q (r.native x))
native_cuts r total q = record {
  less = λ x y h. (order_cuts total q).less (r.native x) (r.native y) (sym (r.order x y) ∙ h);
  equal = λ x y h. (order_cuts total q).equal (r.native x) (r.native y) (sym (r.order x y) ∙ h);
}

module _ {X Y : Type 0} {first : X → X → Ordering} {second : Y → Y → Ordering} {f : X → Ordering} {g : Y → Ordering} (F : IsCut first f) (G : IsCut second g) where
  then_less : (x y : X × Y) → ordering_then (first x.0 y.0) (second x.1 y.1) ≡ Less → (ordering_then (f x.0) (g x.1) ≡ Greater) ⊎ (ordering_then (f y.0) (g y.1) ≡ Less)
  then_less x y h =
      (elim (first x.0 y.0) as (λ o. first x.0 y.0 ≡ o → ordering_then o (second x.1 y.1) ≡ Less → (ordering_then (f x.0) (g x.1) ≡ Greater) ⊎ (ordering_then (f y.0) (g y.1) ≡ Less)) [
        | Less ↦ λ e k. elim (F.less x.0 y.0 e) [ inl past ↦ inl (rw past refl) | inr before ↦ inr (rw before refl) ]
        | Equal ↦ λ e k. rw (F.equal x.0 y.0 e) (
            elim (f y.0) as (λ o. (ordering_then o (g x.1) ≡ Greater) ⊎ (ordering_then o (g y.1) ≡ Less)) [
              | Less ↦ inr refl
              | Equal ↦ G.less x.1 y.1 k
              | Greater ↦ inl refl
            ]
            )
        | Greater ↦ λ e k. absurd (cc k)
      ]) refl h

  then_equal : (x y : X × Y) → ordering_then (first x.0 y.0) (second x.1 y.1) ≡ Equal → ordering_then (f x.0) (g x.1) ≡ ordering_then (f y.0) (g y.1)
  then_equal x y h =
      (elim (first x.0 y.0) as (λ o. first x.0 y.0 ≡ o → ordering_then o (second x.1 y.1) ≡ Equal → ordering_then (f x.0) (g x.1) ≡ ordering_then (f y.0) (g y.1)) [
        | Less ↦ λ e k. absurd (cc k)
        | Equal ↦ λ e k. rw (F.equal x.0 y.0 e, G.equal x.1 y.1 k) refl
        | Greater ↦ λ e k. absurd (cc k)
      ]) refl h

  -- a pair of queries, the first before the second
  pub pair_cuts : IsCut (λ (x y : X × Y). ordering_then (first x.0 y.0) (second x.1 y.1)) (λ e. ordering_then (f e.0) (g e.1))
  pair_cuts = record { less = then_less; equal = then_equal }

-- as archived types owe them
pub order_compares : {N : Type 0} (kind : Kind) → IsTotalOrder kind.order → (value : N → kind.Value) → ComparesAs kind (λ (n : N) b at. kind.order (value n) (kind.read b at))
order_compares kind total value = record { compared = λ n. kind.order (value n); by_value = λ n b at. refl; cuts = λ n. order_cuts total (value n) }

pub native_compares : {N : Type 0} {kind : Kind} {read_native : List ℕ → ℕ → N} {native_same : N → N → Bool} {native_order : N → N → Ordering} {native_input : N → List (List ℕ)} (r : ReadAs kind read_native native_same native_order native_input)
    → IsTotalOrder native_order → ComparesAs kind (λ n b at. native_order n (read_native b at))
native_compares {native_order} r total = record { compared = λ n x. native_order n (r.native x); by_value = λ n b at. ap (native_order n) (r.by_value b at); cuts = native_cuts r total }

pub pair_compares : {S T : Type 0} {K V : Kind} {first : S → List ℕ → ℕ → Ordering} {second : T → List ℕ → ℕ → Ordering} → ComparesAs K first → ComparesAs V second
    → ComparesAs (entry_kind K V) (λ (n : S × T) b at. ordering_then (first n.0 b at) (second n.1 b (at + value_offset K V)))
pair_compares {K} {V} F G = record {
  compared = λ n e. ordering_then (F.compared n.0 e.0) (G.compared n.1 e.1);
  by_value = λ n b at. rw (F.by_value n.0 b at, G.by_value n.1 b (at + value_offset K V)) refl;
  cuts = λ n. pair_cuts (F.cuts n.0) (G.cuts n.1);
}
