-- Keys that are sought, which are compared in the order of items.
use Rattle.std.specs.Prelude.{◌≡◌, ℕ, List}
use Rattle.std.specs.Cmp.{IsTotalOrder}
use Rattle.std.specs.declared.cmp.Ordering.{Ordering}
use Rattle.std.proofs.Common.{ap, sym, ◌∙◌, inl, inr}
use Rattle.rkyv_btree_portable.specs.Kind.{Kind}
use Rattle.rkyv_btree_view.specs.Query.{ComparesAs, IsCut}
use Rattle.rkyv_btree_view.specs.laws.Cuts.{order_cuts}
use Rattle.rkyv_btree_writer.specs.Archiving.{Archival}
use Rattle.btreekv_items.specs.Items.{SameValues}

module _ {X R Value : Type 0} {T : Archival X R} {kind : Kind} {IsValue : Value → Type 0} {order : Value → Value → Ordering} {value_at : List ℕ → ℕ → Value} {native_value : X → Value} {native_order : X → X → Ordering}
    (total : IsTotalOrder kind.order) (same : SameValues T kind IsValue order value_at native_value native_order) where
  by_kind : (x : Value) (v : kind.Value) → order x (same.to v) ≡ kind.order (same.from x) v
  by_kind x v = ap (λ (a : Value). order a (same.to v)) (sym (same.to_from x)) ∙ sym (same.ordered (same.from x) v)

  cuts_so : (x : Value) → IsCut kind.order (λ v. order x (same.to v))
  cuts_so x =
      let cut = order_cuts total (same.from x) in
      record {
        less = λ v w before.
            elim (cut.less v w before) [
              | inl past ↦ inl (by_kind x v ∙ past)
              | inr ahead ↦ inr (by_kind x w ∙ ahead)
            ];
        equal = λ v w alike. by_kind x v ∙ (cut.equal v w alike ∙ sym (by_kind x w));
      }

  -- as archived types owe it
  pub sought_compares : {Q : Type 0} {native : Q → X} → ComparesAs kind (λ (sought : Q) b at. order (native_value (native sought)) (value_at b at))
  sought_compares {native} = record {
    compared = λ sought v. order (native_value (native sought)) (same.to v);
    by_value = λ sought b at. ap (order (native_value (native sought))) (same.read b at);
    cuts = λ sought. cuts_so (native_value (native sought));
  }
