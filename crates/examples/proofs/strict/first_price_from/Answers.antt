-- A strict range is a filter of the list.
use Rattle.std.proofs.Common.{◌≡◌, ◌∙◌, List, ap, refl, sym}
use Rattle.std.specs.Cmp.Lexicographic.{slice_cmp}
use Rattle.std.specs.Option.{option_map}
use Rattle.std.specs.Ordering.{nat_cmp}
use Rattle.std.specs.Prelude.{Option, Some, slice_get}
use Rattle.rkyv_btree.specs.View.{entries_of}
use Rattle.rkyv_btree_base.specs.Scalars.{u32_kind}
use Rattle.rkyv_btree_base.specs.Text.{text_kind}
use Rattle.rkyv_btree_base.specs.Layout.{are_fitting, inner_size, len_at, node_size, values_at, keys_at, node_align, align}
use Rattle.rkyv_btree_base.specs.Rounding.{round_up}
use Rattle.examples.proofs.strict.first_price_from.Goals as goal

pub open_strict-requires : goal.open_strict-requires
unfolding are_fitting inner_size round_up len_at node_size values_at keys_at node_align align
open_strict-requires c = refl

-- the second part of the first of some entries
first : {A B : Type 0} → List (A × B) → Option B
first m = option_map (λ e. e.1) (slice_get m 0)

same_first : {A B : Type 0} (m n : List (A × B)) → m ≡ n → first n ≡ first m
same_first m n is = sym (ap first is)

pub returns-in-None : goal.returns-in-None
unfolding first
returns-in-None c =
    let file = c.in_ok-prices.prices in
    let within = c.range_by.ensures.within (λ n. slice_cmp nat_cmp n.now) (λ n b at. refl) in (
      entries_of text_kind u32_kind 5 file.view,
      record { archive = c.in_ok-prices.ensures.entries.0; increasing = file.increasing },
      same_first _ _ (sym within ∙ c.in-None.ensures.steps.0),
    )

pub returns-in-Some : goal.returns-in-Some
unfolding first
returns-in-Some c =
    let file = c.in_ok-prices.prices in
    let within = c.range_by.ensures.within (λ n. slice_cmp nat_cmp n.now) (λ n b at. refl) in (
      entries_of text_kind u32_kind 5 file.view,
      record { archive = c.in_ok-prices.ensures.entries.0; increasing = file.increasing },
      ap Some c.to_native.ensures ∙ same_first _ _ (sym within ∙ c.in-Some.ensures.steps),
    )
