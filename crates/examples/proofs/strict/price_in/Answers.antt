-- A strict view finds what std's lookup finds.
use Rattle.std.proofs.Common.{◌∙◌, refl, rules}
use Rattle.std.specs.Cmp.Lexicographic.{slice_cmp}
use Rattle.std.specs.Ordering.{nat_cmp}
use Rattle.rkyv_btree.specs.View.{entries_of, view_value}
use Rattle.rkyv_btree_base.specs.Layout.{are_fitting, inner_size, len_at, node_size, values_at, keys_at, node_align, align}
use Rattle.rkyv_btree_base.specs.Rounding.{round_up}
use Rattle.rkyv_btree_base.specs.Scalars.{u32_kind}
use Rattle.rkyv_btree_base.specs.Text.{text_kind}
use Rattle.examples.proofs.LookedUp.{mapped}
use Rattle.examples.proofs.strict.price_in.Goals as goal

pub open_strict-requires : goal.open_strict-requires
unfolding are_fitting inner_size round_up len_at node_size values_at keys_at node_align align
open_strict-requires c = refl

pub returns : goal.returns
returns c =
    let file = c.in_ok-prices.prices in
    let found = c.get_by-price.ensures (λ n. slice_cmp nat_cmp n.now) (λ n b at. refl) in (
      entries_of text_kind u32_kind 5 file.view,
      record { archive = c.in_ok-prices.ensures.entries.0; increasing = file.increasing },
      mapped view_value _ (λ x y h. search rules) c.get_by-price.result c.map.result c.map.ensures.cases ∙ found,
    )
