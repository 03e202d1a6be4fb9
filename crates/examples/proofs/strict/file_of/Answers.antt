-- The archive of a map has the map's keys, which increase.
use Rattle.std.proofs.Common.{◌≡◌, Bool, true, refl}
use Rattle.std.specs.Prelude.{Result, Ok, Err, IsOk, is_err, string_bytes}
use Rattle.rkyv_btree.specs.RoundTrip.{both_mean}
use Rattle.rkyv_btree_base.specs.Layout.{are_fitting, inner_size, len_at, node_size, values_at, keys_at, node_align, align}
use Rattle.rkyv_btree_base.specs.Rounding.{round_up}
use Rattle.rkyv_btree_base.specs.Archiving.{itself}
use Rattle.rkyv_btree_base.specs.Map.{map_kind}
use Rattle.rkyv_btree_base.specs.Scalars.{u32_kind}
use Rattle.rkyv_btree_base.specs.Text.{text_kind}
use Rattle.examples.proofs.RoundTrip.{in_bytes}
use Rattle.examples.proofs.strict.file_of.Goals as goal

err_or_ok : {X F : Type 0} (r : Result X F) (b : Bool) → IsOk r → b ≡ is_err r → b ≡ true → ⊥
err_or_ok (Ok x) b ok is err = cc
err_or_ok (Err e) b ok is err = cc

pub to_archive-requires : goal.to_archive-requires
unfolding are_fitting inner_size round_up len_at node_size values_at keys_at node_align align
to_archive-requires c = refl

pub open_strict-requires : goal.open_strict-requires
unfolding are_fitting inner_size round_up len_at node_size values_at keys_at node_align align
open_strict-requires c = refl

pub unreachable-requires : goal.unreachable-requires
unreachable-requires c =
    let kind = map_kind text_kind u32_kind 5 in
    let meant : kind.Value = both_mean string_bytes (λ n. n) c.args.prices.now.entries in
    let archive = in_bytes kind meant c.as_slice.result.now c.in_ok-file.file.items c.as_slice.ensures.value (c.in_ok-file.ensures.ok (itself kind)) in
    let rises = c.std_maps_are_increasing.ensures.maps string_bytes (λ n. n) c.args.prices.now.entries c.natives_are_ordered_alike.ensures.texts c.len-len.ensures.ordered in
    err_or_ok c.open_strict.result c.is_err.result (c.open_strict.ensures.exact.accepts.1 (meant, (archive, rises))) c.is_err.ensures.value c.if-is_err.true

pub returns : goal.returns
returns c =
    record {
      archive = c.in_ok-file.ensures.ok (itself (map_kind text_kind u32_kind 5));
      increasing = c.std_maps_are_increasing.ensures.maps string_bytes (λ n. n) c.args.prices.now.entries c.natives_are_ordered_alike.ensures.texts c.len-len.ensures.ordered;
    }
