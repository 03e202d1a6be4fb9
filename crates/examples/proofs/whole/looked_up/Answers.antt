-- The archive means the map.
use Rattle.std.proofs.Common.{◌≡◌, ◌∙◌, refl, rules}
use Rattle.std.specs.BTreeMap.{is_at}
use Rattle.std.specs.Map.{lookup}
use Rattle.std.specs.Ordering.{nat_cmp}
use Rattle.rkyv_btree.specs.RoundTrip.{both_mean}
use Rattle.rkyv_btree_base.specs.Archiving.{itself}
use Rattle.rkyv_btree_base.specs.Layout.{are_fitting, inner_size, len_at, node_size, values_at, keys_at, node_align, align}
use Rattle.rkyv_btree_base.specs.Rounding.{round_up}
use Rattle.rkyv_btree_base.specs.Map.{map_kind}
use Rattle.rkyv_btree_base.specs.Read.{read_map}
use Rattle.rkyv_btree.specs.View.{view_value}
use Rattle.rkyv_btree_base.specs.Scalars.{u32_kind}
use Rattle.rkyv_btree_base.specs.laws.Scalars.{u32_laws}
use Rattle.rkyv_btree_base.proofs.MapLaws.{map_laws}
use Rattle.examples.proofs.RoundTrip.{in_bytes, read_back}
use Rattle.examples.proofs.LookedUp.{itself_mapped, mapped}
use Rattle.examples.proofs.whole.looked_up.Goals as goal

pub to_archive-requires : goal.to_archive-requires
unfolding are_fitting inner_size round_up len_at node_size values_at keys_at node_align align
to_archive-requires c = refl

pub open-requires : goal.open-requires
unfolding are_fitting inner_size round_up len_at node_size values_at keys_at node_align align
open-requires c = refl

pub unreachable-requires : goal.unreachable-requires
unreachable-requires c =
    let kind = map_kind u32_kind u32_kind 5 in
    let meant : kind.Value = both_mean (λ n. n) (λ n. n) c.args.map.now.entries in
    let archive = in_bytes kind meant c.as_slice.result.now c.in_ok-archive.archive.items c.as_slice.ensures.value (c.in_ok-archive.ensures.ok (itself kind)) in
    absurd (cc (rw c.in-Err.is at (c.open.ensures.accepts.1 (meant, archive))))

pub returns : goal.returns
returns c =
    let kind = map_kind u32_kind u32_kind 5 in
    let meant : kind.Value = both_mean (λ n. n) (λ n. n) c.args.map.now.entries in
    let archive = in_bytes kind meant c.as_slice.result.now c.in_ok-archive.archive.items c.as_slice.ensures.value (c.in_ok-archive.ensures.ok (itself kind)) in
    let read = read_back {kind = kind} c.as_slice.result.now meant archive (map_laws u32_kind u32_kind 5 u32_laws u32_laws) in
    let view = c.in-Ok.view in
    let same : read_map u32_kind u32_kind 5 view.buf.now view.pos ≡ meant = rw (c.in-Ok.ensures.buffer, c.in-Ok.ensures.position) read in
    let found = c.look_ups_find_as_std.ensures (λ n. n) (λ n. n) (λ x y. refl) view.buf.now view.pos c.args.map.now.entries c.args.key same c.len-len.ensures.ordered in
    let value = (c.get_by-value.ensures nat_cmp (λ n b at. refl)).found in
    mapped view_value _ (λ x y h. search rules) c.get_by-value.result c.map.result c.map.ensures.cases ∙ value ∙ found ∙ itself_mapped (lookup (is_at (nat_cmp c.args.key)) c.args.map.now.entries)
