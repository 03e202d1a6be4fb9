-- The archive means the map.
use Rattle.std.proofs.Common.{◌≡◌, ◌∙◌, refl, string_bytes, nat_eq, Global}
use Rattle.std.specs.Cmp.{nat_eq_equiv}
use Rattle.std.specs.Cmp.Lexicographic.{nat_list_eq_equiv, pointwise}
use Rattle.rkyv_btree.specs.RoundTrip.{both_mean}
use Rattle.rkyv_btree_base.specs.Archiving.{itself}
use Rattle.rkyv_btree_base.specs.Layout.{are_fitting, inner_size, len_at, node_size, values_at, keys_at, node_align, align}
use Rattle.rkyv_btree_base.specs.Rounding.{round_up}
use Rattle.rkyv_btree_base.specs.Map.{map_kind}
use Rattle.rkyv_btree_base.specs.Read.{read_map}
use Rattle.rkyv_btree_base.specs.Scalars.{u32_kind}
use Rattle.rkyv_btree_base.specs.Text.{text_kind}
use Rattle.rkyv_btree_base.specs.laws.Scalars.{u32_laws}
use Rattle.rkyv_btree_base.specs.laws.TextLaws.{text_laws}
use Rattle.rkyv_btree_base.proofs.MapLaws.{map_laws}
use Rattle.examples.proofs.RoundTrip.{in_bytes, read_back}
use Rattle.examples.proofs.whole.is_equal_to_itself.Goals as goal

pub to_archive-requires : goal.to_archive-requires
unfolding are_fitting inner_size round_up len_at node_size values_at keys_at node_align align
to_archive-requires c = refl

pub open-requires : goal.open-requires
unfolding are_fitting inner_size round_up len_at node_size values_at keys_at node_align align
open-requires c = refl

pub unreachable-requires : goal.unreachable-requires
unreachable-requires c =
    let kind = map_kind text_kind u32_kind 5 in
    let meant : kind.Value = both_mean (string_bytes {Z = Global}) (λ n. n) c.args.map.now.entries in
    let archive = in_bytes kind meant c.as_slice.result.now c.in_ok-archive.archive.items c.as_slice.ensures.value (c.in_ok-archive.ensures.ok (itself kind)) in
    absurd (cc (rw c.in-Err.is at (c.open.ensures.accepts.1 (meant, archive))))

pub returns : goal.returns
returns c =
    let kind = map_kind text_kind u32_kind 5 in
    let meant : kind.Value = both_mean (string_bytes {Z = Global}) (λ n. n) c.args.map.now.entries in
    let archive = in_bytes kind meant c.as_slice.result.now c.in_ok-archive.archive.items c.as_slice.ensures.value (c.in_ok-archive.ensures.ok (itself kind)) in
    let read = read_back {kind = kind} c.as_slice.result.now meant archive (map_laws text_kind u32_kind 5 text_laws u32_laws) in
    let view = c.in-Ok.view in
    let same : read_map text_kind u32_kind 5 view.buf.now view.pos ≡ meant = rw (c.in-Ok.ensures.buffer, c.in-Ok.ensures.position) read in
    let tests = c.archives_are_same_as_std.ensures (string_bytes {Z = Global}) (λ n. n) view.buf.now view.pos c.args.map.now.entries (λ x text. pointwise nat_eq x (string_bytes text)) nat_eq same (λ text. nat_list_eq_equiv.refl (string_bytes text)) nat_eq_equiv.refl in
    c.eq_map.ensures.same (λ x text. pointwise nat_eq x (string_bytes text)) nat_eq (λ n b at. refl) (λ n b at. refl) ∙ tests
