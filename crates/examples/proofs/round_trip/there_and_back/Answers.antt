-- The archive means the map, and what means a map gives it back.
use Rattle.std.proofs.Common.{◌∙◌, sym, refl, slice_index_or, string_bytes, Global, List, ℕ}
use Rattle.std.specs.Cmp.Lexicographic.{slice_cmp}
use Rattle.std.specs.Ordering.{nat_cmp}
use Rattle.std.specs.Prelude.{Ok}
use Rattle.rkyv_btree.specs.Maps.{native_map}
use Rattle.rkyv_btree.specs.RoundTrip.{both_mean}
use Rattle.rkyv_btree_base.specs.Archiving.{itself}
use Rattle.rkyv_btree_base.specs.Layout.{are_fitting, inner_size, len_at, node_size, values_at, keys_at, node_align, align}
use Rattle.rkyv_btree_base.specs.Rounding.{round_up}
use Rattle.rkyv_btree_base.specs.Map.{map_kind}
use Rattle.rkyv_btree_base.specs.Scalars.{u32_kind}
use Rattle.rkyv_btree_base.specs.Text.{text_kind}
use Rattle.rkyv_btree_base.specs.laws.Scalars.{u32_laws}
use Rattle.rkyv_btree_base.specs.laws.TextLaws.{text_laws}
use Rattle.rkyv_btree_base.proofs.MapLaws.{map_laws}
use Rattle.examples.proofs.RoundTrip.{accepted, in_bytes, read_back}
use Rattle.examples.proofs.round_trip.there_and_back.Goals as goal

pub to_archive-requires : goal.to_archive-requires
unfolding are_fitting inner_size round_up len_at node_size values_at keys_at node_align align
to_archive-requires c = refl

pub from_archive-requires : goal.from_archive-requires
unfolding are_fitting inner_size round_up len_at node_size values_at keys_at node_align align
from_archive-requires c = refl

pub returns-in-Ok-from_archive-clause-same : goal.returns-in-Ok-from_archive-clause-same
returns-in-Ok-from_archive-clause-same c =
    let kind = map_kind text_kind u32_kind 5 in
    let meant : kind.Value = both_mean (string_bytes {Z = Global}) (λ n. n) c.args.map.now.entries in
    let archive = in_bytes kind meant c.as_slice.result.now c.in-Ok.archive.items c.as_slice.ensures.value (c.in-Ok.ensures.ok (itself kind)) in
    let read = read_back {kind = kind} c.as_slice.result.now meant archive (map_laws text_kind u32_kind 5 text_laws u32_laws) in
    let back = c.maps_are_given_back.ensures string_bytes (λ n. n) c.args.map.now.entries c.len-len.ensures.ordered (λ i d within. let entry = slice_index_or c.args.map.now.entries i d in (c.texts_are_given_back.ensures entry.0, c.natives_are_given_back.ensures.u32 entry.1)) c.as_slice.result.now _ read in
    let same = sym c.in-Ok-from_archive.ensures.made ∙ back in
    cc same

pub returns-clause-accepted : goal.returns-clause-accepted
returns-clause-accepted c =
    let kind = map_kind text_kind u32_kind 5 in
    let meant : kind.Value = both_mean (string_bytes {Z = Global}) (λ n. n) c.args.map.now.entries in
    let archive = in_bytes kind meant c.as_slice.result.now c.in-Ok.archive.items c.as_slice.ensures.value (c.in-Ok.ensures.ok (itself kind)) in
    accepted {kind = kind} c.as_slice.result.now meant archive _ {H = List (List ℕ × ℕ)} (native_map text_kind u32_kind 5 (λ b p. Ok (text_kind.read b p)) (λ b p. Ok (u32_kind.read b p)) (slice_cmp nat_cmp)) c.in-Err-from_archive.fault c.in-Err-from_archive.ensures.err
