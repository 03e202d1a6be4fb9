-- The keys of the archive increase, so what is found is the only entry that is equal.
use Rattle.std.proofs.Common.{◌≡◌, ◌∙◌, List, map, refl, sym, subst}
use Rattle.std.specs.List.Sorted.{IsStrictlySortedBy}
use Rattle.rkyv_btree_format.specs.Layout.{layout_of}
use Rattle.rkyv_btree_format.specs.Read.{entry_at, map_tree, read_map}
use Rattle.rkyv_btree_convert.proofs.StdMaps.{ascending_meant, lookup_meant, only_looked_up}
use Rattle.rkyv_btree_view.specs.Lookup.{found_at}
use Rattle.rkyv_btree_view.specs.laws.Cuts.{order_cuts}
use Rattle.rkyv_btree_view.specs.laws.Increasing.{increasing_finds}
use Rattle.rkyv_btree_walk.proofs.Hits.{probe_finds}
use Rattle.rkyv_btree_convert.proofs.std_maps.look_ups_find_as_std.Goals as goal

pub returns : goal.returns
returns g c key value alike b at m q read sorted =
    let K = g.K.Portable.kind in
    let V = g.V.Portable.kind in
    let E = g.row.E in
    let comparison = K.order (key q) in
    let tree = map_tree (layout_of K V E) b at in
    let meant = ascending_meant g.T.Ord.cmp K.order key value alike m sorted in
    let rises = subst (λ (es : List (K.Value × V.Value)). IsStrictlySortedBy K.order (map (λ e. e.0) es)) (sym read) meant in
    let found = probe_finds (entry_at K V E b) (λ e. comparison e.0) tree _ refl in
    let only = increasing_finds K.order (λ e. e.0) comparison (order_cuts g.met.K.ViewOrd.total (key q)) (entry_at K V E b) tree (found_at K V E b at comparison) found rises in
    only_looked_up comparison (read_map K V E b at) (found_at K V E b at comparison) only ∙ rw read (lookup_meant comparison (g.T.Ord.cmp q) key value (alike q) m)
