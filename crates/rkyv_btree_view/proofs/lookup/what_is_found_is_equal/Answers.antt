-- The probe has all that a lookup promises.
use Rattle.std.proofs.Common.{refl}
use Rattle.rkyv_btree_format.specs.Layout.{layout_of}
use Rattle.rkyv_btree_format.specs.Read.{entry_at, map_tree}
use Rattle.rkyv_btree_walk.proofs.Hits.{probe_finds}
use Rattle.rkyv_btree_view.proofs.lookup.what_is_found_is_equal.Goals as goal

pub returns : goal.returns
returns g c b at comparison =
    let K = g.K.Portable.kind in let V = g.V.Portable.kind in
    probe_finds (entry_at K V g.row.E b) (λ e. comparison e.0) (map_tree (layout_of K V g.row.E) b at) _ refl
