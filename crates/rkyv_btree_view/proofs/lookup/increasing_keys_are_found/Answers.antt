-- Keys that increase are ordered for each cut.
use Rattle.rkyv_btree_format.specs.Layout.{layout_of}
use Rattle.rkyv_btree_format.specs.Read.{entry_at, map_tree}
use Rattle.rkyv_btree_view.specs.laws.Cuts.{order_cuts}
use Rattle.rkyv_btree_view.specs.laws.Increasing.{increasing_finds}
use Rattle.rkyv_btree_view.proofs.lookup.increasing_keys_are_found.Goals as goal

pub returns-clause-found : goal.returns-clause-found
returns-clause-found g c b at comparison found cut rises a =
    let K = g.K.Portable.kind in let V = g.V.Portable.kind in
    increasing_finds K.order (λ e. e.0) comparison cut (entry_at K V g.row.E b) (map_tree (layout_of K V g.row.E) b at) found a rises

pub returns-clause-keys : goal.returns-clause-keys
returns-clause-keys g c key = order_cuts g.met.K.ViewOrd.total key
