-- The test by what keys and values mean is the test at their positions.
use Rattle.std.proofs.Common.{sym, ◌∙◌}
use Rattle.rkyv_btree_format.specs.Layout.{layout_of}
use Rattle.rkyv_btree_format.specs.Read.{map_tree}
use Rattle.rkyv_btree_shape.specs.Tree.{list}
use Rattle.rkyv_btree_view.specs.laws.SameAs.{places_tested}
use Rattle.rkyv_btree_view.proofs.compare_native.ArchivedBTreeMapSameAsBTreeMap.same_as.Goals as goal

pub returns : goal.returns
returns g c =
    let K = g.K.Portable.kind in let V = g.V.Portable.kind in
    let k = g.met.K.SameAs.tests in let v = g.met.V.SameAs.tests in
    let b = c.args.view.now.buf.now in
    c.eq_map.ensures.same k.same v.same k.by_value v.by_value
    ∙ sym (places_tested K V g.row.E k.same v.same k.by_value v.by_value b (list (map_tree (layout_of K V g.row.E) b c.args.view.now.pos)) c.args.native.now.entries)
