-- The test by what keys mean is the test at their positions.
use Rattle.std.proofs.Common.{sym, ◌∙◌, refl, true}
use Rattle.rkyv_btree_format.specs.Layout.{layout_of}
use Rattle.rkyv_btree_format.specs.Read.{map_tree}
use Rattle.rkyv_btree_portable.specs.Scalars.{unit_kind}
use Rattle.rkyv_btree_format.specs.Units.{with_units}
use Rattle.rkyv_btree_shape.specs.Tree.{list}
use Rattle.rkyv_btree_view.specs.View.{entries_of}
use Rattle.rkyv_btree_view.specs.laws.SameAs.{places_tested, units_tested}
use Rattle.rkyv_btree_view.proofs.compare_native.ArchivedBTreeSetSameAsBTreeSet.same_as.Goals as goal

pub returns : goal.returns
returns g c =
    let K = g.K.Portable.kind in
    let k = g.met.K.SameAs.tests in
    let view = c.args.view.now in
    let keys = c.args.native.now.keys in
    c.eq_set.ensures.same k.same k.by_value
    ∙ sym (units_tested k.same (entries_of K unit_kind g.row.E view) keys)
    ∙ sym (places_tested K unit_kind g.row.E k.same (λ x n. true) k.by_value (λ n b at. refl) view.buf.now (list (map_tree (layout_of K unit_kind g.row.E) view.buf.now view.pos)) (with_units keys))
