-- Decoded entries whose keys increase are those of the set.
use Rattle.std.proofs.Common.{map}
use Rattle.rkyv_btree_format.specs.Layout.{layout_of}
use Rattle.rkyv_btree_format.specs.Read.{map_tree}
use Rattle.rkyv_btree_portable.specs.Scalars.{unit_kind}
use Rattle.rkyv_btree_shape.specs.Tree.{list}
use Rattle.rkyv_btree_convert.proofs.Sorted.{set_is_sorted}
use Rattle.rkyv_btree_convert.specs.Maps.{given_at}
use Rattle.rkyv_btree_convert.specs.Sets.{unit_given}
use Rattle.rkyv_btree_convert.proofs.native_set.ArchivedBTreeSetDeserializeBTreeSet.deserialize.Goals as goal

pub returns-then-equal_keys_are_same-clause-sorted : goal.returns-then-equal_keys_are_same-clause-sorted
returns-then-equal_keys_are_same-clause-sorted g c =
    let b = c.args.view.now.buf.now in
    set_is_sorted g.met.K.DeserializeKey.total (map (given_at g.K.Portable.kind unit_kind g.row.E g.K.Deserialize.decoded (λ b at. unit_given) b) (list (map_tree (layout_of g.K.Portable.kind unit_kind g.row.E) b c.args.view.now.pos))) (λ s. map g.K.Deserialize.model s.keys) c.at_once.result c.at_once.ensures.ok

pub returns-else-equal_keys_are_same-clause-sorted : goal.returns-else-equal_keys_are_same-clause-sorted
returns-else-equal_keys_are_same-clause-sorted g c =
    let b = c.args.view.now.buf.now in
    set_is_sorted g.met.K.DeserializeKey.total (map (given_at g.K.Portable.kind unit_kind g.row.E g.K.Deserialize.decoded (λ b at. unit_given) b) (list (map_tree (layout_of g.K.Portable.kind unit_kind g.row.E) b c.args.view.now.pos))) (λ s. map g.K.Deserialize.model s.keys) c.in_turn.result c.in_turn.ensures.ok
