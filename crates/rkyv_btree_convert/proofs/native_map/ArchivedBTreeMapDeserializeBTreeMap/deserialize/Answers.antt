-- Decoded entries whose keys increase are those of the map.
use Rattle.std.proofs.Common.{map}
use Rattle.rkyv_btree_format.specs.Layout.{layout_of}
use Rattle.rkyv_btree_format.specs.Read.{map_tree}
use Rattle.rkyv_btree_shape.specs.Tree.{list}
use Rattle.rkyv_btree_convert.proofs.Sorted.{map_is_sorted}
use Rattle.rkyv_btree_convert.specs.Maps.{given_at, model_both}
use Rattle.rkyv_btree_convert.proofs.native_map.ArchivedBTreeMapDeserializeBTreeMap.deserialize.Goals as goal

pub returns-then-equal_keys_are_same-clause-sorted : goal.returns-then-equal_keys_are_same-clause-sorted
returns-then-equal_keys_are_same-clause-sorted g c =
    let b = c.args.view.now.buf.now in
    map_is_sorted g.met.K.DeserializeKey.total (map (given_at g.K.Portable.kind g.V.Portable.kind g.row.E g.K.Deserialize.decoded g.V.Deserialize.decoded b) (list (map_tree (layout_of g.K.Portable.kind g.V.Portable.kind g.row.E) b c.args.view.now.pos))) (λ m. model_both g.K.Deserialize.model g.V.Deserialize.model m.entries) c.at_once.result c.at_once.ensures.ok

pub returns-else-equal_keys_are_same-clause-sorted : goal.returns-else-equal_keys_are_same-clause-sorted
returns-else-equal_keys_are_same-clause-sorted g c =
    let b = c.args.view.now.buf.now in
    map_is_sorted g.met.K.DeserializeKey.total (map (given_at g.K.Portable.kind g.V.Portable.kind g.row.E g.K.Deserialize.decoded g.V.Deserialize.decoded b) (list (map_tree (layout_of g.K.Portable.kind g.V.Portable.kind g.row.E) b c.args.view.now.pos))) (λ m. model_both g.K.Deserialize.model g.V.Deserialize.model m.entries) c.in_turn.result c.in_turn.ensures.ok
