-- What entries give is what their keys and values give.
use Rattle.std.proofs.Common.{ap}
use Rattle.rkyv_btree_format.specs.Layout.{layout_of}
use Rattle.rkyv_btree_format.specs.Read.{map_tree}
use Rattle.rkyv_btree_shape.specs.Tree.{list}
use Rattle.rkyv_btree_convert.specs.Maps.{map_given}
use Rattle.rkyv_btree_convert.specs.laws.Maps.{given_by_meaning}
use Rattle.rkyv_btree_convert.proofs.native_map.maps_are_given_by_entries.Goals as goal

pub returns : goal.returns
returns g c of_key of_value keys values b at =
    let K = g.K.Portable.kind in let V = g.V.Portable.kind in
    ap (map_given g.K.Deserialize.model_order) (given_by_meaning K V g.row.E of_key of_value keys values b (list (map_tree (layout_of K V g.row.E) b at)))
