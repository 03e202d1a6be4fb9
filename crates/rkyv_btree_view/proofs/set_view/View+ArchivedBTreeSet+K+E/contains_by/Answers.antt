-- What the map's lookup says of entries holds of keys.
use Rattle.rkyv_btree_view.proofs.Promised.{whether_key_found}
use Rattle.rkyv_btree_view.proofs.set_view.View+ArchivedBTreeSet+K+E.contains_by.Goals as goal

pub returns : goal.returns
returns g c f p = whether_key_found c.as_map.ensures.buffer c.as_map.ensures.position (c.contains_by.ensures f p)
