-- What the map's lookup says of entries holds of keys.
use Rattle.rkyv_btree_view.proofs.Promised.{key_lookup}
use Rattle.rkyv_btree_view.proofs.set_view.View+ArchivedBTreeSet+K+E.get.Goals as goal

pub returns-in-None : goal.returns-in-None
returns-in-None g c = rw c.in-None.is at (key_lookup {view = c.args.self} c.as_map.ensures.buffer c.as_map.ensures.position c.get_key_value.ensures)

pub returns-in-Some : goal.returns-in-Some
returns-in-Some g c = rw c.in-Some.is at (key_lookup {view = c.args.self} c.as_map.ensures.buffer c.as_map.ensures.position c.get_key_value.ensures)
