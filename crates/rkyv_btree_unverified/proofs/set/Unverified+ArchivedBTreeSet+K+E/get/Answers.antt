-- The key of the entry found, in the map that the set is.
use Rattle.rkyv_btree_view.specs.View.{view_value}
use Rattle.rkyv_btree_unverified.proofs.Promised.{by_key, gives_key}
use Rattle.rkyv_btree_unverified.proofs.set.Unverified+ArchivedBTreeSet+K+E.get.Goals as goal

pub returns-in-Err : goal.returns-in-Err
returns-in-Err g c = rw (c.as_map.ensures.buffer, c.as_map.ensures.position) at (gives_key (by_key g.K.Portable.kind (view_value c.args.key)) _ c.in-Err.ensures)

pub returns-in-Ok-None : goal.returns-in-Ok-None
returns-in-Ok-None g c = rw (c.as_map.ensures.buffer, c.as_map.ensures.position, c.in-Ok-None.field-0-is) at (gives_key (by_key g.K.Portable.kind (view_value c.args.key)) _ c.in-Ok-None.ensures)

pub returns-in-Ok-Some : goal.returns-in-Ok-Some
returns-in-Ok-Some g c = rw (c.as_map.ensures.buffer, c.as_map.ensures.position, c.in-Ok-Some.field-0-is) at (gives_key (by_key g.K.Portable.kind (view_value c.args.key)) _ c.in-Ok-Some.ensures)
