-- There are as many keys as entries.
use Rattle.std.proofs.lemmas.List.{length-map}
use Rattle.rkyv_btree_view.proofs.set_view.View+ArchivedBTreeSet+K+E.len.Goals as goal

pub returns-clause-keys : goal.returns-clause-keys
returns-clause-keys g c = rw length-map (rw (c.as_map.ensures.buffer, c.as_map.ensures.position) at c.len.ensures.entries)
