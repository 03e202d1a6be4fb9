-- The keys of the map are those of the set.
use Rattle.std.proofs.Common.{rules}
use Rattle.rkyv_btree_view.proofs.set_view.View+ArchivedBTreeSet+K+E.iter.Goals as goal

pub returns-clause-yields : goal.returns-clause-yields
returns-clause-yields g c = search rules
