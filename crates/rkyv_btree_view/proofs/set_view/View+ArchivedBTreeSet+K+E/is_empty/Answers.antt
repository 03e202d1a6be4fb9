-- A list has no items exactly where its length is 0.
use Rattle.std.proofs.Common.{arith}
use Rattle.std.proofs.lemmas.Grind.{common_steps}
use Rattle.rkyv_btree_view.proofs.set_view.View+ArchivedBTreeSet+K+E.is_empty.Goals as goal

pub returns : goal.returns
returns g c = grind (arith, common_steps)
