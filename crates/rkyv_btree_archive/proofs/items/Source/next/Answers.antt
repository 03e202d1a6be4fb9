use Rattle.std.proofs.Common.{inr}
use Rattle.rkyv_btree_archive.proofs.items.Source.next.Goals as goal

pub returns-else-look-clause-steps : goal.returns-else-look-clause-steps
returns-else-look-clause-steps g c = inr (c.in_ok-item.item, c.in_ok-item.ensures.steps, c.look.ensures.stops c.if-look.false)
