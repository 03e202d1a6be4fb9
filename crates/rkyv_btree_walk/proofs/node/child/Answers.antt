-- An inner node's child is where its pointer leads.
use Rattle.std.proofs.Common.{refl}
use Rattle.rkyv_btree_walk.proofs.node.child.Goals as goal

pub returns-in-None : goal.returns-in-None
returns-in-None g c = rw (c.requires.inner, ← c.pointer_at.ensures.value, ← c.target.ensures, c.in-None.is) refl
