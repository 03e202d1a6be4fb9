-- An inner node has its pointers within itself.
use Rattle.std.proofs.Common.{refl}
use Rattle.rkyv_btree_ffi.proofs.cursor.child_at.Goals as goal

pub returns-in-None : goal.returns-in-None
returns-in-None g c = rw (c.requires.inner, ← c.pointer_at.ensures.value, ← c.target.ensures, c.in-None.is) refl
