-- What is written is the value.
use Rattle.rkyv_btree_ffi.proofs.editing.set_wide.Goals as goal

pub returns-clause-sets : goal.returns-clause-sets
returns-clause-sets g c = λ compared same. (c.set.result, c.set.ensures.sets compared same, c.written.ensures)
