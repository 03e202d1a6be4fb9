-- Each type of values that are overwritten has its own call.
use Rattle.rkyv_btree_ffi.proofs.editing.set_with.Goals as goal

pub set_narrow-requires : goal.set_narrow-requires
set_narrow-requires g c = rw c.in-U32.is at c.requires

pub returns-in-U32-clause-sets : goal.returns-in-U32-clause-sets
returns-in-U32-clause-sets g c = rw c.in-U32.is c.set_narrow.ensures.sets

pub returns-in-U32-clause-stands : goal.returns-in-U32-clause-stands
returns-in-U32-clause-stands g c = rw c.in-U32.is c.set_narrow.ensures.stands

pub set_wide-requires : goal.set_wide-requires
set_wide-requires g c = rw c.in-U64.is at c.requires

pub returns-in-U64-clause-sets : goal.returns-in-U64-clause-sets
returns-in-U64-clause-sets g c = rw c.in-U64.is c.set_wide.ensures.sets

pub returns-in-U64-clause-stands : goal.returns-in-U64-clause-stands
returns-in-U64-clause-stands g c = rw c.in-U64.is c.set_wide.ensures.stands

pub set_signed-requires : goal.set_signed-requires
set_signed-requires g c = rw c.in-I64.is at c.requires

pub returns-in-I64-clause-sets : goal.returns-in-I64-clause-sets
returns-in-I64-clause-sets g c = rw c.in-I64.is c.set_signed.ensures.sets

pub returns-in-I64-clause-stands : goal.returns-in-I64-clause-stands
returns-in-I64-clause-stands g c = rw c.in-I64.is c.set_signed.ensures.stands
