-- What is found is an entry.
use Rattle.rkyv_btree_seal.proofs.map_seal.MapSeal.with_seal_by.Goals as goal

pub with_seal_at-requires-clause-entry : goal.with_seal_at-requires-clause-entry
with_seal_at-requires-clause-entry g c = rw c.in_ok-place.was at c.find_by.ensures.entry
