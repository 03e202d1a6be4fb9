-- What is lent is an entry.
use Rattle.rkyv_btree_seal.proofs.Cursors.{lent_is_entry}
use Rattle.rkyv_btree_seal.proofs.cursor.IterSeal.read.Goals as goal

pub read_at-requires-clause-entry : goal.read_at-requires-clause-entry
read_at-requires-clause-entry g c = lent_is_entry _ _ _ (rw c.unwrap-place.ensures at c.args.self.now.among)
