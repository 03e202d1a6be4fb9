-- What is lent is an entry.
use Rattle.rkyv_btree_seal.proofs.Cursors.{lent_is_entry}
use Rattle.rkyv_btree_seal.proofs.range_cursor.RangeSeal.key.Goals as goal

pub key_at-requires-clause-entry : goal.key_at-requires-clause-entry
key_at-requires-clause-entry g c = lent_is_entry _ _ _ (rw c.unwrap-place.ensures at c.args.self.now.among)
