-- An entry is taken without a comparison, or by one.
use Rattle.rkyv_btree_update.proofs.updates.UpdatesIterator.next.Goals as goal
