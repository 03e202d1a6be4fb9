-- What is lent is an entry; and a write leaves all entries, and the walk, where they are.
use Rattle.std.proofs.Common.{refl}
use Rattle.rkyv_btree_seal.proofs.Cursors.{lent_is_entry, between_kept}
use Rattle.rkyv_btree_seal.proofs.range_cursor.RangeSeal.write.Goals as goal

pub put_at-requires-clause-entry : goal.put_at-requires-clause-entry
put_at-requires-clause-entry g c = lent_is_entry _ _ _ (rw c.unwrap-place.ensures at c.args.self.now.among)

pub invariant_of-self : goal.invariant_of-self
invariant_of-self g c =
    let self = c.args.self.now in
    let tree = c.put_at.ensures.puts.tree in
    record {
      valid = c.put_at.ensures.stands;
      walks = between_kept g.K.Portable.kind g.V.Portable.kind g.M.ArchivedMap.E g.met.K.Portable.laws g.met.V.Portable.laws self.buf.now c.put_at.new.buf self.pos c.put_at.ensures.stood tree self.walk self.walks;
      among = rw tree self.among;
    }

pub returns-clause-remaining : goal.returns-clause-remaining
returns-clause-remaining g c = rw c.put_at.ensures.puts.tree refl
