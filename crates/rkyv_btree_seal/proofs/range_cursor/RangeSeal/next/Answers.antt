-- A cursor stays among the entries by a step.
use mathlib.Core.Logic.{∥∥₁_map}
use Rattle.rkyv_btree_seal.proofs.Cursors.{among_takes, taken_advances}
use Rattle.rkyv_btree_seal.proofs.range_cursor.RangeSeal.next.Goals as goal

pub invariant_of-self : goal.invariant_of-self
invariant_of-self g c =
    let self = c.args.self.now in
    let same = c.step_in-self.ensures.same in
    record {
      valid = rw same self.valid;
      walks = rw same c.step_in-self.ensures.walks;
      among = rw same (∥∥₁_map self.among (among_takes _ _ _ _ _ c.step_in-self.ensures.takes));
    }

pub returns-clause-advances : goal.returns-clause-advances
returns-clause-advances g c = rw (c.step_in-self.ensures.same, c.is_some.ensures) (taken_advances _ _ c.step_in-self.result c.step_in-self.ensures.takes)
