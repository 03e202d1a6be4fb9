-- A cursor stays among the entries by a step.
use mathlib.Core.Logic.{∥∥₁_map}
use Rattle.rkyv_btree_seal.proofs.Cursors.{among_takes, taken_advances}
use Rattle.rkyv_btree_view.proofs.Remaining.{end_taken, last_places}
use Rattle.rkyv_btree_seal.proofs.cursor.IterSeal.next.Goals as goal

pub invariant_of-self : goal.invariant_of-self
invariant_of-self g c =
    let self = c.args.self.now in
    let same = c.step_in-self.ensures.same in
    record {
      valid = rw same self.valid;
      walks = rw same c.step_in-self.ensures.walks;
      among = rw same (∥∥₁_map self.among (among_takes _ _ _ _ _ c.step_in-self.ensures.takes));
      ends = rw same (∥∥₁_map self.ends (end_taken _ _ _ _ c.step_in-self.ensures.takes));
    }

pub returns-clause-advances : goal.returns-clause-advances
returns-clause-advances g c =
    let self = c.args.self.now in
    let step = c.step_in-self in
    let left = last_places g.K.Portable.kind g.V.Portable.kind g.M.ArchivedMap.E self.buf.now self.pos in
    let ends = ∥∥₁_map self.ends (end_taken _ _ _ _ step.ensures.takes) in
    rw (step.ensures.same, c.is_some.ensures, left self.walk self.walks self.ends, left step.new.walk step.ensures.walks ends) (taken_advances _ _ step.result step.ensures.takes)
