-- Own bytes are misplaced in one way.
use Rattle.rkyv_btree_unverified.proofs.Exact.{one_misplaced}
use Rattle.rkyv_btree_unverified.proofs.unverified.Unverified.len.Goals as goal

pub returns-in-Err-clause-all_refused : goal.returns-in-Err-clause-all_refused
returns-in-Err-clause-all_refused g c e h = one_misplaced g.K.Portable.kind g.V.Portable.kind g.M.ArchivedMap.E c.args.self.buf.now c.args.self.pos c.in-Err.refusal e c.in-Err.ensures.err h
