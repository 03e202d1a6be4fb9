-- Something is found where a value is.
use Rattle.rkyv_btree_source.proofs.Sourced.{reads_whether}
use Rattle.rkyv_btree_source.proofs.unverified_source.UnverifiedSource.contains_by.Goals as goal

pub returns-in-Err-clause-same_as : goal.returns-in-Err-clause-same_as
returns-in-Err-clause-same_as g c b e = reads_whether g.K.Portable.kind g.K.CompareWith.compared_at c.args.key _ (c.in-Err.ensures.same_as b e)

pub returns-in-Err-clause-reads : goal.returns-in-Err-clause-reads
returns-in-Err-clause-reads g c b e = let reads = c.in-Err.ensures.reads b e in record { takes = reads.takes; lacks = reads.lacks; fits = reads.fits }

pub returns-in-Err-clause-bounded : goal.returns-in-Err-clause-bounded
returns-in-Err-clause-bounded g c = let h = c.in-Err.ensures.bounded in record { budget = h.budget; spent = h.spent; caused = h.caused; known = h.known }

pub returns-in-Err-clause-source : goal.returns-in-Err-clause-source
returns-in-Err-clause-source g c = let h = c.in-Err.ensures.source in record { same = h.same; fails = h.fails; position = h.position }

pub returns-in-Ok-clause-same_as : goal.returns-in-Ok-clause-same_as
returns-in-Ok-clause-same_as g c b e = rw c.is_some.ensures (reads_whether g.K.Portable.kind g.K.CompareWith.compared_at c.args.key _ (c.in-Ok.ensures.same_as b e))

pub returns-in-Ok-clause-reads : goal.returns-in-Ok-clause-reads
returns-in-Ok-clause-reads g c b e = let reads = c.in-Ok.ensures.reads b e in record { takes = reads.takes; lacks = reads.lacks; fits = reads.fits }

pub returns-in-Ok-clause-bounded : goal.returns-in-Ok-clause-bounded
returns-in-Ok-clause-bounded g c = let h = c.in-Ok.ensures.bounded in record { budget = h.budget; spent = h.spent; caused = h.caused; known = h.known }

pub returns-in-Ok-clause-source : goal.returns-in-Ok-clause-source
returns-in-Ok-clause-source g c = let h = c.in-Ok.ensures.source in record { same = h.same; fails = h.fails; position = h.position }
