-- Nothing is read, so no budget is too small.
use Rattle.rkyv_btree_source.proofs.Knowing.{no_read}
use Rattle.rkyv_btree_source.proofs.fetch_scalars.ArchivedWideFetch.fetch.Goals as goal

pub returns-clause-lacks : goal.returns-clause-lacks
returns-clause-lacks g c b e = c.fetch_own.ensures.lacks _

pub returns-clause-fails : goal.returns-clause-fails
returns-clause-fails g c = no_read (g.S.ReadAt.Fails (g.S.ReadAt.known c.args._reader.now.source)) c.fetch_own.result c.fetch_own.ensures.fails
