-- The iterator counts the entries that remain.
use Rattle.std.proofs.Common.{arith}
use Rattle.rkyv_btree_view.proofs.Remaining.{remaining_count}
use Rattle.rkyv_btree_view.proofs.iter.IterExactSizeIterator.len.Goals as goal

pub returns-clause-value : goal.returns-clause-value
returns-clause-value g c =
    let self = c.args.self.now in
    let count = remaining_count g.K.Portable.kind g.V.Portable.kind g.M.ArchivedMap.E self.buf.now self.pos self.walk self.walks self.ends in
    omega (arith, count)
