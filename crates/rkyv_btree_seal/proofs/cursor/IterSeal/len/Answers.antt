-- As many entries remain as the walk counts.
use Rattle.std.proofs.Common.{ap, sym, ◌+◌, ◌∙◌}
use Rattle.rkyv_btree_view.proofs.Remaining.{last_count}
use Rattle.rkyv_btree_seal.proofs.cursor.IterSeal.len.Goals as goal

pub returns : goal.returns
returns g c =
    let self = c.args.self.now in
    let count = last_count g.K.Portable.kind g.V.Portable.kind g.M.ArchivedMap.E self.buf.now self.pos self.walk self.walks self.ends in
    ap (λ n. self.walk.behind + n) c.saturating_sub.ensures ∙ sym count
