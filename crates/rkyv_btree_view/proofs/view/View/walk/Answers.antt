-- At its start a walk has all entries left.
use Rattle.std.proofs.Common.{[], sym, ap, ◌∙◌, map}
use Rattle.rkyv_btree_format.specs.Read.{entry_at}
use Rattle.rkyv_btree_view.proofs.Remaining.{remaining_is}
use Rattle.rkyv_btree_view.proofs.view.View.walk.Goals as goal

pub invariant_of-result : goal.invariant_of-result
invariant_of-result g c = record { valid = c.args.self.valid; walks = c.start.ensures.walks; ends = ∣ ([], sym c.start.ensures.all) ∣₁ }

pub returns : goal.returns
returns g c =
    let K = g.K.Portable.kind in
    let V = g.V.Portable.kind in
    let E = g.M.ArchivedMap.E in
    let self = c.args.self in
    remaining_is K V E self.buf.now self.pos c.start.result c.start.ensures.walks (∣ ([], sym c.start.ensures.all) ∣₁) ∙ ap (map (entry_at K V E self.buf.now)) c.start.ensures.all
