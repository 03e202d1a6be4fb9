-- The walk takes the next entry of its leaf, or stays as it is.
use Rattle.std.proofs.Common.{◌+◌, ◌-◌, ◌∷◌, ◌∙◌, map, sym, ap}
use Rattle.rkyv_btree_format.specs.Layout.{layout_of}
use Rattle.rkyv_btree_format.specs.Read.{entry_at, read_map}
use Rattle.rkyv_btree_view.proofs.Remaining.{remaining_is}
use Rattle.rkyv_btree_view.specs.Iter.{last_of}
use Rattle.rkyv_btree_view.specs.View.{view_entry}
use Rattle.rkyv_btree_walk.specs.mirror.Along.{walk_left}
use Rattle.rkyv_btree_view.proofs.iter.Iter.next_at_hand.Goals as goal
use mathlib.Core.Logic.{∥∥₁_map}

pub invariant_of-self : goal.invariant_of-self
invariant_of-self g c = record {
  valid = c.args.self.now.valid;
  walks = c.step_in_leaf.ensures.walks;
  ends = ∥∥₁_map c.args.self.now.ends (c.step_in_leaf.ensures.ends _);
}

pub returns-clause-takes : goal.returns-clause-takes
returns-clause-takes g c =
    let K = g.K.Portable.kind in
    let V = g.V.Portable.kind in
    let E = g.M.ArchivedMap.E in
    let self = c.args.self.now in
    let b = self.buf.now in
    let ends = ∥∥₁_map self.ends (c.step_in_leaf.ensures.ends _) in
    let means = map (entry_at K V E b) in
    let left = means (walk_left (layout_of K V E) b c.step_in_leaf.new.walk) in
    remaining_is K V E b self.pos self.walk self.walks self.ends ∙ ap means c.in_ok-place.ensures.takes
    ∙ ap (λ e. e ∷ left) (sym c.entry.ensures)
    ∙ ap (λ rest. view_entry c.entry.result ∷ rest) (sym (remaining_is K V E b self.pos c.step_in_leaf.new.walk c.step_in_leaf.ensures.walks ends))

pub returns-in_err-place-clause-kept : goal.returns-in_err-place-clause-kept
returns-in_err-place-clause-kept g c = rw c.from_residual.ensures (ap (λ w. last_of (w.behind + (w.end - w.next)) (read_map g.K.Portable.kind g.V.Portable.kind g.M.ArchivedMap.E c.args.self.now.buf.now c.args.self.now.pos)) c.in_err-place.ensures.kept)
