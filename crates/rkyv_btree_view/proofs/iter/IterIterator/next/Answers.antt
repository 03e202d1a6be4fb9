-- The walk takes the next entry, so one entry less remains.
use Rattle.std.proofs.Common.{◌∷◌, ◌∙◌, map, sym, ap}
use Rattle.rkyv_btree_format.specs.Layout.{layout_of}
use Rattle.rkyv_btree_format.specs.Read.{entry_at}
use Rattle.rkyv_btree_view.proofs.Remaining.{end_taken, remaining_is, shorter}
use Rattle.rkyv_btree_view.specs.View.{view_entry}
use Rattle.rkyv_btree_walk.specs.mirror.Along.{walk_left}
use Rattle.rkyv_btree_view.proofs.iter.IterIterator.next.Goals as goal
use mathlib.Core.Logic.{∥∥₁_map}

pub invariant_of-self : goal.invariant_of-self
invariant_of-self g c = record {
  valid = c.args.self.now.valid;
  walks = c.step.ensures.walks;
  ends = ∥∥₁_map c.args.self.now.ends (end_taken _ _ _ c.step.result c.step.ensures.takes);
}

pub returns-clause-steps : goal.returns-clause-steps
returns-clause-steps g c =
    let K = g.K.Portable.kind in
    let V = g.V.Portable.kind in
    let E = g.M.ArchivedMap.E in
    let self = c.args.self.now in
    let b = self.buf.now in
    let ends = ∥∥₁_map self.ends (end_taken _ _ _ c.step.result c.step.ensures.takes) in
    let means = map (entry_at K V E b) in
    let left = means (walk_left (layout_of K V E) b c.step.new.walk) in
    remaining_is K V E b self.pos self.walk self.walks self.ends ∙ ap means c.in_ok-place.ensures.takes
    ∙ ap (λ e. e ∷ left) (sym c.entry.ensures)
    ∙ ap (λ rest. view_entry c.entry.result ∷ rest) (sym (remaining_is K V E b self.pos c.step.new.walk c.step.ensures.walks ends))

pub returns-clause-goes : goal.returns-clause-goes
returns-clause-goes g c = record { on = λ _. (tt, tt, shorter _ _ _ (returns-clause-steps g c)); keeps = tt; rests = λ _. tt }
