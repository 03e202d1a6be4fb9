-- The walk takes the next entry, so one entry less remains.
use Rattle.std.proofs.Common.{◌∷◌, ◌∙◌, map, sym, ap}
use mathlib.Core.Logic.{∥∥₁_map}
use Rattle.rkyv_btree_format.specs.Layout.{layout_of}
use Rattle.rkyv_btree_format.specs.Read.{entry_at}
use Rattle.rkyv_btree_view.proofs.Remaining.{shorter}
use Rattle.rkyv_btree_view.specs.View.{view_entry}
use Rattle.rkyv_btree_walk.proofs.Placed.{between_left}
use Rattle.rkyv_btree_walk.specs.EntryPlaces.{entry_places}
use Rattle.rkyv_btree_walk.specs.WalkBetween.{IsWalkBetween, range_left as places_left}
use Rattle.rkyv_btree_view.proofs.range.RangeIterator.next.Goals as goal

pub invariant_of-self : goal.invariant_of-self
invariant_of-self g c =
    let self = c.args.self.now in
    record {
      valid = self.valid;
      walks = record {
        nodes = c.step_before.ensures.walks;
        placed = ∥∥₁_map self.walks.placed (c.step_before.ensures.placed (entry_places g.K.Portable.kind g.V.Portable.kind g.M.ArchivedMap.E self.buf.now self.pos));
      };
    }

pub returns-in_err-place-clause-steps : goal.returns-in_err-place-clause-steps
returns-in_err-place-clause-steps g c =
    let K = g.K.Portable.kind in
    let V = g.V.Portable.kind in
    let E = g.M.ArchivedMap.E in
    let self = c.args.self.now in
    let b = self.buf.now in
    let means = map (entry_at K V E b) in
    let walks : IsWalkBetween K V E b self.pos c.step_before.new.walk = record { nodes = c.step_before.ensures.walks; placed = ∥∥₁_map self.walks.placed (c.step_before.ensures.placed (entry_places K V E b self.pos)) } in
    let old = between_left K V E g.met.K.Portable.laws g.met.V.Portable.laws b self.pos c.opened.ensures self.walk self.walks in
    let new = between_left K V E g.met.K.Portable.laws g.met.V.Portable.laws b self.pos c.opened.ensures c.step_before.new.walk walks in
    rw c.from_residual.ensures (ap means (old ∙ c.in_err-place.ensures.takes.0), ap means (new ∙ c.in_err-place.ensures.takes.1))

pub returns-clause-steps : goal.returns-clause-steps
returns-clause-steps g c =
    let K = g.K.Portable.kind in
    let V = g.V.Portable.kind in
    let E = g.M.ArchivedMap.E in
    let self = c.args.self.now in
    let b = self.buf.now in
    let means = map (entry_at K V E b) in
    let walks : IsWalkBetween K V E b self.pos c.step_before.new.walk = record { nodes = c.step_before.ensures.walks; placed = ∥∥₁_map self.walks.placed (c.step_before.ensures.placed (entry_places K V E b self.pos)) } in
    let old = between_left K V E g.met.K.Portable.laws g.met.V.Portable.laws b self.pos c.opened.ensures self.walk self.walks in
    let new = between_left K V E g.met.K.Portable.laws g.met.V.Portable.laws b self.pos c.opened.ensures c.step_before.new.walk walks in
    ap means (old ∙ c.in_ok-place.ensures.takes)
    ∙ ap (λ e. e ∷ means (places_left (layout_of K V E) b c.step_before.new.walk)) (sym c.entry.ensures)
    ∙ ap (λ rest. view_entry c.entry.result ∷ means rest) (sym new)

pub returns-clause-goes : goal.returns-clause-goes
returns-clause-goes g c = record { on = λ _. (tt, tt, shorter _ _ _ (returns-clause-steps g c)); keeps = tt; rests = λ _. tt }
