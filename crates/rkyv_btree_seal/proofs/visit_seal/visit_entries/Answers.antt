-- One call more, at the entry that the walk takes.
use Rattle.std.proofs.Common.{◌≡◌, ◌∷◌, length, ap, arith}
use Rattle.rkyv_btree_format.specs.Layout.{layout_of}
use Rattle.rkyv_btree_seal.proofs.Cursors.{walk_left_kept, is_walk_kept}
use Rattle.rkyv_btree_seal.proofs.Visiting.{SoFar, so_far_end, next_number, next_may, so_far_more, so_far_break}
use Rattle.rkyv_btree_seal.proofs.visit_seal.visit_entries.Goals as goal
use Rattle.rkyv_btree_walk.specs.mirror.Along.{walk_left, IsWalk}
use Rattle.rkyv_btree_walk.specs.EntryPlaces.{place_of}

pub step_entry-requires-clause-entry : goal.step_entry-requires-clause-entry
step_entry-requires-clause-entry g c =
    (length c.along.invariant.so_far.done, next_number _ _ _ _ _ _ _ _ _ _ c.in-Some.ensures.takes _ _ c.along.invariant.so_far)

pub step_entry-requires-clause-may : goal.step_entry-requires-clause-may
step_entry-requires-clause-may g c =
    (next_may _ _ _ _ _ _ _ _ _ _ c.in-Some.ensures.takes _ _ c.along.invariant.so_far _ c.requires.may g.met.K.Portable.laws g.met.V.Portable.laws g.met.V.InPlace.is_in_place.alone c.opened.ensures)

pub along-smaller : goal.along-smaller
along-smaller g c =
    let K = g.K.Portable.kind in let V = g.V.Portable.kind in let E = g.M.ArchivedMap.E in
    let walks : IsWalk (layout_of K V E) c.along.buf c.args.pos c.step.new.walk = c.step.ensures.walks in
    let kept = ap length (walk_left_kept K V E g.met.K.Portable.laws g.met.V.Portable.laws c.along.buf c.step_entry.new.buf c.args.pos c.opened.ensures c.step_entry.ensures.calls.puts.tree c.step.new.walk walks) in
    let first = ap length c.in-Some.ensures.takes in
    omega (arith, kept, first)

pub along-preserved : goal.along-preserved
along-preserved g c =
    let K = g.K.Portable.kind in let V = g.V.Portable.kind in let E = g.M.ArchivedMap.E in
    let walks : IsWalk (layout_of K V E) c.along.buf c.args.pos c.step.new.walk = c.step.ensures.walks in
    let tree = c.step_entry.ensures.calls.puts.tree in
    let kept = walk_left_kept K V E g.met.K.Portable.laws g.met.V.Portable.laws c.along.buf c.step_entry.new.buf c.args.pos c.opened.ensures tree c.step.new.walk walks in
    let takes : walk_left (layout_of K V E) c.along.buf c.along.walk ≡ place_of c.in-Some.place ∷ walk_left (layout_of K V E) c.along.buf c.step.new.walk = c.in-Some.ensures.takes in
    let so_far : SoFar K V E c.args.pos (λ f k s r t h. goal.F-step g f k s r t h) c.args.f c.args.buf.now (walk_left (layout_of K V E) c.along.buf c.along.walk) c.along.buf c.along.f = c.along.invariant.so_far in
    record {
      stands = c.step_entry.ensures.stands;
      walks = is_walk_kept K V E g.met.K.Portable.laws g.met.V.Portable.laws c.along.buf c.step_entry.new.buf c.args.pos c.opened.ensures tree c.step.new.walk walks;
      so_far = rw kept (so_far_more _ _ _ _ _ _ _ _ _ _ takes _ _ so_far _ _ _ c.step_entry.ensures.calls _ c.in-Continue.is);
    }

pub returns-in-Break-clause-visits : goal.returns-in-Break-clause-visits
returns-in-Break-clause-visits g c =
    let K = g.K.Portable.kind in let V = g.V.Portable.kind in let E = g.M.ArchivedMap.E in
    let takes : walk_left (layout_of K V E) c.along.buf c.along.walk ≡ place_of c.in-Some.place ∷ walk_left (layout_of K V E) c.along.buf c.step.new.walk = c.in-Some.ensures.takes in
    let so_far : SoFar K V E c.args.pos (λ f k s r t h. goal.F-step g f k s r t h) c.args.f c.args.buf.now (walk_left (layout_of K V E) c.along.buf c.along.walk) c.along.buf c.along.f = c.along.invariant.so_far in
    (_, so_far_break _ _ _ _ _ _ _ _ _ _ takes _ _ so_far _ _ _ c.step_entry.ensures.calls _ c.in-Break.is)

pub returns-clause-visits : goal.returns-clause-visits
returns-clause-visits g c =
    (c.along.f, (so_far_end _ _ _ _ _ _ _ _ _ _ (c.in_default.ensures.takes.0) c.along.invariant.so_far))
