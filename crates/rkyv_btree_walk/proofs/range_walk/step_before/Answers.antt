-- The next entry of the leaf, or of the path above it before the stop.
use Rattle.std.proofs.Common.{◌+◌, arith}
use mathlib.Core.Logic.{∥∥₁_map}
use Rattle.rkyv_btree_format.specs.Layout.{layout_of}
use Rattle.rkyv_btree_verify.proofs.MapLaws.{map_short}
use Rattle.rkyv_btree_walk.specs.Below.{root_place}
use Rattle.rkyv_btree_walk.proofs.Below.{walk_path, walk_run, run_within}
use Rattle.rkyv_btree_walk.proofs.Props.{path_had, run_had}
use Rattle.rkyv_btree_walk.proofs.Ranges.{range_more}
use Rattle.rkyv_btree_walk.proofs.Placed.{placed_more, placed_none, placed_path}
use Rattle.rkyv_btree_walk.proofs.range_walk.step_before.Goals as goal

pub returns-then-next-walk-clause-walks : goal.returns-then-next-walk-clause-walks
returns-then-next-walk-clause-walks g c =
    let s = layout_of g.K.Portable.kind g.V.Portable.kind g.M.ArchivedMap.E in
    let b = c.args.buf.now in
    let part = c.args.walk.now.part in
    ∥∥₁_map c.requires.walks (λ h. (run_within s b (root_place b c.args.pos) part.node part.next part.end (part.next + 1) part.end (omega arith) (omega arith) h.0, h.1))

pub returns-then-next-walk-clause-takes : goal.returns-then-next-walk-clause-takes
returns-then-next-walk-clause-takes g c =
    let w = c.args.walk.now in
    range_more (layout_of g.K.Portable.kind g.V.Portable.kind g.M.ArchivedMap.E) c.args.buf.now w.stop w.part.node w.part.next w.part.end w.path.items c.if-next-walk.true

pub advance_before-requires-clause-short : goal.advance_before-requires-clause-short
advance_before-requires-clause-short g c = map_short _ _ _ g.met.K.Portable.laws g.met.V.Portable.laws _ _ c.opened.ensures

pub advance_before-requires-clause-path : goal.advance_before-requires-clause-path
advance_before-requires-clause-path g c =
    let w = c.args.walk.now in
    path_had g.K.Portable.kind g.V.Portable.kind g.M.ArchivedMap.E c.args.buf.now 32 w.path.items
    (∥∥₁_map c.requires.walks (walk_path g.K.Portable.kind g.V.Portable.kind g.M.ArchivedMap.E g.met.K.Portable.laws g.met.V.Portable.laws c.args.buf.now c.args.pos c.opened.ensures w.part.node w.part.next w.part.end w.path.items))

pub returns-in_err-step-clause-walks : goal.returns-in_err-step-clause-walks
returns-in_err-step-clause-walks g c =
    ∥∥₁_map c.requires.walks (λ h. (h.0, c.in_err-step.ensures.below (root_place c.args.buf.now c.args.pos) h.1))

pub returns-clause-walks : goal.returns-clause-walks
returns-clause-walks g c =
    ∥∥₁_map c.requires.walks (λ h. (c.in_ok-step.ensures.below (root_place c.args.buf.now c.args.pos) h.1).1)

pub returns-then-next-walk-clause-stands : goal.returns-then-next-walk-clause-stands
returns-then-next-walk-clause-stands g c =
    let w = c.args.walk.now in
    let run = run_had g.K.Portable.kind g.V.Portable.kind g.M.ArchivedMap.E c.args.buf.now w.part.node w.part.next w.part.end (∥∥₁_map c.requires.walks (walk_run g.K.Portable.kind g.V.Portable.kind g.M.ArchivedMap.E g.met.K.Portable.laws g.met.V.Portable.laws c.args.buf.now c.args.pos c.opened.ensures w.part.node w.part.next w.part.end w.path.items)) in
    λ j low high. run j low (omega (arith, c.if-next-walk.true))

pub returns-then-next-walk-clause-placed : goal.returns-then-next-walk-clause-placed
returns-then-next-walk-clause-placed g c all placed =
    let w = c.args.walk.now in
    placed_more (layout_of g.K.Portable.kind g.V.Portable.kind g.M.ArchivedMap.E) c.args.buf.now all w.stop w.part.node w.part.next w.part.end w.path.items c.if-next-walk.true placed

pub returns-in_err-step-clause-placed : goal.returns-in_err-step-clause-placed
returns-in_err-step-clause-placed g c all placed =
    let s = layout_of g.K.Portable.kind g.V.Portable.kind g.M.ArchivedMap.E in
    let b = c.args.buf.now in
    let w = c.args.walk.now in
    let none = c.in_err-step.ensures.placed all (placed_path s b all w.stop w.part.node w.part.next w.part.end w.path.items (omega (arith, c.if-next-walk.false)) placed) in
    placed_none s b all w.stop w.part.node w.part.next w.part.end c.advance_before.new.path.items (omega (arith, c.if-next-walk.false)) none

pub returns-clause-placed : goal.returns-clause-placed
returns-clause-placed g c all placed =
    let w = c.args.walk.now in
    c.in_ok-step.ensures.placed all
    (placed_path (layout_of g.K.Portable.kind g.V.Portable.kind g.M.ArchivedMap.E) c.args.buf.now all w.stop w.part.node w.part.next w.part.end w.path.items (omega (arith, c.if-next-walk.false)) placed)
