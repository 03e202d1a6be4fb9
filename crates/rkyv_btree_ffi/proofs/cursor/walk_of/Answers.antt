-- What the tests find.
use Rattle.std.proofs.Common.{rules}
use Rattle.rkyv_btree_format.specs.Layout.{layout_of}
use Rattle.rkyv_btree_walk.specs.Below.{root_place, RunBelow}
use Rattle.rkyv_btree_ffi.proofs.Places.{no_place}
use Rattle.rkyv_btree_ffi.proofs.cursor.walk_of.Goals as goal

pub returns-clause-walks : goal.returns-clause-walks
returns-clause-walks g c =
    let cursor = c.args.cursor.now in
    let run : RunBelow (layout_of g.K.Portable.kind g.V.Portable.kind 5) c.args.buf.now (root_place c.args.buf.now c.args.pos) cursor.node cursor.next cursor.end = search rules in
    ∣ (run, c.in-Some.ensures.below) ∣₁

pub returns-in_default-clause-none : goal.returns-in_default-clause-none
returns-in_default-clause-none g c = λ e. no_place g.K.Portable.kind g.V.Portable.kind c.args.buf.now c.args.pos c.args.cursor.now (λ p. c.path_below.ensures.none (search rules) p.path)

pub returns-then-not-is_run-clause-none : goal.returns-then-not-is_run-clause-none
returns-then-not-is_run-clause-none g c = λ e. no_place g.K.Portable.kind g.V.Portable.kind c.args.buf.now c.args.pos c.args.cursor.now (λ p. c.is_run.ensures.none (search rules) p.run)
