-- The last entry of the leaf stands, and comes after the others of it.
use Rattle.std.proofs.Common.{arith}
use mathlib.Core.Logic.{∥∥₁_map}
use Rattle.rkyv_btree_format.specs.Layout.{layout_of}
use Rattle.rkyv_btree_walk.proofs.Below.{walk_run}
use Rattle.rkyv_btree_walk.proofs.Paths.{walk_last}
use Rattle.rkyv_btree_walk.proofs.Props.{run_had}
use Rattle.rkyv_btree_walk.proofs.entry_walk.last_in_leaf.Goals as goal

pub returns-then-walk-clause-last : goal.returns-then-walk-clause-last
returns-then-walk-clause-last g c =
    let w = c.args.walk.now in
    walk_last (layout_of g.K.Portable.kind g.V.Portable.kind g.M.ArchivedMap.E) c.args.buf.now w.node w.next w.end w.path.items c.if-walk.true

pub returns-then-walk-clause-stands : goal.returns-then-walk-clause-stands
returns-then-walk-clause-stands g c =
    let w = c.args.walk.now in
    let run = run_had g.K.Portable.kind g.V.Portable.kind g.M.ArchivedMap.E c.args.buf.now w.node w.next w.end (∥∥₁_map c.requires.walks.below (walk_run g.K.Portable.kind g.V.Portable.kind g.M.ArchivedMap.E g.met.K.Portable.laws g.met.V.Portable.laws c.args.buf.now c.args.pos c.opened.ensures w.node w.next w.end w.path.items)) in
    λ j low high. run j (omega (arith, low)) (omega (arith, high, c.if-walk.true))
