-- The next entry of the leaf: what is left is one shorter.
use Rattle.std.proofs.Common.{◌+◌, ◌++◌, ◌∷◌, [], arith, sym, append_assoc, ◌∙◌, ap}
use mathlib.Core.Logic.{∥∥₁_map}
use Rattle.rkyv_btree_format.specs.Layout.{layout_of}
use Rattle.rkyv_btree_walk.specs.Below.{root_place}
use Rattle.rkyv_btree_walk.specs.Paths.{walk_rest}
use Rattle.rkyv_btree_walk.proofs.Below.{walk_run, run_within}
use Rattle.rkyv_btree_walk.proofs.Paths.{walk_more, walk_length}
use Rattle.rkyv_btree_walk.proofs.Props.{run_had}
use Rattle.rkyv_btree_walk.proofs.entry_walk.step_in_leaf.Goals as goal

pub returns-then-next-walk-clause-walks : goal.returns-then-next-walk-clause-walks
returns-then-next-walk-clause-walks g c =
    let s = layout_of g.K.Portable.kind g.V.Portable.kind g.M.ArchivedMap.E in
    let b = c.args.buf.now in
    let w = c.args.walk.now in
    let before = walk_length s b w.node w.next w.end w.path.items in
    let after = walk_length s b w.node (w.next + 1) w.end w.path.items in
    record {
      below = ∥∥₁_map c.requires.walks.below (λ h. (run_within s b (root_place b c.args.pos) w.node w.next w.end (w.next + 1) w.end (omega arith) (omega arith) h.0, h.1));
      counted = omega (arith, c.requires.walks.counted, before, after, c.if-next-walk.true);
    }

pub returns-then-next-walk-clause-takes : goal.returns-then-next-walk-clause-takes
returns-then-next-walk-clause-takes g c =
    let w = c.args.walk.now in
    walk_more (layout_of g.K.Portable.kind g.V.Portable.kind g.M.ArchivedMap.E) c.args.buf.now w.node w.next w.end w.path.items c.if-next-walk.true

pub returns-then-next-walk-clause-stands : goal.returns-then-next-walk-clause-stands
returns-then-next-walk-clause-stands g c =
    let w = c.args.walk.now in
    let run = run_had g.K.Portable.kind g.V.Portable.kind g.M.ArchivedMap.E c.args.buf.now w.node w.next w.end (∥∥₁_map c.requires.walks.below (walk_run g.K.Portable.kind g.V.Portable.kind g.M.ArchivedMap.E g.met.K.Portable.laws g.met.V.Portable.laws c.args.buf.now c.args.pos c.opened.ensures w.node w.next w.end w.path.items)) in
    λ j low high. run j low (omega (arith, c.if-next-walk.true))

pub returns-then-next-walk-clause-ends : goal.returns-then-next-walk-clause-ends
returns-then-next-walk-clause-ends g c all end =
    let w = c.args.walk.now in
    let left = walk_rest (layout_of g.K.Portable.kind g.V.Portable.kind g.M.ArchivedMap.E) c.args.buf.now w.node (w.next + 1) w.end w.path.items in
    (end.0 ++ (w.node, w.next) ∷ [], end.1 ∙ ap (λ xs. end.0 ++ xs) (returns-then-next-walk-clause-takes g c) ∙ sym (append_assoc end.0 ((w.node, w.next) ∷ []) left))
