-- The next entry of the leaf, or of the path above it: what is left is one shorter.
use Rattle.std.proofs.Common.{◌≤◌, length, arith, sym, ap, subst}
use mathlib.Core.Logic.{∥∥₁_map}
use Rattle.rkyv_btree_format.specs.Layout.{layout_of}
use Rattle.rkyv_btree_verify.proofs.MapLaws.{map_short}
use Rattle.rkyv_btree_walk.specs.Below.{root_place}
use Rattle.rkyv_btree_walk.proofs.Below.{walk_path}
use Rattle.rkyv_btree_walk.proofs.Paths.{walk_length, step_length}
use Rattle.rkyv_btree_walk.proofs.Props.{path_had}
use Rattle.rkyv_btree_walk.proofs.entry_walk.step.Goals as goal

pub advance-requires-clause-short : goal.advance-requires-clause-short
advance-requires-clause-short g c = map_short _ _ _ g.met.K.Portable.laws g.met.V.Portable.laws _ _ c.opened.ensures

pub advance-requires-clause-path : goal.advance-requires-clause-path
advance-requires-clause-path g c =
    let w = c.step_in_leaf.new.walk in
    path_had g.K.Portable.kind g.V.Portable.kind g.M.ArchivedMap.E c.args.buf.now 32 w.path.items
    (∥∥₁_map c.step_in_leaf.ensures.walks.below (walk_path g.K.Portable.kind g.V.Portable.kind g.M.ArchivedMap.E g.met.K.Portable.laws g.met.V.Portable.laws c.args.buf.now c.args.pos c.opened.ensures w.node w.next w.end w.path.items))

pub returns-in_err-step-clause-walks : goal.returns-in_err-step-clause-walks
returns-in_err-step-clause-walks g c =
    let s = layout_of g.K.Portable.kind g.V.Portable.kind g.M.ArchivedMap.E in
    let b = c.args.buf.now in
    let w = c.step_in_leaf.new.walk in
    let before = walk_length s b w.node w.next w.end w.path.items in
    let after = walk_length s b w.node w.next w.end c.advance.new.path.items in
    let old = ap length c.in_err-step.ensures.rest.0 in
    let new = ap length c.in_err-step.ensures.rest.1 in
    record {
      below = ∥∥₁_map c.step_in_leaf.ensures.walks.below (λ h. (h.0, c.in_err-step.ensures.below (root_place b c.args.pos) h.1));
      counted = omega (arith, c.step_in_leaf.ensures.walks.counted, before, after, old, new);
    }

pub overflow_sub-walk-2 : goal.overflow_sub-walk-2
overflow_sub-walk-2 g c =
    let s = layout_of g.K.Portable.kind g.V.Portable.kind g.M.ArchivedMap.E in
    let b = c.args.buf.now in
    let w = c.step_in_leaf.new.walk in
    let ended : w.end ≤ w.next = subst (λ v. v.end ≤ v.next) (sym c.in_default.ensures.kept) c.in_default.ensures.none in
    let step = c.in_ok-step.step in
    let before = walk_length s b w.node w.next w.end w.path.items in
    let same = step_length s b step.leaf.node _ step.leaf.count w.path.items c.advance.new.path.items c.in_ok-step.ensures.rest in
    omega (arith, c.step_in_leaf.ensures.walks.counted, before, same, ended)

pub returns-clause-walks : goal.returns-clause-walks
returns-clause-walks g c =
    let s = layout_of g.K.Portable.kind g.V.Portable.kind g.M.ArchivedMap.E in
    let b = c.args.buf.now in
    let w = c.step_in_leaf.new.walk in
    let ended : w.end ≤ w.next = subst (λ v. v.end ≤ v.next) (sym c.in_default.ensures.kept) c.in_default.ensures.none in
    let step = c.in_ok-step.step in
    let before = walk_length s b w.node w.next w.end w.path.items in
    let same = step_length s b step.leaf.node _ step.leaf.count w.path.items c.advance.new.path.items c.in_ok-step.ensures.rest in
    let after = walk_length s b step.leaf.node 0 step.leaf.count c.advance.new.path.items in
    record {
      below = ∥∥₁_map c.step_in_leaf.ensures.walks.below (λ h. (c.in_ok-step.ensures.below (root_place b c.args.pos) h.1).1);
      counted = omega (arith, c.step_in_leaf.ensures.walks.counted, before, same, after, ended);
    }
