-- One node more, and its child; or a node that is no step.
use Rattle.std.proofs.Common.{◌≡◌, ℕ, ◌<◌, length, arith, rules, subst, true, false, take, length-take}
use Rattle.std.proofs.lemmas.Grind.{common_steps}
use Rattle.std.proofs.lemmas.List.{length-map}
use Rattle.rkyv_btree_format.specs.Layout.{layout_of}
use Rattle.rkyv_btree_walk.specs.Below.{root_place}
use Rattle.rkyv_btree_walk.proofs.Below.{put_below}
use Rattle.rkyv_btree_ffi.specs.Cursors.{step_of, path_of}
use Rattle.rkyv_btree_ffi.specs.CursorPlaces.{IsStep}
use Rattle.rkyv_btree_ffi.proofs.Places.{below_at, path_step, if_some_as, get_step}
use Rattle.rkyv_btree_ffi.proofs.cursor.path_below.Goals as goal

pub down-preserved : goal.down-preserved
down-preserved g c =
    let h = c.down.invariant in
    let s = layout_of g.K.Portable.kind g.V.Portable.kind 5 in
    let b = c.args.buf.now in
    let root = root_place b c.args.pos in
    let yes : c.is_step.result ≡ true = search rules in
    let step = c.is_step.ensures.step yes in
    let below = below_at s b root c.down.level (length c.down.path.items) _ h.count step.0 in
    let put = put_below s b root _ _ c.down.path.items c.push.new.self.items c.push.ensures.items h.below below step.1 step.2 c.push.ensures.len in
    record {
      count = omega (arith, c.push.ensures.len, h.count);
      path = grind (arith, common_steps);
      below = put.0;
      led = if_some_as c.child_node-led.result _ c.child_node-led.ensures put.1;
    }

pub returns-then-not-is_step-clause-none : goal.returns-then-not-is_step-clause-none
returns-then-not-is_step-clause-none g c = λ e good.
    let s = layout_of g.K.Portable.kind g.V.Portable.kind 5 in
    let b = c.args.buf.now in
    let root = root_place b c.args.pos in
    let cursor = c.args.cursor.now in
    let no : c.is_step.result ≡ false = search rules in
    let inside : c.down.level < length (path_of cursor) = omega (arith, length-map (take cursor.depth cursor.path) step_of, length-take cursor.depth cursor.path, c.steps_are_32.ensures, c.down-test.true, good.deep) in
    c.is_step.ensures.none no (subst (λ (f : ℕ × ℕ). IsStep s b root c.down.level f) (get_step cursor.path cursor.depth c.down.level _ c.down-test.true)
    (path_step s b root 0 c.down.level c.down.level (path_of cursor) _ (omega arith) good.path inside))
