-- Pointers lead to a node through one of the children.
use Rattle.std.proofs.Common.{◌≡◌, ℕ, suc, ◌-◌, ◌<◌, ◌≤◌, ◌∙◌, Some, sym, arith, rules}
use Rattle.std.proofs.lemmas.Grind.{common_steps}
use Rattle.rkyv_btree_format.specs.Layout.{layout_of}
use Rattle.rkyv_btree_walk.specs.Below.{root_place, IsBelow}
use Rattle.rkyv_btree_walk.specs.Nodes.{child_place}
use Rattle.rkyv_btree_ffi.proofs.Places.{leads_step, leads_none}
use Rattle.rkyv_btree_ffi.proofs.cursor.+leads_to.Goals as goal

pub leads_to-requires : goal.leads_to-requires
leads_to-requires g t c =
    let s = layout_of g.K.Portable.kind g.V.Portable.kind 5 in
    let less : c.args.pointers - 1 < t = grind (arith, common_steps) in
    let low : c.children.index ≤ 5 = omega arith in
    let to : child_place s c.args.buf.now c.args.from c.children.index ≡ Some c.in-Some.child = sym c.child_node.ensures ∙ c.in-Some.is in
    let below : (x : ℕ) × IsBelow s c.args.buf.now (root_place c.args.buf.now c.args.pos) x c.in-Some.child = (suc c.requires.below.0, (c.args.from, c.children.index, c.requires.below.1, low, to)) in
    search rules

pub returns-then-leads_to-clause-leads : goal.returns-then-leads_to-clause-leads
returns-then-leads_to-clause-leads g t c = λ e.
    let s = layout_of g.K.Portable.kind g.V.Portable.kind 5 in
    let is : c.args.pointers ≡ suc (c.args.pointers - 1) = grind (arith, common_steps) in
    leads_step s c.args.buf.now c.args.pointers (c.args.pointers - 1) c.args.from c.children.index c.in-Some.child c.args.node is (omega arith) (sym c.child_node.ensures ∙ c.in-Some.is) (c.leads_to.ensures.leads c.if-leads_to.true)

pub returns-clause-none : goal.returns-clause-none
returns-clause-none g t c = λ e.
    let s = layout_of g.K.Portable.kind g.V.Portable.kind 5 in
    let is : c.args.pointers ≡ suc (c.args.pointers - 1) = grind (arith, common_steps) in
    leads_none s c.args.buf.now c.args.pointers (c.args.pointers - 1) c.args.from c.args.node is (λ i ch low to. c.children.invariant i ch (omega (arith, low, c.children-test.false)) to)
