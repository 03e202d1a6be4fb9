-- A node is taken from the path, and put back where it has an entry left.
use Rattle.std.proofs.Common.{◌≡◌, [], ◌∙◌, arith, rules, sym, ap}
use Rattle.rkyv_btree_format.specs.Layout.{layout_of}
use Rattle.rkyv_btree_walk.specs.Paths.{path_rest}
use Rattle.rkyv_btree_walk.specs.mirror.Range.{first_of}
use Rattle.rkyv_btree_walk.proofs.Below.{pop_below}
use Rattle.rkyv_btree_walk.proofs.Paths.{pop_path, pop_end, pop_more, walk_end, pop_run, pop_short}
use Rattle.rkyv_btree_walk.proofs.range_ends.first_left.Goals as goal

pub push-requires : goal.push-requires
push-requires g c =
    let short = pop_short _ _ _ _ 32 _ _ c.pop.new.self.items _ c.in-Some.ensures.items c.up.invariant.path in
    (omega arith, omega (arith, short))

pub returns-then-index-entries_per_node-clause-path : goal.returns-then-index-entries_per_node-clause-path
returns-then-index-entries_per_node-clause-path g c =
    rw (c.push.ensures.items, ← c.in-Some.ensures.items) c.up.invariant.path

pub returns-then-index-entries_per_node-clause-rest : goal.returns-then-index-entries_per_node-clause-rest
returns-then-index-entries_per_node-clause-rest g c =
    rw (c.push.ensures.items, ← c.in-Some.ensures.items) c.up.invariant.rest

pub returns-then-index-entries_per_node-clause-stands : goal.returns-then-index-entries_per_node-clause-stands
returns-then-index-entries_per_node-clause-stands g c =
    let less = rw c.entries_per_node.ensures at c.if-index-entries_per_node.true in
    pop_run _ _ _ _ 32 _ c.in-Some.index c.pop.new.self.items _ c.in-Some.ensures.items c.up.invariant.path (omega arith)

pub returns-then-index-entries_per_node-clause-first : goal.returns-then-index-entries_per_node-clause-first
returns-then-index-entries_per_node-clause-first g c =
    let s = layout_of g.K.Portable.kind g.V.Portable.kind g.M.ArchivedMap.E in
    let less = rw c.entries_per_node.ensures at c.if-index-entries_per_node.true in
    let left = pop_more _ _ _ _ 32 _ _ c.pop.new.self.items _ c.in-Some.ensures.items c.up.invariant.path (omega arith) in
    let end = walk_end s c.args._buf.now c.args.part.node c.args.part.next c.args.part.end c.args.path.now.items c.if-part.false in
    sym (ap first_of (end ∙ sym c.up.invariant.rest ∙ left))

pub up-preserved : goal.up-preserved
up-preserved g c =
    let none = rw c.entries_per_node.ensures at c.if-index-entries_per_node.false in
    record {
      path = pop_path _ _ _ _ 32 _ _ c.pop.new.self.items _ c.in-Some.ensures.items c.up.invariant.path;
      rest = sym (pop_end _ _ _ _ 32 _ _ c.pop.new.self.items _ c.in-Some.ensures.items c.up.invariant.path none) ∙ c.up.invariant.rest;
      below = λ root path.
          (pop_below (layout_of g.K.Portable.kind g.V.Portable.kind g.M.ArchivedMap.E) c.args._buf.now root c.in-Some.node c.in-Some.index c.pop.new.self.items _ c.in-Some.ensures.items (c.up.invariant.below root path)).0;
    }

pub returns-clause-first : goal.returns-clause-first
returns-clause-first g c =
    let s = layout_of g.K.Portable.kind g.V.Portable.kind g.M.ArchivedMap.E in
    let end = walk_end s c.args._buf.now c.args.part.node c.args.part.next c.args.part.end c.args.path.now.items c.if-part.false in
    let none : path_rest s c.args._buf.now 32 c.up.path.items ≡ [] = search rules in
    sym (ap first_of (end ∙ sym c.up.invariant.rest ∙ none))
