-- One call more, at the entry that comes next in a leaf or above it.
use Rattle.std.proofs.Common.{◌∙◌, map, of_calls, ap}
use Rattle.rkyv_btree_format.specs.Layout.{layout_of}
use Rattle.rkyv_btree_format.specs.Read.{entry_at}
use Rattle.rkyv_btree_walk.proofs.Paths.{walk_more, walk_end}
use Rattle.rkyv_btree_walk.proofs.Visits.{visits_on, visits_off}
use Rattle.rkyv_btree_walk.proofs.visit_loop.visit_rest.Goals as goal

pub within-preserved : goal.within-preserved
within-preserved g c =
    let K = g.K.Portable.kind in
    let V = g.V.Portable.kind in
    let E = g.M.ArchivedMap.E in
    let b = c.args.buf.now in
    let are = ap (map (entry_at K V E b)) (walk_more (layout_of K V E) b c.along.leaf.node c.within.index c.along.leaf.count c.along.path.items c.within-test.true) in
    record {
      callable = search of_calls;
      completes = λ result last rest. c.within.invariant.completes result last
          (visits_on _ _ c.within.visit c.visit.new.self c.entry-key.result.0 c.entry-key.result.1 _ _ _ are c.entry-key.ensures result last c.in-Continue.ensures rest);
    }

pub returns-in-Break : goal.returns-in-Break
returns-in-Break g c =
    let K = g.K.Portable.kind in
    let V = g.V.Portable.kind in
    let E = g.M.ArchivedMap.E in
    let b = c.args.buf.now in
    let are = ap (map (entry_at K V E b)) (walk_more (layout_of K V E) b c.along.leaf.node c.within.index c.along.leaf.count c.along.path.items c.within-test.true) in (
      c.visit.new.self,
      c.within.invariant.completes _ _
          (visits_off _ _ c.within.visit c.visit.new.self c.entry-key.result.0 c.entry-key.result.1 _ _ _ are c.entry-key.ensures c.in-Break.found c.in-Break.ensures),
    )

pub along-preserved : goal.along-preserved
along-preserved g c =
    let K = g.K.Portable.kind in
    let V = g.V.Portable.kind in
    let E = g.M.ArchivedMap.E in
    let b = c.args.buf.now in
    let are = ap (map (entry_at K V E b)) (walk_end (layout_of K V E) b c.along.leaf.node c.within.index c.along.leaf.count c.along.path.items c.within-test.false ∙ c.in-Some.ensures.rest) in
    record {
      callable = search of_calls;
      path = c.in-Some.ensures.path;
      stands = c.in-Some.ensures.leaf;
      completes = λ result last rest. c.within.invariant.completes result last
          (visits_on _ _ c.within.visit c.visit-in-Some.new.self c.entry-key-in-Some.result.0 c.entry-key-in-Some.result.1 _ _ _ are c.entry-key-in-Some.ensures result last c.in-Continue-visit.ensures rest);
    }

pub returns-in-Break-visit : goal.returns-in-Break-visit
returns-in-Break-visit g c =
    let K = g.K.Portable.kind in
    let V = g.V.Portable.kind in
    let E = g.M.ArchivedMap.E in
    let b = c.args.buf.now in
    let are = ap (map (entry_at K V E b)) (walk_end (layout_of K V E) b c.along.leaf.node c.within.index c.along.leaf.count c.along.path.items c.within-test.false ∙ c.in-Some.ensures.rest) in (
      c.visit-in-Some.new.self,
      c.within.invariant.completes _ _
          (visits_off _ _ c.within.visit c.visit-in-Some.new.self c.entry-key-in-Some.result.0 c.entry-key-in-Some.result.1 _ _ _ are c.entry-key-in-Some.ensures c.in-Break-visit.found c.in-Break-visit.ensures),
    )
