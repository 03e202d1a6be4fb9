-- The calls so far, and those to come.
use Rattle.std.proofs.Common.{Option, length}
use Rattle.rkyv_btree_format.specs.Layout.{layout_of}
use Rattle.rkyv_btree_walk.specs.mirror.Node.{RunStands}
use Rattle.rkyv_btree_walk.specs.mirror.Path.{IsPath, read_rest}
use Rattle.rkyv_btree_walk.specs.Paths.{path_rest}
use Rattle.rkyv_btree_walk.specs.Visit.{Visits}
use Rattle.rkyv_btree_walk.proofs.visit_loop.visit_rest.Given as goal

-- visits of what is left complete the visits so far to visits of all
abbrev pub invariant-along : goal.invariant-along
invariant-along g l =
    let K = g.K.Portable.kind in let V = g.V.Portable.kind in let E = g.M.ArchivedMap.E in
    record {
      callable : goal.F-IsAlwaysCallable g l.visit;
      path : IsPath K V E l.buf 32 l.path.items;
      stands : RunStands K V E l.buf l.leaf.node 0 l.leaf.count;
      completes : (result : Option g.row.T.Denot) (last : g.row.F.Denot)
          → Visits (λ f w x r h. goal.F-step g f w x r h) (λ w x. (K.read (g.W.Shows.bytes w) (g.W.Shows.place w), V.read (g.X.Shows.bytes x) (g.X.Shows.place x))) l.visit (read_rest K V E l.buf l.leaf.node 0 l.leaf.count l.path.items) result last
          → Visits (λ f w x r h. goal.F-step g f w x r h) (λ w x. (K.read (g.W.Shows.bytes w) (g.W.Shows.place w), V.read (g.X.Shows.bytes x) (g.X.Shows.place x))) l.fn.visit (read_rest K V E l.buf l.fn.first.node 0 l.fn.first.count l.fn.path.items) result last;
    }

abbrev pub decreases-along : goal.decreases-along
decreases-along g l = length (path_rest (layout_of g.K.Portable.kind g.V.Portable.kind g.M.ArchivedMap.E) l.buf 32 l.path.items)

-- the same within a leaf, from its next entry on
abbrev pub invariant-within : goal.invariant-within
invariant-within g l =
    let K = g.K.Portable.kind in let V = g.V.Portable.kind in let E = g.M.ArchivedMap.E in
    record {
      callable : goal.F-IsAlwaysCallable g l.visit;
      completes : (result : Option g.row.T.Denot) (last : g.row.F.Denot)
          → Visits (λ f w x r h. goal.F-step g f w x r h) (λ w x. (K.read (g.W.Shows.bytes w) (g.W.Shows.place w), V.read (g.X.Shows.bytes x) (g.X.Shows.place x))) l.visit (read_rest K V E l.buf l.leaf.node l.index l.leaf.count l.path.items) result last
          → Visits (λ f w x r h. goal.F-step g f w x r h) (λ w x. (K.read (g.W.Shows.bytes w) (g.W.Shows.place w), V.read (g.X.Shows.bytes x) (g.X.Shows.place x))) l.fn.visit (read_rest K V E l.buf l.fn.first.node 0 l.fn.first.count l.fn.path.items) result last;
    }
