-- The calls so far, and those to come.
use Rattle.std.proofs.Common.{length, IsTrue}
use Rattle.rkyv_btree_format.specs.Layout.{layout_of}
use Rattle.rkyv_btree_portable.specs.Views.{stands}
use Rattle.rkyv_btree_seal.proofs.Visiting.{SoFar}
use Rattle.rkyv_btree_seal.proofs.visit_seal.visit_entries.Given as goal
use Rattle.rkyv_btree_walk.specs.mirror.Along.{walk_left, IsWalk}

abbrev pub invariant-along : goal.invariant-along
invariant-along g l =
    let K = g.K.Portable.kind in let V = g.V.Portable.kind in let E = g.M.ArchivedMap.E in
    record {
      stands : IsTrue (stands g.M.Portable.kind l.buf l.fn.pos);
      walks : IsWalk (layout_of K V E) l.buf l.fn.pos l.walk;
      so_far : SoFar K V E l.fn.pos (λ f k s r t h. goal.F-step g f k s r t h) l.fn.f l.fn.buf (walk_left (layout_of K V E) l.buf l.walk) l.buf l.f;
    }

abbrev pub decreases-along : goal.decreases-along
decreases-along g l = length (walk_left (layout_of g.K.Portable.kind g.V.Portable.kind g.M.ArchivedMap.E) l.buf l.walk)
