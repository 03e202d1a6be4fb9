-- A stop in the leaf's part is where it ends; else no entry of it is the stop.
use Rattle.std.proofs.Common.{◌-◌, refl, sym, arith, inl, inr, None, Some}
use Rattle.std.proofs.lemmas.List.{append-nil}
use Rattle.rkyv_btree_format.specs.Layout.{layout_of}
use Rattle.rkyv_btree_walk.specs.Paths.{path_rest}
use Rattle.rkyv_btree_walk.proofs.Ranges.{taken_to, taken_past, stop_off}
use Rattle.rkyv_btree_walk.proofs.Placed.{placed_cut}
use Rattle.rkyv_btree_walk.proofs.range_ends.cut.Goals as goal

pub returns-then-index-part-clause-rest : goal.returns-then-index-part-clause-rest
returns-then-index-part-clause-rest g c =
    let s = layout_of g.K.Portable.kind g.V.Portable.kind g.M.ArchivedMap.E in
    let b = c.args._buf.now in
    let p = c.args.part.node in let i = c.args.part.next in let j = c.in-Some.index in
    let to = taken_to s b p (path_rest s b 32 c.args.path.now.items) j (j - i) (c.args.part.end - i) i (omega (arith, c.if-part-index.true)) (omega (arith, c.if-index-part.true, c.if-part-index.true)) in
    rw (c.in-Some.is, c.if-node-part.true, c.take_all.ensures, to) (append-nil _)

pub returns-in-None-clause-rest : goal.returns-in-None-clause-rest
returns-in-None-clause-rest g c =
    let s = layout_of g.K.Portable.kind g.V.Portable.kind g.M.ArchivedMap.E in
    rw c.in-None.is (sym (taken_past s c.args._buf.now c.args.part.node (path_rest s c.args._buf.now 32 c.args.path.now.items) None (c.args.part.end - c.args.part.next) c.args.part.next (λ k low high. refl)))

pub returns-else-node-part-clause-rest : goal.returns-else-node-part-clause-rest
returns-else-node-part-clause-rest g c =
    let s = layout_of g.K.Portable.kind g.V.Portable.kind g.M.ArchivedMap.E in
    let i = c.args.part.next in let n = c.args.part.end - c.args.part.next in
    rw c.in-Some.is (sym (taken_past s c.args._buf.now c.args.part.node (path_rest s c.args._buf.now 32 c.args.path.now.items) (Some (c.in-Some.node, c.in-Some.index)) n i (λ k low high.
    stop_off c.in-Some.node c.in-Some.index c.args.part.node k (λ node index. elim c.else-node-part.either [
      | inl h ↦ omega (arith, h.2)
      | inr r ↦ elim r [ inl h ↦ omega (arith, h.1) | inr h ↦ h node ]
    ]))))

pub returns-then-index-part-clause-placed : goal.returns-then-index-part-clause-placed
returns-then-index-part-clause-placed g c all end =
    let s = layout_of g.K.Portable.kind g.V.Portable.kind g.M.ArchivedMap.E in
    let p = c.args.part.node in
    rw (c.in-Some.is, c.if-node-part.true, c.take_all.ensures)
    (placed_cut s c.args._buf.now p all c.args.part.next c.in-Some.index c.args.part.end c.args.path.now.items end c.if-part-index.true c.if-index-part.true)

pub returns-in-None-clause-placed : goal.returns-in-None-clause-placed
returns-in-None-clause-placed g c all end = rw c.in-None.is (inl (record { ends = end; off = λ k low high. refl }))

pub returns-else-node-part-clause-placed : goal.returns-else-node-part-clause-placed
returns-else-node-part-clause-placed g c all end =
    rw c.in-Some.is (inl (record {
      ends = end;
      off = λ k low high. stop_off c.in-Some.node c.in-Some.index c.args.part.node k (λ node index. elim c.else-node-part.either [
        | inl h ↦ omega (arith, h.2)
        | inr r ↦ elim r [ inl h ↦ omega (arith, h.1) | inr h ↦ h node ]
      ]);
    }))
