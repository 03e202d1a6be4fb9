-- What is left after the low bound is cut before the first entry past the high one.
use Rattle.std.proofs.Common.{◌-◌, [], ◌++◌, ◌∙◌, refl, sym, ap, arith, None}
use Rattle.rkyv_btree_format.specs.Layout.{layout_of}
use Rattle.rkyv_btree_format.specs.Read.{run}
use Rattle.rkyv_btree_walk.specs.mirror.Path.{tree_rest}
use Rattle.rkyv_btree_walk.specs.Paths.{walk_rest}
use Rattle.rkyv_btree_walk.specs.Remaining.{take_before}
use Rattle.rkyv_btree_walk.proofs.Ranges.{taken_front, taken_whole, within_none, within_before}
use Rattle.rkyv_btree_walk.proofs.Seeks.{rises_right}
use Rattle.rkyv_btree_walk.proofs.Placed.{placed_none}
use Rattle.rkyv_btree_walk.proofs.range_ends.between_in.Goals as goal

pub returns-then-starts_past-clause-run : goal.returns-then-starts_past-clause-run
returns-then-starts_past-clause-run g c =
    let s = layout_of g.K.Portable.kind g.V.Portable.kind g.M.ArchivedMap.E in
    ([], tree_rest s c.args.buf.now 32 c.args.root 0, rw (c.nothing.ensures.1, c.nothing.ensures.2, c.take_all.ensures) refl)

pub returns-then-starts_past-clause-within : goal.returns-then-starts_past-clause-within
returns-then-starts_past-clause-within g c f p from past =
    let seek = c.seek_low-part.ensures in
    rw (c.nothing.ensures.1, c.nothing.ensures.2, c.take_all.ensures)
    (within_none _ _ _ seek.run.0 _ seek.run.1 (seek.from f p from) past (sym (c.starts_past.ensures.past f p) ∙ c.if-starts_past.true))

pub returns-clause-stands : goal.returns-clause-stands
returns-clause-stands g c j low high = c.seek_low-part.ensures.stands j low (omega (arith, high, c.cut-end.ensures.less))

pub returns-clause-run : goal.returns-clause-run
returns-clause-run g c =
    let s = layout_of g.K.Portable.kind g.V.Portable.kind g.M.ArchivedMap.E in
    let part = c.seek_low-part.result in
    let seek = c.seek_low-part.ensures in
    let same = ap (λ xs. run s c.args.buf.now part.node (part.end - part.next) part.next ++ xs) c.starts_past.ensures.rest in
    let left = c.cut-end.ensures.rest ∙ ap (take_before c.first_past-stop.result) same in
    let front = taken_front c.first_past-stop.result (walk_rest s c.args.buf.now part.node part.next part.end c.seek_low-part.new.path.items) in
    (seek.run.0, front.0, seek.run.1 ∙ ap (λ xs. seek.run.0 ++ xs) (front.1 ∙ ap (λ xs. xs ++ front.0) (sym left)))

pub returns-clause-whole : goal.returns-clause-whole
returns-clause-whole g c low high =
    let s = layout_of g.K.Portable.kind g.V.Portable.kind g.M.ArchivedMap.E in
    let part = c.seek_low-part.result in
    let same = ap (λ xs. run s c.args.buf.now part.node (part.end - part.next) part.next ++ xs) c.starts_past.ensures.rest in
    let left = c.cut-end.ensures.rest ∙ ap (take_before c.first_past-stop.result) same in
    left ∙ rw (c.first_past-stop.ensures.whole high) (taken_whole _) ∙ c.seek_low-part.ensures.whole low

pub returns-clause-within : goal.returns-clause-within
returns-clause-within g c f p from past =
    let s = layout_of g.K.Portable.kind g.V.Portable.kind g.M.ArchivedMap.E in
    let part = c.seek_low-part.result in
    let seek = c.seek_low-part.ensures in
    let same = ap (λ xs. run s c.args.buf.now part.node (part.end - part.next) part.next ++ xs) c.starts_past.ensures.rest in
    let left = c.cut-end.ensures.rest ∙ ap (take_before c.first_past-stop.result) same in
    let first = rw same at (c.first_past-stop.ensures.first f p) in
    left ∙ within_before _ _ _ seek.run.0 _ seek.run.1 (seek.from f p from) past c.first_past-stop.result (first (rises_right _ seek.run.0 _ (rw seek.run.1 at past)))

pub returns-then-starts_past-clause-placed : goal.returns-then-starts_past-clause-placed
returns-then-starts_past-clause-placed g c =
    let s = layout_of g.K.Portable.kind g.V.Portable.kind g.M.ArchivedMap.E in
    rw (c.nothing.ensures.1, c.nothing.ensures.2, c.take_all.ensures)
    (placed_none s c.args.buf.now (tree_rest s c.args.buf.now 32 c.args.root 0) None c.nothing.result.node 0 0 [] (omega arith) refl)

pub returns-clause-placed : goal.returns-clause-placed
returns-clause-placed g c =
    let s = layout_of g.K.Portable.kind g.V.Portable.kind g.M.ArchivedMap.E in
    let part = c.seek_low-part.result in
    let same = ap (λ xs. run s c.args.buf.now part.node (part.end - part.next) part.next ++ xs) c.starts_past.ensures.rest in
    let seek = c.seek_low-part.ensures in
    c.cut-end.ensures.placed _ (seek.run.0, seek.run.1 ∙ ap (λ xs. seek.run.0 ++ xs) (sym same))
