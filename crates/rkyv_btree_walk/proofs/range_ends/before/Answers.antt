-- A step to an entry that isn't the stop takes the first entry of the range.
use Rattle.std.proofs.Common.{[], ◌∷◌, ◌++◌, refl, sym, ap, ◌∙◌, append_assoc}
use Rattle.rkyv_btree_format.specs.Layout.{layout_of}
use Rattle.rkyv_btree_walk.specs.mirror.Path.{leaf_rest}
use Rattle.rkyv_btree_walk.proofs.Ranges.{step_before}
use Rattle.rkyv_btree_walk.proofs.range_ends.before.Goals as goal

pub returns-clause-rest : goal.returns-clause-rest
returns-clause-rest g c all steps =
    step_before c.args.stop (c.args.step.node, c.args.step.index) steps (sym c.is_stop.ensures ∙ c.if-is_stop.false) c.cut-count.ensures.rest

pub returns-then-is_stop-clause-placed : goal.returns-then-is_stop-clause-placed
returns-then-is_stop-clause-placed g c all old steps end = rw c.take_all.ensures refl

pub returns-clause-placed : goal.returns-clause-placed
returns-clause-placed g c all old steps end =
    let step = c.args.step in
    let rest = leaf_rest (layout_of g.K.Portable.kind g.V.Portable.kind g.M.ArchivedMap.E) c.args.buf.now step.leaf c.args.path.now.items in
    c.cut-count.ensures.placed all
    (end.0 ++ (step.node, step.index) ∷ [], end.1 ∙ ap (λ xs. end.0 ++ xs) steps ∙ sym (append_assoc end.0 ((step.node, step.index) ∷ []) rest))
