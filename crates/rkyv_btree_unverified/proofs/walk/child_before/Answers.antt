-- What a pointer of an inner node gives.
use Rattle.std.proofs.Common.{◌+◌, ◌∙◌, sym, length}
use Rattle.rkyv_btree_format.specs.Layout.{layout_of, inner_size}
use Rattle.rkyv_btree_unverified.proofs.Chains.{is_inner}
use Rattle.rkyv_btree_unverified.proofs.Passes.{target_none, target_some, child_none, child_some, child_fits}
use Rattle.rkyv_btree_unverified.specs.Steps.{absent, bad_place, child}
use Rattle.rkyv_btree_unverified.proofs.walk.child_before.Goals as goal

pub returns-then-num32-eq1-clause-gives : goal.returns-then-num32-eq1-clause-gives
returns-then-num32-eq1-clause-gives g c hi is = absent is (rw (← c.pointer_at.ensures.value) (target_none c.args.buf.now (c.args.node + c.pointer_at.result) (sym c.num32.ensures ∙ c.if-num32-eq1.true)))

pub returns-then-num32-eq1-clause-leads : goal.returns-then-num32-eq1-clause-leads
returns-then-num32-eq1-clause-leads g c =
    let s = layout_of g.K.Portable.kind g.V.Portable.kind g.M.ArchivedMap.E in
    sym (child_none s c.args.buf.now c.args.node c.args.index (is_inner s c.args.buf.now (length c.args.buf.now) c.args.node (inner_size s) c.requires.inner)
    (rw (← c.pointer_at.ensures.value) (target_none c.args.buf.now (c.args.node + c.pointer_at.result) (sym c.num32.ensures ∙ c.if-num32-eq1.true))))

pub returns-in-Ok-clause-gives : goal.returns-in-Ok-clause-gives
returns-in-Ok-clause-gives g c hi is =
    let to = target_some c.args.buf.now (c.args.node + c.pointer_at.result) (λ z. c.if-num32-eq1.false (c.num32.ensures ∙ z)) in
    child is (rw (← c.pointer_at.ensures.value) to) c.in-Ok.ensures.gives

pub returns-in-Ok-clause-leads : goal.returns-in-Ok-clause-leads
returns-in-Ok-clause-leads g c =
    let s = layout_of g.K.Portable.kind g.V.Portable.kind g.M.ArchivedMap.E in
    let to = target_some c.args.buf.now (c.args.node + c.pointer_at.result) (λ z. c.if-num32-eq1.false (c.num32.ensures ∙ z)) in
    sym (child_some s c.args.buf.now c.args.node c.args.index c.in-Ok.below _ (is_inner s c.args.buf.now (length c.args.buf.now) c.args.node (inner_size s) c.requires.inner) (rw (← c.pointer_at.ensures.value) to) c.in-Ok.ensures.within.0)

pub returns-in-Err-clause-gives : goal.returns-in-Err-clause-gives
returns-in-Err-clause-gives g c hi is =
    let to = target_some c.args.buf.now (c.args.node + c.pointer_at.result) (λ z. c.if-num32-eq1.false (c.num32.ensures ∙ z)) in
    bad_place is (rw (← c.pointer_at.ensures.value) to) c.in-Err.ensures.gives

pub returns-in-Err-clause-accepts : goal.returns-in-Err-clause-accepts
returns-in-Err-clause-accepts g c m hi h =
    let s = layout_of g.K.Portable.kind g.V.Portable.kind g.M.ArchivedMap.E in
    let to = target_some c.args.buf.now (c.args.node + c.pointer_at.result) (λ z. c.if-num32-eq1.false (c.num32.ensures ∙ z)) in
    let fits = child_fits g.K.Portable.kind g.V.Portable.kind g.M.ArchivedMap.E c.args.buf.now m hi c.args.node c.args.index _ h (is_inner s c.args.buf.now (length c.args.buf.now) c.args.node (inner_size s) c.requires.inner) c.requires.within (rw (← c.pointer_at.ensures.value) to) in
    c.in-Err.ensures.accepts fits.0 fits.1 fits.2
