-- What the map's own bytes give.
use Rattle.std.proofs.Common.{◌∙◌, sym}
use Rattle.rkyv_btree_unverified.proofs.Passes.{root_fits, not_misplaced}
use Rattle.rkyv_btree_unverified.specs.Steps.{misplaced, empty, bad_root, root}
use Rattle.rkyv_btree_unverified.proofs.walk.head.Goals as goal

pub returns-then-num32-eq0-clause-gives : goal.returns-then-num32-eq0-clause-gives
returns-then-num32-eq0-clause-gives g c = empty c.in-Ok.ensures.ok (sym c.num32.ensures ∙ c.if-num32-eq0.true)

pub returns-in-Err-clause-gives : goal.returns-in-Err-clause-gives
returns-in-Err-clause-gives g c = misplaced c.in-Err.ensures.err

pub returns-in-Err-clause-accepts : goal.returns-in-Err-clause-accepts
returns-in-Err-clause-accepts g c m h = absurd (not_misplaced c.args.buf.now c.args.pos c.in-Err.refusal h.1.short h.1.room h.1.aligned c.in-Err.ensures.err)

pub returns-in-Ok-node_place-clause-gives : goal.returns-in-Ok-node_place-clause-gives
returns-in-Ok-node_place-clause-gives g c = root c.in-Ok.ensures.ok (λ z. c.if-num32-eq0.false (c.num32.ensures ∙ z)) c.in-Ok-node_place.ensures.gives

pub returns-in-Err-node_place-clause-gives : goal.returns-in-Err-node_place-clause-gives
returns-in-Err-node_place-clause-gives g c = bad_root c.in-Ok.ensures.ok (λ z. c.if-num32-eq0.false (c.num32.ensures ∙ z)) c.in-Err-node_place.ensures.gives

pub returns-in-Err-node_place-clause-accepts : goal.returns-in-Err-node_place-clause-accepts
returns-in-Err-node_place-clause-accepts g c m h =
    let fits = root_fits _ _ _ _ g.met.K.Portable.laws g.met.V.Portable.laws c.requires.fitting _ h.0 m h.1 (λ z. c.if-num32-eq0.false (c.num32.ensures ∙ z)) in
    c.in-Err-node_place.ensures.accepts fits.0 fits.1 fits.2
