-- What the check of a map gives, and what bytes it leaves.
use Rattle.std.proofs.Common.{refl, arith, ap, Ok, Err}
use Rattle.std.proofs.lemmas.Result.{err_from_is_err_and}
use Rattle.rkyv_btree_portable.proofs.Exactly.{ok_exactly, err_exactly}
use Rattle.rkyv_btree_verify.proofs.Answered.{is_map, of_map, is_fault, of_fault, nodes_of, few_of, gives_window}
use Rattle.rkyv_btree_verify.proofs.verify.verify_counted.Goals as goal

pub returns-clause-accepts : goal.returns-clause-accepts
returns-clause-accepts g c =
    ok_exactly _ (Ok _) (refl, is_map _ _ _ g.met.K.Portable.laws g.met.V.Portable.laws c.requires.fitting _ _ _ _ _ c.requires.ordered c.requires.before c.in_ok-lo.ensures.gives) (λ left h.
    let all = of_map _ _ _ g.met.K.Portable.laws g.met.V.Portable.laws c.requires.fitting _ _ _ _ left.lo h.1.0 h.1.1 in
    ap Ok (gives_window _ (record { lo = _; hi = _ }) left c.in_ok-lo.ensures.gives all h.0))

pub returns-clause-refuses : goal.returns-clause-refuses
returns-clause-refuses g c =
    err_exactly _ (Ok _) tt (λ e refuses.
    let all = of_fault _ _ _ g.met.K.Portable.laws g.met.V.Portable.laws c.requires.fitting _ _ _ _ e refuses in
    let ok = c.in_ok-lo.ensures.gives in
    absurd (cc (all, ok)))

pub returns-in_err-lo-clause-accepts : goal.returns-in_err-lo-clause-accepts
returns-in_err-lo-clause-accepts g c =
    let p = err_from_is_err_and c.from_residual.result c.from_residual.ensures.1 in
    rw p.1 (ok_exactly _ (Err _) tt (λ left h.
    let all = of_map _ _ _ g.met.K.Portable.laws g.met.V.Portable.laws c.requires.fitting _ _ _ _ left.lo h.1.0 h.1.1 in
    let e = c.in_err-lo.ensures.gives in
    absurd (cc (e, all))))

pub returns-in_err-lo-clause-refuses : goal.returns-in_err-lo-clause-refuses
returns-in_err-lo-clause-refuses g c =
    let p = err_from_is_err_and c.from_residual.result c.from_residual.ensures.1 in
    let err = c.in_err-lo.ensures.gives in
    rw (p.1, p.2) (err_exactly _ (Err _) (is_fault _ _ _ g.met.K.Portable.laws g.met.V.Portable.laws c.requires.fitting _ _ _ _ _ err) (λ e refuses.
    let all = of_fault _ _ _ g.met.K.Portable.laws g.met.V.Portable.laws c.requires.fitting _ _ _ _ e refuses in
    cc (err, all)))

pub returns-clause-nodes : goal.returns-clause-nodes
returns-clause-nodes g c = λ left m a.
    let all = nodes_of _ _ _ g.met.K.Portable.laws g.met.V.Portable.laws c.requires.fitting _ _ _ _ left m a in
    let counts = c.in_ok-lo.ensures.counts in
    omega arith

pub returns-clause-few : goal.returns-clause-few
returns-clause-few g c =
    let all = few_of _ _ _ g.met.K.Portable.laws g.met.V.Portable.laws c.requires.fitting c.args.buf.now c.args.pos c.args.window.lo c.args.window.hi in
    let counts = c.in_ok-lo.ensures.counts in
    omega arith

pub returns-in_err-lo-clause-nodes : goal.returns-in_err-lo-clause-nodes
returns-in_err-lo-clause-nodes g c = λ left m a.
    let all = nodes_of _ _ _ g.met.K.Portable.laws g.met.V.Portable.laws c.requires.fitting _ _ _ _ left m a in
    let counts = c.in_err-lo.ensures.counts in
    omega arith

pub returns-in_err-lo-clause-few : goal.returns-in_err-lo-clause-few
returns-in_err-lo-clause-few g c =
    let all = few_of _ _ _ g.met.K.Portable.laws g.met.V.Portable.laws c.requires.fitting c.args.buf.now c.args.pos c.args.window.lo c.args.window.hi in
    let counts = c.in_err-lo.ensures.counts in
    omega arith
