-- What `verify` refuses, and after that the order.
use Rattle.std.proofs.Common.{IsTrue, List, ap, refl, rules, sym, subst}
use Rattle.std.specs.Prelude.{Ok, Err}
use Rattle.rkyv_btree_portable.specs.declared.refusal.Refusal.TheVariants.{OutOfOrder}
use Rattle.rkyv_btree_portable.proofs.Exactly.{ok_exactly, err_exactly}
use Rattle.rkyv_btree_strict.proofs.Checked.{increasing_there, only_for_order, only_of_map, out_there, read_there, widest}
use Rattle.rkyv_btree_strict.proofs.Ordered.{not_both, one_index}
use Rattle.rkyv_btree_format.specs.Increasing.{Increasing, IsOutOfOrder}
use Rattle.rkyv_btree_strict.specs.Strict.{no_map, out_of_order}
use Rattle.rkyv_btree_format.specs.Layout.{are_fitting}
use Rattle.rkyv_btree_view.specs.Map.{IsMap}
use Rattle.rkyv_btree_strict.proofs.strict.verify_strict.Goals as goal

pub returns-in-Err-clause-accepts : goal.returns-in-Err-clause-accepts
returns-in-Err-clause-accepts g c =
    ok_exactly _ (Err _) tt (λ left is. absurd (cc (c.in-Err.is, (c.verify.ensures.accepts left).1 (is.0, (is.1.0, is.1.1)))))

pub returns-in-Err-clause-refuses : goal.returns-in-Err-clause-refuses
returns-in-Err-clause-refuses g c =
    err_exactly _ (Err _) (no_map ((c.verify.ensures.refuses _).0 c.in-Err.is)) (λ e refuses.
    let r = only_of_map _ _ _ g.met.K.Portable.laws g.met.V.Portable.laws c.args.buf.now _ _ c.args.pos e refuses
    (λ left m a. absurd (cc (c.in-Err.is, (c.verify.ensures.accepts (record { lo = left; hi = c.args.window.hi })).1 (refl, (m, a))))) in
    cc (c.in-Err.is, (c.verify.ensures.refuses e).1 r))

pub access_valid-requires : goal.access_valid-requires
access_valid-requires g c =
    let is = (c.verify.ensures.accepts c.in-Ok.left).0 c.in-Ok.is in
    let accepted : (m : List (g.K.Portable.kind.Value × g.V.Portable.kind.Value)) × IsMap g.K.Portable.kind g.V.Portable.kind g.row.E c.args.buf.now c.args.pos m =
    (is.1.0, widest _ _ _ g.met.K.Portable.laws g.met.V.Portable.laws c.args.buf.now _ _ c.args.pos _ is.1.0 is.1.1) in
    let fitting : IsTrue (are_fitting g.K.Portable.kind g.V.Portable.kind g.row.E) = c.requires.fitting in
    search rules

pub returns-in-None-clause-accepts : goal.returns-in-None-clause-accepts
returns-in-None-clause-accepts g c =
    let is = (c.verify.ensures.accepts c.in-Ok.left).0 c.in-Ok.is in
    let there = read_there _ _ _ g.met.K.Portable.laws g.met.V.Portable.laws c.args.buf.now _ _ c.args.pos c.access_valid.ensures.buffer c.access_valid.ensures.position _ _ _ is.1.0 is.1.1 in
    ok_exactly _ (Ok _) (is.0, (is.1.0, is.1.1, subst (Increasing g.K.Portable.kind.order) (sym there) c.in-None.ensures)) (λ left h. cc (c.in-Ok.is, (c.verify.ensures.accepts left).1 (h.0, (h.1.0, h.1.1))))

pub returns-in-None-clause-refuses : goal.returns-in-None-clause-refuses
returns-in-None-clause-refuses g c =
    err_exactly _ (Ok _) tt (λ e refuses.
    only_for_order _ _ _ g.met.K.Portable.laws g.met.V.Portable.laws c.args.buf.now _ _ c.args.pos e _ refuses
    (λ f r. absurd (cc (c.in-Ok.is, (c.verify.ensures.refuses f).1 r)))
    (λ left index m a o. absurd (not_both g.met.K.ViewOrd.total _ index c.in-None.ensures (out_there _ _ _ g.met.K.Portable.laws g.met.V.Portable.laws c.args.buf.now _ _ c.args.pos c.access_valid.ensures.buffer c.access_valid.ensures.position _ _ _ index m a o))))

pub returns-in-Some-clause-accepts : goal.returns-in-Some-clause-accepts
returns-in-Some-clause-accepts g c =
    ok_exactly _ (Err _) tt (λ left is.
    absurd (not_both g.met.K.ViewOrd.total _ c.in-Some.index
    (increasing_there _ _ _ g.met.K.Portable.laws g.met.V.Portable.laws c.args.buf.now _ _ c.args.pos c.access_valid.ensures.buffer c.access_valid.ensures.position _ _ _ is.1.0 is.1.1 is.1.2) c.in-Some.ensures))

pub returns-in-Some-clause-refuses : goal.returns-in-Some-clause-refuses
returns-in-Some-clause-refuses g c =
    let is = (c.verify.ensures.accepts c.in-Ok.left).0 c.in-Ok.is in
    let there = read_there _ _ _ g.met.K.Portable.laws g.met.V.Portable.laws c.args.buf.now _ _ c.args.pos c.access_valid.ensures.buffer c.access_valid.ensures.position _ _ _ is.1.0 is.1.1 in
    err_exactly _ (Err _) (out_of_order is.1.0 is.1.1 (subst (λ (m : List (g.K.Portable.kind.Value × g.V.Portable.kind.Value)). IsOutOfOrder g.K.Portable.kind.order m c.in-Some.index) (sym there) c.in-Some.ensures)) (λ e refuses.
    only_for_order _ _ _ g.met.K.Portable.laws g.met.V.Portable.laws c.args.buf.now _ _ c.args.pos e _ refuses
    (λ f r. absurd (cc (c.in-Ok.is, (c.verify.ensures.refuses f).1 r)))
    (λ left index m a o. ap (λ i. Err (OutOfOrder i)) (one_index g.met.K.ViewOrd.total _ c.in-Some.index index c.in-Some.ensures
    (out_there _ _ _ g.met.K.Portable.laws g.met.V.Portable.laws c.args.buf.now _ _ c.args.pos c.access_valid.ensures.buffer c.access_valid.ensures.position _ _ _ index m a o))))
