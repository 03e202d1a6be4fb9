-- Each key is compared where it stands, and the first that doesn't give Greater decides.
use Rattle.std.proofs.Common.{◌≡◌, arith, true, false, ◌&&◌, below_more, inl, inr, rules, subst, IsTrue, Ok}
use Rattle.std.proofs.lemmas.Bool.{and_parts, cases_Bool}
use Rattle.rkyv_btree_format.proofs.Sizes.{room_of}
use Rattle.rkyv_btree_portable.specs.Views.{stands}
use Rattle.rkyv_btree_walk.proofs.AtOnce.{stops_more}
use Rattle.rkyv_btree_walk.specs.mirror.Search.{comparison_at}
use Rattle.rkyv_btree_unverified.proofs.AtOnce.{asked, equal_given, stopped_before}
use Rattle.rkyv_btree_unverified.specs.Steps.{KeysGive, bad_value, equal_key, stops}
use Rattle.rkyv_btree_unverified.specs.declared.search.Halt.TheVariants.{Below}
use Rattle.rkyv_btree_unverified.proofs.search.search_keys_at_once.Goals as goal

pub compare_at-requires : goal.compare_at-requires
compare_at-requires g c κs =
    let fits : IsTrue g.K.Portable.kind.is_fitting = (room_of _ _ _ g.met.K.Portable.laws g.met.V.Portable.laws c.requires.fitting).key in
    search rules

pub loop-number-preserved : goal.loop-number-preserved
loop-number-preserved g c =
    let inv = c.loop-number.invariant in
    let one : (c.loop-number.past && c.in-Ok.compared.past) ≡ true → c.from-next.result ≡ 1 = λ h. rw h at c.from-next.ensures in
    let none : (c.loop-number.past && c.in-Ok.compared.past) ≡ false → c.from-next.result ≡ 0 = λ h. rw h at c.from-next.ensures in
    record {
      goes_on = λ h. omega (arith, one h, inv.goes_on (and_parts _ _ h).0);
      stopped = λ h. elim (cases_Bool c.loop-number.past) [
        | inl on ↦ omega (arith, none h, inv.goes_on on)
        | inr off ↦ omega (arith, none h, inv.stopped off)
      ];
      stops = λ f p.
          stops_more (λ k. comparison_at g.K.Portable.kind g.V.Portable.kind g.M.ArchivedMap.E c.args.buf.now (f c.args.key.now) (c.args.node, k)) c.loop-number.number c.loop-number.next c.loop-number.past c.loop-number.equal c.in-Ok.compared
          (rw (← c.key_pos-pos.ensures) (c.in-Ok.ensures.compares f p)) inv.goes_on inv.stopped (inv.stops f p) c.from-next.result one none;
      valid = below_more _ _ inv.valid (subst (λ x. IsTrue (stands g.K.Portable.kind c.args.buf.now x)) c.key_pos-pos.ensures c.in-Ok.ensures.stands);
      uncounted = inv.uncounted;
    }

pub check_at-requires : goal.check_at-requires
check_at-requires g c = (room_of _ _ _ g.met.K.Portable.laws g.met.V.Portable.laws c.requires.fitting).value

pub returns-then-next-count-clause-gives : goal.returns-then-next-count-clause-gives
returns-then-next-count-clause-gives g c f p =
    let K = g.K.Portable.kind in let V = g.V.Portable.kind in let E = g.M.ArchivedMap.E in
    let ends : c.loop-number.number ≡ c.args.count = omega arith in
    let inv = c.loop-number.invariant in
    let all : c.loop-number.next ≡ c.args.count = omega arith in
    let so = rw ends at (inv.stops f p).0 in
    let stop = elim (cases_Bool c.loop-number.equal) as (λ _. KeysGive K V E c.args.buf.now (f c.args.key.now) g.K.CheckBytes.Refuses g.V.CheckBytes.Refuses c.args.node c.args.count (Ok (Below c.loop-number.next))) [
      | inl on ↦ let s = rw on at so in absurd (let less = s.0 in omega (arith, less, all))
      | inr off ↦ stops (stopped_before K V E c.args.buf.now (f c.args.key.now) c.args.node c.args.count c.loop-number.next (λ k h. inv.valid k (omega arith)) (rw off at so))
    ] in
    subst (λ i. KeysGive K V E c.args.buf.now (f c.args.key.now) g.K.CheckBytes.Refuses g.V.CheckBytes.Refuses c.args.node c.args.count (Ok (Below i))) all stop

pub returns-then-not-equal-clause-gives : goal.returns-then-not-equal-clause-gives
returns-then-not-equal-clause-gives g c f p =
    let ends : c.loop-number.number ≡ c.args.count = omega arith in
    let so = rw ends at (c.loop-number.invariant.stops f p).0 in
    stops (stopped_before g.K.Portable.kind g.V.Portable.kind g.M.ArchivedMap.E c.args.buf.now (f c.args.key.now) c.args.node c.args.count c.loop-number.next (λ k h. c.loop-number.invariant.valid k (omega arith)) (rw c.if-not-equal.true at so))

pub returns-in-Ok-check_at-clause-gives : goal.returns-in-Ok-check_at-clause-gives
returns-in-Ok-check_at-clause-gives g c f p =
    let K = g.K.Portable.kind in let V = g.V.Portable.kind in let E = g.M.ArchivedMap.E in
    let ends : c.loop-number.number ≡ c.args.count = omega arith in
    let so = rw c.if-not-equal.false at (rw ends at (c.loop-number.invariant.stops f p).0) in
    equal_key (asked K V E c.args.buf.now (f c.args.key.now) c.args.node c.args.count c.loop-number.next (λ k h. c.loop-number.invariant.valid k (omega arith)) so)
    (equal_given K V E c.args.buf.now (f c.args.key.now) c.args.node c.args.count c.loop-number.next (λ k h. c.loop-number.invariant.valid k (omega arith)) so)
    (subst (λ x. IsTrue (stands V c.args.buf.now x)) c.value_pos.ensures c.in-Ok-check_at.ensures.stands)

pub returns-in-Err-check_at-clause-gives : goal.returns-in-Err-check_at-clause-gives
returns-in-Err-check_at-clause-gives g c f p =
    let K = g.K.Portable.kind in let V = g.V.Portable.kind in let E = g.M.ArchivedMap.E in
    let ends : c.loop-number.number ≡ c.args.count = omega arith in
    let so = rw c.if-not-equal.false at (rw ends at (c.loop-number.invariant.stops f p).0) in
    bad_value (asked K V E c.args.buf.now (f c.args.key.now) c.args.node c.args.count c.loop-number.next (λ k h. c.loop-number.invariant.valid k (omega arith)) so)
    (equal_given K V E c.args.buf.now (f c.args.key.now) c.args.node c.args.count c.loop-number.next (λ k h. c.loop-number.invariant.valid k (omega arith)) so)
    (subst (λ x. g.V.CheckBytes.Refuses c.args.buf.now 0 x x c.in-Err-check_at.refusal) c.value_pos.ensures c.in-Err-check_at.ensures.refused)
