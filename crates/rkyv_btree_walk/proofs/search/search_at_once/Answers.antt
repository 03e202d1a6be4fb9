-- Each key is compared where it stands, and the first that doesn't give Greater decides.
use Rattle.std.proofs.Common.{◌≡◌, arith, true, false, ◌&&◌, inl, inr}
use Rattle.std.proofs.lemmas.Bool.{and_parts, cases_Bool}
use Rattle.rkyv_btree_walk.proofs.AtOnce.{stops_more}
use Rattle.rkyv_btree_walk.specs.mirror.Search.{comparison_at}
use Rattle.rkyv_btree_walk.proofs.search.search_at_once.Goals as goal

pub loop-number-preserved : goal.loop-number-preserved
loop-number-preserved g c =
    let inv = c.loop-number.invariant in
    let one : (c.loop-number.past && c.compare_at-compared.result.past) ≡ true → c.from-next.result ≡ 1 = λ h. rw h at c.from-next.ensures in
    let none : (c.loop-number.past && c.compare_at-compared.result.past) ≡ false → c.from-next.result ≡ 0 = λ h. rw h at c.from-next.ensures in
    record {
      goes_on = λ h. omega (arith, one h, inv.goes_on (and_parts _ _ h).0);
      stopped = λ h. elim (cases_Bool c.loop-number.past) [
        | inl on ↦ omega (arith, none h, inv.goes_on on)
        | inr off ↦ omega (arith, none h, inv.stopped off)
      ];
      stops = λ f p.
          stops_more (λ k. comparison_at g.K.Portable.kind g.V.Portable.kind g.M.ArchivedMap.E c.args.buf.now (f c.args.key.now) (c.args.node, k)) c.loop-number.number c.loop-number.next c.loop-number.past c.loop-number.equal c.compare_at-compared.result
          (rw (← c.key_pos-pos.ensures) (c.compare_at-compared.ensures f p)) inv.goes_on inv.stopped (inv.stops f p) c.from-next.result one none;
    }

pub returns-then-next-count-clause-stops : goal.returns-then-next-count-clause-stops
returns-then-next-count-clause-stops g c f p =
    let ends : c.loop-number.number ≡ c.args.count = omega arith in
    rw c.if-equal.true at (rw ends at c.loop-number.invariant.stops f p).0

pub returns-clause-stops : goal.returns-clause-stops
returns-clause-stops g c f p =
    let ends : c.loop-number.number ≡ c.args.count = omega arith in
    let so = rw ends at c.loop-number.invariant.stops f p in
    elim c.else-equal.either [
      | inl all ↦ let s = rw all.0 at so.0 in absurd (omega (arith, s.0, all.1))
      | inr less ↦ rw less at so.0
    ]
