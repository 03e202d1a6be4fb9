-- A key that doesn't reach the query is counted, and none is after one that does.
use Rattle.std.proofs.Common.{◌≡◌, ◌+◌, ◌∙◌, sym, arith, inl, inr}
use Rattle.std.proofs.lemmas.Bool.{cases_Bool}
use Rattle.rkyv_btree_walk.specs.mirror.Range.{reached_at}
use Rattle.rkyv_btree_walk.proofs.Seeks.{count_same, count_more}
use Rattle.rkyv_btree_walk.proofs.seek.count_node.Goals as goal

pub loop-i-preserved : goal.loop-i-preserved
loop-i-preserved g c =
    let K = g.K.Portable.kind in let V = g.V.Portable.kind in let E = g.M.ArchivedMap.E in
    let inv = c.loop-i.invariant in
    elim (cases_Bool c.reaches.result) [
      | inl there ↦
          let none = rw there at c.from-next.ensures in
          let same : c.loop-i.next + c.from-next.result ≡ c.loop-i.next = omega (arith, none) in
          rw same (record {
            low = inv.low;
            high = omega arith;
            first = λ f p climbs.
                count_same (λ k. reached_at K V E c.args.buf.now c.args.past (f c.args.key.now) (c.args.node, k)) c.args.from c.args.count c.loop-i.i c.loop-i.next climbs inv.low inv.high c.loop-i-test.true (inv.first f p climbs)
                (rw (← c.key_pos-pos.ensures) (sym (c.reaches.ensures f p) ∙ there));
          })
      | inr short ↦
          let one = rw short at c.from-next.ensures in
          let more : c.loop-i.next + c.from-next.result ≡ c.loop-i.next + 1 = omega (arith, one) in
          rw more (record {
            low = omega arith;
            high = omega arith;
            first = λ f p climbs.
                count_more (λ k. reached_at K V E c.args.buf.now c.args.past (f c.args.key.now) (c.args.node, k)) c.args.from c.args.count c.loop-i.i c.loop-i.next climbs inv.low inv.high c.loop-i-test.true (inv.first f p climbs)
                (rw (← c.key_pos-pos.ensures) (sym (c.reaches.ensures f p) ∙ short));
          })
    ]

pub returns-clause-first : goal.returns-clause-first
returns-clause-first g c f p climbs =
    let ends : c.loop-i.i ≡ c.args.count = omega (arith, c.requires.ends) in
    rw ends at c.loop-i.invariant.first f p climbs
