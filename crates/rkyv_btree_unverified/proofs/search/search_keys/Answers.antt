-- Each key is compared where it stands.
use Rattle.std.proofs.Common.{◌∙◌, arith, sym, below_more, ap, rules, subst, IsTrue}
use Rattle.std.specs.declared.cmp.Ordering.TheVariants.{Less, Equal, Greater}
use Rattle.rkyv_btree_format.proofs.Sizes.{room_of}
use Rattle.rkyv_btree_portable.specs.Views.{stands}
use Rattle.rkyv_btree_walk.proofs.Searches.{past_is, equal_is, less_is}
use Rattle.rkyv_btree_unverified.proofs.Passes.{gives_at}
use Rattle.rkyv_btree_unverified.specs.Steps.{bad_key, bad_value, equal_key, stops}
use Rattle.rkyv_btree_unverified.proofs.search.search_keys.Goals as goal

pub compare_at-requires : goal.compare_at-requires
compare_at-requires g c κs =
    let fits : IsTrue g.K.Portable.kind.is_fitting = (room_of _ _ _ g.met.K.Portable.laws g.met.V.Portable.laws c.requires.fitting).key in
    search rules

pub loop-i-preserved : goal.loop-i-preserved
loop-i-preserved g c =
    record {
      before = λ f p.
          below_more _ _ (c.loop-i.invariant.before f p)
          (gives_at g.K.Portable.kind g.V.Portable.kind g.M.ArchivedMap.E c.args.buf.now (f c.args.key.now) Greater (c.args.node, c.loop-i.i) c.key_pos-pos.result c.key_pos-pos.ensures c.in-Ok.ensures.stands
          (past_is _ (sym (ap (λ r. r.past) (c.in-Ok.ensures.compares f p)) ∙ c.if-compared.true)));
      counted = omega arith;
    }

pub check_at-requires : goal.check_at-requires
check_at-requires g c = (room_of _ _ _ g.met.K.Portable.laws g.met.V.Portable.laws c.requires.fitting).value

pub returns-in-Err-clause-gives : goal.returns-in-Err-clause-gives
returns-in-Err-clause-gives g c f p =
    bad_key (record { within = omega arith; before = c.loop-i.invariant.before f p }) (subst (λ x. g.K.CheckBytes.Refuses c.args.buf.now 0 x x c.in-Err.refusal) c.key_pos-pos.ensures c.in-Err.ensures.refused)

pub returns-in-Err-check_at-clause-gives : goal.returns-in-Err-check_at-clause-gives
returns-in-Err-check_at-clause-gives g c f p =
    bad_value (record { within = omega arith; before = c.loop-i.invariant.before f p })
    (gives_at g.K.Portable.kind g.V.Portable.kind g.M.ArchivedMap.E c.args.buf.now (f c.args.key.now) Equal (c.args.node, c.loop-i.i) c.key_pos-pos.result c.key_pos-pos.ensures c.in-Ok.ensures.stands
    (equal_is _ (sym (ap (λ r. r.equal) (c.in-Ok.ensures.compares f p)) ∙ c.if-compared-2.true)))
    (subst (λ x. g.V.CheckBytes.Refuses c.args.buf.now 0 x x c.in-Err-check_at.refusal) c.value_pos.ensures c.in-Err-check_at.ensures.refused)

pub returns-in-Ok-check_at-clause-gives : goal.returns-in-Ok-check_at-clause-gives
returns-in-Ok-check_at-clause-gives g c f p =
    equal_key (record { within = omega arith; before = c.loop-i.invariant.before f p })
    (gives_at g.K.Portable.kind g.V.Portable.kind g.M.ArchivedMap.E c.args.buf.now (f c.args.key.now) Equal (c.args.node, c.loop-i.i) c.key_pos-pos.result c.key_pos-pos.ensures c.in-Ok.ensures.stands
    (equal_is _ (sym (ap (λ r. r.equal) (c.in-Ok.ensures.compares f p)) ∙ c.if-compared-2.true)))
    (subst (λ x. IsTrue (stands g.V.Portable.kind c.args.buf.now x)) c.value_pos.ensures c.in-Ok-check_at.ensures.stands)

pub returns-in-loop-i-clause-gives : goal.returns-in-loop-i-clause-gives
returns-in-loop-i-clause-gives g c f p =
    stops (record {
      within = omega arith;
      before = c.loop-i.invariant.before f p;
      less = λ _.
          gives_at g.K.Portable.kind g.V.Portable.kind g.M.ArchivedMap.E c.args.buf.now (f c.args.key.now) Less (c.args.node, c.loop-i.i) c.key_pos-pos.result c.key_pos-pos.ensures c.in-Ok.ensures.stands
          (less_is _ (sym (ap (λ r. r.past) (c.in-Ok.ensures.compares f p)) ∙ c.if-compared.false) (sym (ap (λ r. r.equal) (c.in-Ok.ensures.compares f p)) ∙ c.if-compared-2.false));
    })

pub returns-clause-gives : goal.returns-clause-gives
returns-clause-gives g c f p = stops (record { within = omega arith; before = λ k h. c.loop-i.invariant.before f p k (omega arith); less = λ h. absurd (omega arith) })
