-- One entry more is written, or all are.
use Rattle.std.proofs.Common.{◌∙◌, subst, sym}
use Rattle.rkyv_btree_source.specs.Known.{AreOf}
use Rattle.btreekv_types.proofs.SoughtParts.{writes_all, writes_on}
use Rattle.btreekv_types.proofs.ranged.push_all.Goals as goal

pub more-preserved : goal.more-preserved
more-preserved g c = record {
  same = c.in-Ok-true.ensures.same ∙ c.more.invariant.same;
  position = c.in-Ok-true.ensures.position ∙ c.more.invariant.position;
  writes = λ b known key_to value_to keys values maps.
      let there = subst (λ k. AreOf k b) (sym c.more.invariant.same) known in
      writes_on c.args.form _ _ _ _ _ _ (c.more.invariant.writes b known key_to value_to keys values maps) c.in-Ok-true.field-0 c.in-Ok-true.field-0-test (c.in-Ok-true.ensures.pushes b there key_to value_to keys values maps);
}

pub returns-in-Ok-false-clause-writes : goal.returns-in-Ok-false-clause-writes
returns-in-Ok-false-clause-writes g c b known = λ key_to value_to keys values maps.
    let there = subst (λ k. AreOf k b) (sym c.more.invariant.same) known in
    writes_all c.args.form _ _ _ _ _ _ (c.more.invariant.writes b known key_to value_to keys values maps) c.in-Ok-false.field-0 c.in-Ok-false.field-0-test (c.in-Ok-false.ensures.pushes b there key_to value_to keys values maps)
