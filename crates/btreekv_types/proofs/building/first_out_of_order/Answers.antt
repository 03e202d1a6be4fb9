-- One more key is compared with the one before it.
use Rattle.std.proofs.Common.{◌∙◌, sym, arith}
use Rattle.btreekv_types.proofs.Ordered.{compared, first_ordered, ordered_more, out_of_order}
use Rattle.btreekv_types.proofs.building.first_out_of_order.Goals as goal

pub entries-init : goal.entries-init
entries-init g c = first_ordered g.K.Ord.cmp c.args.entries.now

pub returns-in_default-clause-some : goal.returns-in_default-clause-some
returns-in_default-clause-some g c =
    out_of_order g.K.Ord.cmp g.met.K.Ord.total c.args.entries.now c.entries.index c.index-entries-index.result c.index-entries-index-in-entries.result c.index-entries-index.is c.index-entries-index-in-entries.is (omega (arith, c.entries.auto.index)) c.entries-test.true c.entries.invariant
    (λ less. c.in_default.not-Less ((compared g.K.Ord.cmp c.index-entries-index.result c.index-entries-index-in-entries.result _ _ c.index-entries-index.is c.index-entries-index-in-entries.is c.cmp.result c.cmp.ensures) ∙ less))

pub entries-preserved : goal.entries-preserved
entries-preserved g c =
    ordered_more g.K.Ord.cmp g.met.K.Ord.total c.args.entries.now c.entries.index c.index-entries-index.result c.index-entries-index-in-entries.result c.index-entries-index.is c.index-entries-index-in-entries.is (omega (arith, c.entries.auto.index)) c.entries-test.true c.entries.invariant
    (sym (compared g.K.Ord.cmp c.index-entries-index.result c.index-entries-index-in-entries.result _ _ c.index-entries-index.is c.index-entries-index-in-entries.is c.cmp.result c.cmp.ensures) ∙ c.in-Less.is)
