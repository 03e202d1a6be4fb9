-- A list increases or has one first entry out of order, and not both.
use Rattle.std.proofs.Common.{ap}
use Rattle.std.specs.Prelude.{Err}
use Rattle.rkyv_btree_portable.specs.declared.refusal.Refusal.TheVariants.{OutOfOrder}
use Rattle.rkyv_btree_strict.proofs.Ordered.{not_both, one_index}
use Rattle.rkyv_btree_view.specs.View.{entries_of}
use Rattle.rkyv_btree_strict.proofs.strict_map.Strict.of.Goals as goal

pub returns-in-None-clause-all_refused : goal.returns-in-None-clause-all_refused
returns-in-None-clause-all_refused g c index o =
    absurd (not_both g.met.K.ViewOrd.total (entries_of g.K.Portable.kind g.V.Portable.kind g.M.ArchivedMap.E c.args.view) index c.in-None.ensures o)

pub returns-in-Some-clause-all_increasing : goal.returns-in-Some-clause-all_increasing
returns-in-Some-clause-all_increasing g c rises =
    absurd (not_both g.met.K.ViewOrd.total (entries_of g.K.Portable.kind g.V.Portable.kind g.M.ArchivedMap.E c.args.view) c.in-Some.index rises c.in-Some.ensures)

pub returns-in-Some-clause-all_refused : goal.returns-in-Some-clause-all_refused
returns-in-Some-clause-all_refused g c index o =
    ap (λ i. Err (OutOfOrder i)) (one_index g.met.K.ViewOrd.total (entries_of g.K.Portable.kind g.V.Portable.kind g.M.ArchivedMap.E c.args.view) c.in-Some.index index c.in-Some.ensures o)
