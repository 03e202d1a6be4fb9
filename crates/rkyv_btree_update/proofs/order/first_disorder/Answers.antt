-- What increasing keys show increases.
use Rattle.std.proofs.Common.{ℕ, Option, Some, None}
use Rattle.std.specs.Prelude.{MatchOption}
use Rattle.rkyv_btree_convert.proofs.StdMaps.{ascending_meant}
use Rattle.rkyv_btree_update.specs.Updated.{change_meant}
use Rattle.rkyv_btree_update.proofs.order.first_disorder.Goals as goal

both_increase : {P Q : Type 0} (R : ℕ → Type 0) (o : Option ℕ) → (P → Q) → MatchOption o P R → MatchOption o (P × Q) R
both_increase R None f h = (h, f h)
both_increase R (Some index) f h = h

pub returns : goal.returns
returns g c = both_increase _ c.first_out_of_order.result (ascending_meant g.KU.Ord.cmp g.KU.CompareArchived.order g.KU.CompareArchived.shown (change_meant g.VU.CompareArchived.shown) c.is_lent.ensures.compared c.args.changes.now) c.first_out_of_order.ensures
