-- The set stands where its map does.
use Rattle.std.proofs.Common.{rules}
use Rattle.rkyv_btree_view.proofs.set_view.access_valid.Goals as goal

pub invariant_of-result : goal.invariant_of-result
invariant_of-result g c = search rules

pub returns-clause-position : goal.returns-clause-position
returns-clause-position g c = search rules
