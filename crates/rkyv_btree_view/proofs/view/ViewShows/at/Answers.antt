-- The view stands where it was asked for.
use Rattle.std.proofs.Common.{refl}
use Rattle.rkyv_btree_view.proofs.view.ViewShows.at.Goals as goal

pub invariant_of-result : goal.invariant_of-result
invariant_of-result g c = record { valid = c.requires }

pub returns-clause-position : goal.returns-clause-position
returns-clause-position g c = refl
