-- The keys that are left are those of the entries that are.
use Rattle.std.proofs.Common.{map, ap}
use Rattle.rkyv_btree_view.proofs.keys.KeysIterator.next.Goals as goal

pub returns-in-Some-clause-steps : goal.returns-in-Some-clause-steps
returns-in-Some-clause-steps g c = ap (map (λ e. e.0)) c.in-Some.ensures.steps
