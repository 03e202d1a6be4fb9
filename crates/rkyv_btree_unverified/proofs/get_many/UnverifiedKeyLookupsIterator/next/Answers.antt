-- The item that is first shows what the search of its key found.
use Rattle.std.proofs.Common.{◌∷◌}
use Rattle.rkyv_btree_unverified.proofs.get_many.UnverifiedKeyLookupsIterator.next.Goals as goal

pub returns-in-Some-clause-steps : goal.returns-in-Some-clause-steps
returns-in-Some-clause-steps g c rest are =
    let shown = rw c.in-Some.ensures.map at c.key_found.ensures in
    let others = rw c.in-Some.ensures.map at are.2 in
    (_ ∷ are.0, c.in-Some.ensures.left are.0 are.1, (shown, others))
