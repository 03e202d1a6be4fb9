-- The only entry is found.
use Rattle.std.proofs.Common.{Some, None, refl}
use Rattle.std.specs.Ordering.{nat_cmp}
use Rattle.tests.proofs.Found.{value_found}
use Rattle.tests.proofs.lookups_learnt.value_of.Goals as goal

pub returns-in-None : goal.returns-in-None
returns-in-None c increasing value =
    let found = c.get_key_value_by.ensures nat_cmp (λ n b at. refl) in
    value_found _ c.args.key None tt (rw c.in-None.is at found.complete) increasing value

pub returns-in-Some : goal.returns-in-Some
returns-in-Some c increasing value =
    let found = c.get_key_value_by.ensures nat_cmp (λ n b at. refl) in
    let hit = rw c.in-Some.is at found.member in
    let complete = rw c.in-Some.is at found.complete in
    rw c.to_native.ensures (value_found _ c.args.key (Some _) hit complete increasing value)
