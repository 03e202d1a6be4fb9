-- An item is the key of an item of the iterator over entries.
use Rattle.std.proofs.Common.{None, Some, Ok, Err, refl}
use Rattle.rkyv_btree_unverified.proofs.range_keys.UnverifiedRangeKeysIterator.next.Goals as goal

pub returns-in-None-clause-steps : goal.returns-in-None-clause-steps
returns-in-None-clause-steps g c = record { entry = None; steps = c.in-None.ensures.steps; key = refl }

pub returns-in-Some-Err-clause-steps : goal.returns-in-Some-Err-clause-steps
returns-in-Some-Err-clause-steps g c = record { entry = Some (Err c.in-Some-Err.refusal); steps = rw c.in-Some-Err.field-0-is at c.in-Some-Err.ensures.steps; key = refl }

pub returns-in-Some-Ok-clause-steps : goal.returns-in-Some-Ok-clause-steps
returns-in-Some-Ok-clause-steps g c = record { entry = Some (Ok (c.in-Some-Ok.key, c.in-Some-Ok.field-0-0-1)); steps = rw c.in-Some-Ok.field-0-is at c.in-Some-Ok.ensures.steps; key = refl }
