-- The value of the entry found.
use Rattle.rkyv_btree_unverified.proofs.Promised.{by_native, gives_value}
use Rattle.rkyv_btree_unverified.proofs.unverified.Unverified.get_by.Goals as goal

pub returns-in-Err : goal.returns-in-Err
returns-in-Err g c = gives_value (by_native g.K.Portable.kind g.K.CompareWith.compared_at c.args.key) _ c.in-Err.ensures

pub returns-in-Ok-None : goal.returns-in-Ok-None
returns-in-Ok-None g c = rw c.in-Ok-None.field-0-is at (gives_value (by_native g.K.Portable.kind g.K.CompareWith.compared_at c.args.key) _ c.in-Ok-None.ensures)

pub returns-in-Ok-Some : goal.returns-in-Ok-Some
returns-in-Ok-Some g c = rw c.in-Ok-Some.field-0-is at (gives_value (by_native g.K.Portable.kind g.K.CompareWith.compared_at c.args.key) _ c.in-Ok-Some.ensures)
