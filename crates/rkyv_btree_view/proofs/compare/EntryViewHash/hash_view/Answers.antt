-- The key is fed, and then the value.
use Rattle.std.proofs.Common.{arith}
use Rattle.std.proofs.lemmas.Grind.{common_steps}
use Rattle.rkyv_btree_view.proofs.compare.EntryViewHash.hash_view.Goals as goal

pub returns : goal.returns
returns g c = grind (arith, common_steps)
