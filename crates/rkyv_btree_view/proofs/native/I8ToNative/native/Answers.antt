-- The byte at the view's position.
use Rattle.std.proofs.Common.{arith}
use Rattle.std.proofs.lemmas.Grind.{common_steps}
use Rattle.rkyv_btree_view.proofs.native.I8ToNative.native.Goals as goal

pub returns : goal.returns
returns c = grind (arith, common_steps)
