-- A byte that means a truth value is 0 or 1.
use Rattle.rkyv_btree_portable.specs.Scalars.{boolean}
use Rattle.rkyv_btree_portable.specs.laws.InPlace.{plain_is_value}
use Rattle.rkyv_btree_portable.specs.laws.Scalars.{bool_laws}
use Rattle.rkyv_btree_portable.proofs.numbers.BoolInPlace.read.Goals as goal

pub read-requires-clause-value : goal.read-requires-clause-value
read-requires-clause-value c = plain_is_value boolean c.args.bytes.now bool_laws c.requires.is_own
