-- A byte that means a number other than 0 isn't 0.
use Rattle.rkyv_btree_portable.specs.NonZeros.{non_zero_i8_form}
use Rattle.rkyv_btree_portable.specs.laws.InPlace.{plain_is_value}
use Rattle.rkyv_btree_portable.specs.laws.NonZeros.{non_zero_i8_laws}
use Rattle.rkyv_btree_portable.proofs.non_zeros.NonZeroI8InPlace.read.Goals as goal

pub read-requires-clause-value : goal.read-requires-clause-value
read-requires-clause-value c = plain_is_value non_zero_i8_form.plain c.args.bytes.now non_zero_i8_laws c.requires.is_own
