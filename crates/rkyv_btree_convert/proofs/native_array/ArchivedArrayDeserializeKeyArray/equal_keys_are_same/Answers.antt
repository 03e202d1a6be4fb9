-- Arrays are the same where their elements are.
use Rattle.rkyv_btree_convert.specs.laws.Arrays.{arrays_same}
use Rattle.rkyv_btree_convert.proofs.native_array.ArchivedArrayDeserializeKeyArray.equal_keys_are_same.Goals as goal

pub returns : goal.returns
returns g c same x y equal = arrays_same (c.equal_keys_are_same.ensures same) x y equal
