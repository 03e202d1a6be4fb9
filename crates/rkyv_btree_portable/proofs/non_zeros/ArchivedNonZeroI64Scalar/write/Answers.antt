-- The own bytes of a number other than 0 mean it.
use Rattle.std.proofs.Common.{rules}
use Rattle.rkyv_btree_portable.specs.laws.NonZeros.{non_zero_i64_means}
use Rattle.rkyv_btree_portable.proofs.non_zeros.ArchivedNonZeroI64Scalar.write.Goals as goal

pub returns-clause-means : goal.returns-clause-means
returns-clause-means c = non_zero_i64_means c.args.value (search rules)
