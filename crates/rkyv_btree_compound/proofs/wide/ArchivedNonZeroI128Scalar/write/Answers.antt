-- The own bytes of a number other than 0 are those of the number, and mean it.
use Rattle.std.specs.Int.{w128}
use Rattle.std.specs.Int.NonZero.{non_zero_i128_get}
use Rattle.std.proofs.Common.{◌≡◌, rules, ◌∙◌}
use Rattle.rkyv_btree_portable.specs.Natives.{own_signed}
use Rattle.rkyv_btree_compound.specs.laws.WideLaws.{non_zero_i128_means, non_zero_i128_own}
use Rattle.rkyv_btree_compound.proofs.wide.ArchivedNonZeroI128Scalar.write.Goals as goal

pub returns-clause-bytes : goal.returns-clause-bytes
returns-clause-bytes c =
    let first : c.copy_from_slice.new.self ≡ own_signed w128 (non_zero_i128_get c.args.value) = search rules in
    first ∙ non_zero_i128_own c.args.value (search rules)

pub returns-clause-means : goal.returns-clause-means
returns-clause-means c = non_zero_i128_means c.args.value (search rules)
