-- Numbers that are equal by their order are the same.
use Rattle.std.proofs.Common.{◌≡◌, ℤ, Equal, rules}
use Rattle.std.specs.Ordering.{int_cmp}
use Rattle.rkyv_btree_compound.specs.laws.WideLaws.{same_i128}
use Rattle.rkyv_btree_convert.proofs.wide.ArchivedNonZeroI128DeserializeNative.equal_values_are_same.Goals as goal

level : (m n : ℤ) → int_cmp m n ≡ Equal → m ≡ n
level m n same = search rules

pub returns : goal.returns
returns c _ x y same = same_i128 x y (level _ _ same)
