-- Numbers that are equal by their order are the same.
use Rattle.std.proofs.Common.{◌≡◌, ℕ, Equal, rules}
use Rattle.std.specs.Ordering.{nat_cmp}
use Rattle.rkyv_btree_compound.specs.laws.WideLaws.{same_u128}
use Rattle.rkyv_btree_convert.proofs.wide.ArchivedNonZeroU128DeserializeNative.equal_values_are_same.Goals as goal

level : (m n : ℕ) → nat_cmp m n ≡ Equal → m ≡ n
level m n same = search rules

pub returns : goal.returns
returns c _ x y same = same_u128 x y (level _ _ same)
