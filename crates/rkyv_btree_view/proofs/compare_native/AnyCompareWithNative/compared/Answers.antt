-- What a lookup asks of a native comparison.
use Rattle.std.proofs.Common.{rules}
use Rattle.rkyv_btree_view.proofs.compare_native.AnyCompareWithNative.compared.Goals as goal

pub returns : goal.returns
returns g c = search rules
