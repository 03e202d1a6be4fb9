-- The native text comes first.
use Rattle.std.proofs.Common.{rules}
use Rattle.rkyv_btree_view.proofs.compare_native.ArchivedTextCompareWithRefStr.compare_with.Goals as goal

pub returns-in-Some : goal.returns-in-Some
returns-in-Some c = search rules

pub returns-in-None : goal.returns-in-None
returns-in-None c = search rules
