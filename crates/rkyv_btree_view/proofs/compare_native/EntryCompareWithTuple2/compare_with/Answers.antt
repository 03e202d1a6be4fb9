-- Where the first parts are equal, the second decide.
use Rattle.std.proofs.Common.{rules}
use Rattle.rkyv_btree_view.proofs.compare_native.EntryCompareWithTuple2.compare_with.Goals as goal

pub returns-in-Equal : goal.returns-in-Equal
returns-in-Equal g c = search rules
