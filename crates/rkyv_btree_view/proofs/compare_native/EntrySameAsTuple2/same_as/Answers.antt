-- Where the first parts are the same, the second decide.
use Rattle.std.proofs.Common.{rules}
use Rattle.rkyv_btree_view.proofs.compare_native.EntrySameAsTuple2.same_as.Goals as goal

pub returns-then-same_as : goal.returns-then-same_as
returns-then-same_as g c = search rules
