-- Where the keys are equal, the values decide.
use Rattle.std.proofs.Common.{rules}
use Rattle.rkyv_btree_view.proofs.compare.EntryViewEq.is_same.Goals as goal

pub returns-then-is_same : goal.returns-then-is_same
returns-then-is_same g c = search rules
