-- Where the keys are equal, the values decide.
use Rattle.std.proofs.Common.{rules}
use Rattle.rkyv_btree_view.proofs.compare.EntryViewOrd.compare.Goals as goal

pub returns-in-Equal : goal.returns-in-Equal
returns-in-Equal g c = search rules
