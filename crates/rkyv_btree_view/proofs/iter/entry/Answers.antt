-- The entry stands, and its key and value are where its own node says.
use Rattle.std.proofs.Common.{rules}
use Rattle.rkyv_btree_view.proofs.iter.entry.Goals as goal

pub at-key-requires : goal.at-key-requires
at-key-requires g c = search rules

pub returns : goal.returns
returns g c = search rules
