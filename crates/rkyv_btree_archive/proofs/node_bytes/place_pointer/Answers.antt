use Rattle.std.proofs.Common.{rules}
use Rattle.rkyv_btree_archive.proofs.node_bytes.place_pointer.Goals as goal

pub returns-clause-reach : goal.returns-clause-reach
returns-clause-reach c = search rules

pub returns-clause-items : goal.returns-clause-items
returns-clause-items c = search rules
