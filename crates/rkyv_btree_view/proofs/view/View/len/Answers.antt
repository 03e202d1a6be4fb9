-- The map's own length is that of its list.
use Rattle.std.proofs.Common.{rules}
use Rattle.rkyv_btree_view.proofs.view.View.len.Goals as goal

pub returns-clause-entries : goal.returns-clause-entries
returns-clause-entries g c = search rules
