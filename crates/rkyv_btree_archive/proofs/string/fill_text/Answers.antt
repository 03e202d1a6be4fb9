use Rattle.std.proofs.Common.{rules}
use Rattle.rkyv_btree_archive.proofs.string.fill_text.Goals as goal

pub returns-clause-ok : goal.returns-clause-ok
returns-clause-ok c = search rules
