use Rattle.std.proofs.Common.{rules}
use Rattle.rkyv_btree_archive.proofs.build.fill_root.Goals as goal

pub returns-then-is_err : goal.returns-then-is_err
returns-then-is_err c = record { filled = record { ok = search rules; err = search rules; fits = search rules; length = search rules } }

pub returns : goal.returns
returns c = record { filled = record { ok = search rules; err = search rules; fits = search rules; length = search rules } }
