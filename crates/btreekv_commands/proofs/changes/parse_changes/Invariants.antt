use Rattle.std.proofs.Common.{length}
use Rattle.rkyv_btree_update.specs.Updated.{changes_meant}
use Rattle.btreekv_commands.proofs.ChangeLines.{ReadChanges}
use Rattle.btreekv_commands.proofs.changes.parse_changes.Given as goal

-- the lines before the rest are the changes so far
abbrev pub invariant-loop-rest : goal.invariant-loop-rest
invariant-loop-rest l = ReadChanges l.bytes l.rest (changes_meant (λ k. k.now) (λ v. v.now) l.changes.items)

abbrev pub decreases-loop-rest : goal.decreases-loop-rest
decreases-loop-rest l = length l.rest
