use Rattle.std.proofs.Common.{◌≡◌, true}
use Rattle.rkyv_btree_update.specs.Updated.{changes_meant}
use Rattle.btreekv_commands.specs.Changing.{counted}
use Rattle.btreekv_commands.proofs.changes.sorted.Given as goal

-- the map so far has the last changes of those so far
abbrev pub invariant-loop-key : goal.invariant-loop-key
invariant-loop-key l = changes_meant (λ k. k.now) (λ v. v.now) l.sorted.entries ≡ counted true (changes_meant (λ k. k.now) (λ v. v.now) l.yielded)
