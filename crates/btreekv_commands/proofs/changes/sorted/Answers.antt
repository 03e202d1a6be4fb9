use Rattle.std.specs.Cmp.Lexicographic.{slice_cmp}
use Rattle.std.specs.Ordering.{nat_cmp}
use Rattle.rkyv_btree_update.specs.Updated.{change_meant}
use Rattle.btreekv_commands.proofs.SortedChanges.{one_inserted}
use Rattle.btreekv_commands.proofs.changes.sorted.Goals as goal

pub loop-key-preserved : goal.loop-key-preserved
loop-key-preserved c =
    one_inserted (slice_cmp nat_cmp) (λ k. k.now) (change_meant (λ v. v.now)) c.loop-key.yielded c.loop-key.sorted.entries c.insert.new.self.entries
    (c.in-Some.key, c.in-Some.change) c.loop-key.invariant c.in-Ok.ensures.entries
