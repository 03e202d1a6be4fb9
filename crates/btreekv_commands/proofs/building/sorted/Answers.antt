use Rattle.btreekv_commands.proofs.Sorted.{one_inserted}
use Rattle.btreekv_commands.proofs.building.sorted.Goals as goal

pub loop-key-preserved : goal.loop-key-preserved
loop-key-preserved c = one_inserted c.loop-key.yielded c.loop-key.sorted.entries c.insert.new.map.entries (c.in-Some.key, c.in-Some.value) c.loop-key.invariant c.in_ok-insert.ensures.ok
