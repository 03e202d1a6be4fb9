-- One entry more is put into the map.
use Rattle.btreekv_types.proofs.Meant.{one_put}
use Rattle.btreekv_types.proofs.building.sorted.Goals as goal

pub loop-key-preserved : goal.loop-key-preserved
loop-key-preserved g c = one_put g.K.Ord.cmp c.loop-key.yielded c.loop-key.sorted.entries c.insert.new.map.entries (c.in-Some.key, c.in-Some.value) c.loop-key.invariant c.in_ok-insert.ensures.ok
