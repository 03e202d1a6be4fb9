use Rattle.std.proofs.Common.{arith, ◌+◌}
use Rattle.std.proofs.lemmas.Nat.{le-div}
use Rattle.rkyv_btree_shape.proofs.Logs.{divided_more, divided_log, divided_fits}
use Rattle.rkyv_btree_shape.proofs.height.entries_to_height.Goals as goal

pub overflow_add-above : goal.overflow_add-above
overflow_add-above g c =
    let i = c.loop-rest.invariant in
    omega (arith, divided_fits g.row.E c.args.entries c.loop-rest.rest c.loop-rest.above 64 c.requires.entries i.some (i.low, i.high) (omega arith))

pub loop-rest-preserved : goal.loop-rest-preserved
loop-rest-preserved g c =
    let i = c.loop-rest.invariant in
    let h = divided_more g.row.E c.args.entries c.loop-rest.rest c.loop-rest.above (i.low, i.high) in
    record { some = le-div 1 c.loop-rest.rest (g.row.E + 1) (omega arith) (omega arith); low = h.0; high = h.1 }

pub overflow_add-result : goal.overflow_add-result
overflow_add-result g c =
    let i = c.loop-rest.invariant in
    omega (arith, divided_fits g.row.E c.args.entries c.loop-rest.rest c.loop-rest.above 64 c.requires.entries i.some (i.low, i.high) (omega arith))

pub returns : goal.returns
returns g c =
    let i = c.loop-rest.invariant in
    omega (arith, divided_log g.row.E c.args.entries c.loop-rest.rest c.loop-rest.above c.requires.entries i.some c.loop-rest-test.false (i.low, i.high))
