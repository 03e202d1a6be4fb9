use Rattle.rkyv_btree_shape.proofs.Alone.{waiting}
use Rattle.bench_recursion.proofs.tree.child_is_lower.Goals as goal

pub returns : goal.returns
returns g c =
    let r = c.requires in
    record { room = waiting g.row.E c.args.len c.args.child_len c.args.base r.some r.more r.base r.small }
