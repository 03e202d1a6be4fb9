use Rattle.bench_recursion.proofs.tree.taken_by_child.Goals as goal

pub returns : goal.returns
returns g c = c.min.ensures
