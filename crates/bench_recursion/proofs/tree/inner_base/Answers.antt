use Rattle.bench_recursion.proofs.tree.inner_base.Goals as goal

pub returns-clause-more : goal.returns-clause-more
returns-clause-more g c = c.if-len.false

pub returns-clause-value : goal.returns-clause-value
returns-clause-value g c = c.child_base.ensures.value

pub returns-clause-below : goal.returns-clause-below
returns-clause-below g c = c.child_base.ensures.below

pub returns-clause-above : goal.returns-clause-above
returns-clause-above g c = c.child_base.ensures.above
