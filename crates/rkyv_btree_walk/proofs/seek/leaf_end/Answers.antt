-- A leaf that stands has entries that stand.
use Rattle.rkyv_btree_walk.proofs.Paths.{leaf_run}
use Rattle.rkyv_btree_walk.proofs.seek.leaf_end.Goals as goal

pub returns-clause-stands : goal.returns-clause-stands
returns-clause-stands g c = rw c.leaf_count.ensures (leaf_run _ _ _ _ c.args.node c.requires.node c.requires.leaf)
