-- Each turn takes a node from the path.
use Rattle.std.proofs.Common.{length}
use Rattle.rkyv_btree_walk.proofs.range_ends.take_all.Given as goal

abbrev pub decreases-up : goal.decreases-up
decreases-up l = length l.path.items
