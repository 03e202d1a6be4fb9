-- A node has a byte.
use Rattle.std.proofs.Common.{arith}
use Rattle.btreekv_commands.proofs.NodeSizes.{sizes}
use Rattle.btreekv_commands.proofs.nodes.is_leaf.Goals as goal

pub bounds-archive-node : goal.bounds-archive-node
bounds-archive-node c = omega (arith, sizes.leaf, c.requires.leaf_inside)
