-- A value is in its node.
use Rattle.std.proofs.Common.{arith}
use Rattle.btreekv_commands.proofs.NodeSizes.{sizes}
use Rattle.btreekv_commands.proofs.nodes.value_part.Goals as goal

pub overflow_add-node : goal.overflow_add-node
overflow_add-node c =
    omega (arith, sizes.values, sizes.leaf, c.requires.node.leaf_inside, c.requires.node.count, c.value_at-offset.ensures.value)
