-- A key is in its node.
use Rattle.std.proofs.Common.{arith}
use Rattle.btreekv_commands.proofs.NodeSizes.{sizes}
use Rattle.btreekv_commands.proofs.nodes.key_part.Goals as goal

pub overflow_add-node : goal.overflow_add-node
overflow_add-node c =
    omega (arith, sizes.keys, sizes.leaf, c.requires.node.leaf_inside, c.requires.node.count, c.key_at-offset.ensures.value)
