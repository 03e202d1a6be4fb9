-- A quotient by one is the number itself.
use Rattle.std.proofs.Common.{arith}
use Rattle.tests.proofs.trees.smallest_trees_of_one_entry_a_node.Goals as goal

pub returns : goal.returns
returns c = λ t smallest. omega (arith, smallest.nodes_are)
