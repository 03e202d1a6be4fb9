use Rattle.std.proofs.Common.{◌≡◌, ◌-◌}
use Rattle.btreekv_commands.specs.mirror.Sums.{children_sum, tree_sum}
use Rattle.btreekv_commands.proofs.tree_figures.+of_tree.Given as goal

abbrev pub decreases-of_tree : goal.decreases-of_tree
decreases-of_tree l = l.levels

-- what the children before this one have
abbrev pub invariant-children : goal.invariant-children
invariant-children l = l.below ≡ children_sum l.archive (tree_sum l.archive (l.levels - 1)) l.node l.index
