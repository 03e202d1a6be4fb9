use Rattle.std.proofs.Common.{◌≡◌, ◌++◌, ◌-◌}
use Rattle.btreekv_commands.specs.mirror.Levels.{of_children, tree_parts}
use Rattle.btreekv_commands.proofs.top.+push_tree.Given as goal

abbrev pub decreases-push_tree : goal.decreases-push_tree
decreases-push_tree l = l.levels

-- the node is there, and what its children before this one give
abbrev pub invariant-children : goal.invariant-children
invariant-children l =
    l.parts.items ≡ l.initial.parts.items ++ of_children l.archive (tree_parts l.archive (l.levels - 1)) l.node l.index
