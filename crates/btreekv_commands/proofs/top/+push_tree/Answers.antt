-- The nodes of a tree can be read, and what is added is what its levels give.
use Rattle.std.proofs.Common.{rules, ◌-◌, sym, ◌∙◌, arith}
use Rattle.std.proofs.lemmas.Grind.{common_steps}
use Rattle.btreekv_commands.proofs.NodeSizes.{has_node, has_child}
use Rattle.btreekv_commands.proofs.TopParts.{no_levels, tree_joined}
use Rattle.btreekv_commands.proofs.top.+push_tree.Goals as goal

pub returns-then-levels-eq0-clause-ok : goal.returns-then-levels-eq0-clause-ok
returns-then-levels-eq0-clause-ok t c = no_levels c.args.archive.now c.args.levels c.args.node c.args.parts.now.items c.if-levels-eq0.true

pub node_part-requires-clause-node : goal.node_part-requires-clause-node
node_part-requires-clause-node t c = has_node c.args.archive.now c.args.node c.requires.tree

pub push_keys-requires-clause-node : goal.push_keys-requires-clause-node
push_keys-requires-clause-node t c = has_node c.args.archive.now c.args.node c.requires.tree

pub child-requires-clause-node : goal.child-requires-clause-node
child-requires-clause-node t c = has_node c.args.archive.now c.args.node c.requires.tree

pub push_tree-requires : goal.push_tree-requires
push_tree-requires t c =
    (omega arith, (c.requires.short, has_child c.args.archive.now c.args.node c.children.index c.in-Some.below c.requires.tree (omega arith) (sym c.child.ensures ∙ c.in-Some.is)))

pub returns-clause-ok : goal.returns-clause-ok
returns-clause-ok t c =
    tree_joined c.args.archive.now (c.args.levels - 1) c.args.levels c.args.node c.children.index c.args.parts.now.items c.push.new.parts.items c.push_keys.new.parts.items c.children.parts.items
    (grind (arith, common_steps)) (omega arith) (search rules) (search rules) (search rules)
