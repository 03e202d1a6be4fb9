-- The tree of a valid archive can be read.
use Rattle.std.proofs.Common.{sym, ◌∙◌}
use Rattle.btreekv_commands.proofs.TopParts.{archive_tree}
use Rattle.btreekv_commands.proofs.top.parts_of.Goals as goal

pub push_tree-requires-clause-tree : goal.push_tree-requires-clause-tree
push_tree-requires-clause-tree c =
    archive_tree c.args.archive.now c.requires.archive.0 c.in-Some.root c.requires.archive.1 (rw c.requires.position at (sym c.root_of.ensures ∙ c.in-Some.is))
