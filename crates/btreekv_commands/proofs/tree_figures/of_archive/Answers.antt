-- The tree of an archive is spelled, or there is none.
use Rattle.std.proofs.Common.{◌+◌, ◌≤◌, length, sym, subst, ◌∙◌}
use Rattle.btreekv_commands.specs.Figures.{size_of}
use Rattle.btreekv_commands.proofs.TreeSums.{archive_spelled, archive_sum, archive_small, archive_none}
use Rattle.btreekv_commands.proofs.tree_figures.of_archive.Goals as goal

pub of_tree-requires-clause-spelled : goal.of_tree-requires-clause-spelled
of_tree-requires-clause-spelled c =
    archive_spelled c.args.archive.now c.requires.archive.0 c.in-Some.root c.requires.archive.1 (rw c.requires.position at (sym c.root_of.ensures ∙ c.in-Some.is))

pub returns-in-Some-clause-value : goal.returns-in-Some-clause-value
returns-in-Some-clause-value c m is =
    c.of_tree.ensures ∙ archive_sum c.args.archive.now m is c.in-Some.root (rw c.requires.position at (sym c.root_of.ensures ∙ c.in-Some.is))

pub returns-in-Some-clause-small : goal.returns-in-Some-clause-small
returns-in-Some-clause-small c =
    subst (λ f. size_of f + 8 ≤ length c.args.archive.now) (sym c.of_tree.ensures)
    (archive_small c.args.archive.now c.requires.archive.0 c.in-Some.root c.requires.archive.1 (rw c.requires.position at (sym c.root_of.ensures ∙ c.in-Some.is)))

pub returns-in-None-clause-value : goal.returns-in-None-clause-value
returns-in-None-clause-value c m is = archive_none c.args.archive.now m is (rw c.requires.position at (sym c.root_of.ensures ∙ c.in-None.is))
