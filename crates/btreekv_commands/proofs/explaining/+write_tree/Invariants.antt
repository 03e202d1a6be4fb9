use Rattle.btreekv_commands.proofs.explaining.+write_tree.Given as goal

abbrev pub decreases-write_tree : goal.decreases-write_tree
decreases-write_tree g l = l.node
