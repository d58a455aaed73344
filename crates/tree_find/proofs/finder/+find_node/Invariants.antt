use Rattle.tree_find.proofs.finder.+find_node.Given as goal

abbrev pub decreases-find_node : goal.decreases-find_node
decreases-find_node g l = l.level
