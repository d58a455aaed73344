use Rattle.tree_find.proofs.rightmost.+last_node.Given as goal

abbrev pub decreases-last_node : goal.decreases-last_node
decreases-last_node g l = l.level
