use Rattle.tree_find.proofs.next.+first_node.Given as goal

abbrev pub decreases-first_node : goal.decreases-first_node
decreases-first_node g l = l.level
