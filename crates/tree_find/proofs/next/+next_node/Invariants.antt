use Rattle.tree_find.proofs.next.+next_node.Given as goal

abbrev pub decreases-next_node : goal.decreases-next_node
decreases-next_node g l = l.level
