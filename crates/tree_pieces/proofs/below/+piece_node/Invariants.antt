use Rattle.tree_pieces.proofs.below.+piece_node.Given as goal

abbrev pub decreases-piece_node : goal.decreases-piece_node
decreases-piece_node g l = l.level
