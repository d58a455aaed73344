use Rattle.tree_pieces.proofs.below.+first_piece.Given as goal

abbrev pub decreases-first_piece : goal.decreases-first_piece
decreases-first_piece g l = l.level
