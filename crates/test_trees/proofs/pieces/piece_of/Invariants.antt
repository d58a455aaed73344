use Rattle.test_trees.proofs.pieces.piece_of.Given as goal

-- the ledger is the blank's
abbrev pub ghosts-piece_in : goal.ghosts-piece_in
ghosts-piece_in a = record { name = a.blank.name; parts = a.blank.parts }
