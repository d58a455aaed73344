use Rattle.test_edit_trees.proofs.play.placed.Given as goal

-- the ledger is the blank's
abbrev pub ghosts-placed_in : goal.ghosts-placed_in
ghosts-placed_in g a = record { name = a.blank.name; parts = a.blank.parts }
