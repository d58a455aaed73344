use Rattle.test_edit_trees.proofs.play.step.Given as goal

-- the ledger is the blank's
abbrev pub ghosts-edit_in : goal.ghosts-edit_in
ghosts-edit_in g a = record { name = a.blank.name; parts = a.blank.parts }
