use Rattle.test_edit_trees.proofs.play.records_of.Given as goal

-- the ledger is the blank's
abbrev pub ghosts-records_in : goal.ghosts-records_in
ghosts-records_in g a = record { name = a.blank.name; parts = a.blank.parts }
