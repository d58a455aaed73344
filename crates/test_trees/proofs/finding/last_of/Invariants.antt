use Rattle.test_trees.proofs.finding.last_of.Given as goal

-- the ledger is the blank's
abbrev pub ghosts-last_in : goal.ghosts-last_in
ghosts-last_in a = record { name = a.blank.name; parts = a.blank.parts }
