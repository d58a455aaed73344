use Rattle.test_trees.proofs.read.claims_of.Given as goal

-- the ledger is the blank's
abbrev pub ghosts-claimed_in : goal.ghosts-claimed_in
ghosts-claimed_in g a = record { name = a.blank.name; parts = a.blank.parts }
