use Rattle.test_trees.proofs.covering.found.Given as goal

-- the ledger is the blank's
abbrev pub ghosts-searched : goal.ghosts-searched
ghosts-searched g a = record { name = a.blank.name; parts = a.blank.parts }
