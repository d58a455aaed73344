use Rattle.test_load.proofs.trees.tree_in.Given as goal

-- the ledger is the blank's
abbrev pub ghosts-loaded : goal.ghosts-loaded
ghosts-loaded g a = record { name = a.blank.name; parts = a.blank.parts }
