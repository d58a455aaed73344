use Rattle.test_trees.proofs.single.open_root.Given as goal

-- the ledger is the blank's
abbrev pub ghosts-opened : goal.ghosts-opened
ghosts-opened a = record { name = a.blank.name; parts = a.blank.parts }
