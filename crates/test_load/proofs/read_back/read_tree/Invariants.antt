use Rattle.test_load.proofs.read_back.read_tree.Given as goal

-- the ledger is the blank's
abbrev pub ghosts-walked : goal.ghosts-walked
ghosts-walked g a = record { name = a.blank.name; parts = a.blank.parts }
