use Rattle.test_quiet.proofs.inodes.counted.Given as goal

-- the ledger is the blank's
abbrev pub ghosts-checked : goal.ghosts-checked
ghosts-checked a = record { name = a.blank.name; parts = a.blank.parts }
