use Rattle.test_writers.proofs.worlds.expect_rows.Given as goal

-- the ledger is the blank's
abbrev pub ghosts-left : goal.ghosts-left
ghosts-left g a = record { name = a.blank.name; parts = a.blank.parts }
