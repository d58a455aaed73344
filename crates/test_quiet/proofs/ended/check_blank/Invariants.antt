use Rattle.test_quiet.proofs.ended.check_blank.Given as goal

-- the ledger is the blank's
abbrev pub ghosts-checked : goal.ghosts-checked
ghosts-checked a = record { name = a.blank.name; parts = a.blank.parts }
