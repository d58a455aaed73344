use Rattle.test_devices.proofs.fields.caller_that_counts_nothing.Given as goal

-- the ledger is the blank's
abbrev pub ghosts-uncounted : goal.ghosts-uncounted
ghosts-uncounted g a = record { name = a.blank.name; parts = a.blank.parts }
