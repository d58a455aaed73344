use Rattle.quiet_repair.proofs.repair.open_quiet.Given as goal

-- the ledger is the blank's
abbrev pub ghosts-open_counted : goal.ghosts-open_counted
ghosts-open_counted g a = record { name = a.blank.name; parts = a.blank.parts }
