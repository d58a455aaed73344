use Rattle.quiet_repair.proofs.sound.checked.Given as goal

-- the ledger is the blank's
abbrev pub ghosts-checked_counted : goal.ghosts-checked_counted
ghosts-checked_counted g a = record { name = a.blank.name; parts = a.blank.parts }
