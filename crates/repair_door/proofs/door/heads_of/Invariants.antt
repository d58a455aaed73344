use Rattle.repair_door.proofs.door.heads_of.Given as goal

-- the ledger is the blank's
abbrev pub ghosts-heads_counted : goal.ghosts-heads_counted
ghosts-heads_counted g a = record { name = a.blank.name; parts = a.blank.parts }
