use Rattle.quiet_repair.proofs.sessions.session.Given as goal

-- the ledger is the blank's
abbrev pub ghosts-session_counted : goal.ghosts-session_counted
ghosts-session_counted g a = record { name = a.blank.name; parts = a.blank.parts }
