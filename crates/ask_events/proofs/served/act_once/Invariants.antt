use Rattle.ask_events.proofs.served.act_once.Given as goal

-- the ledger is the blank's
abbrev pub ghosts-act_counted : goal.ghosts-act_counted
ghosts-act_counted g a = record { name = a.blank.name; parts = a.blank.parts }
