use Rattle.live_fs.proofs.acting.ask_core.Given as goal

-- the ledger is the blank's
abbrev pub ghosts-act_counted : goal.ghosts-act_counted
ghosts-act_counted g a = record { name = a.blank.name; parts = a.blank.parts }
