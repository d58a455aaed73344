use Rattle.test_writers.proofs.lists.play.Given as goal

-- the ledger is the blank's
abbrev pub ghosts-play_counted : goal.ghosts-play_counted
ghosts-play_counted g a = record { name = a.blank.name; parts = a.blank.parts }
