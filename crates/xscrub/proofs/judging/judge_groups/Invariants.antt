use Rattle.xscrub.proofs.judging.judge_groups.Given as goal

-- the ledger is the blank's
abbrev pub ghosts-judge_counted : goal.ghosts-judge_counted
ghosts-judge_counted g a = record { name = a.blank.name; parts = a.blank.parts }
