use Rattle.test_fork_pass.proofs.forks.counted.Given as goal

-- the ledger is the blank's
abbrev pub ghosts-pass : goal.ghosts-pass
ghosts-pass a = record { name = a.blank.name; parts = a.blank.parts }
