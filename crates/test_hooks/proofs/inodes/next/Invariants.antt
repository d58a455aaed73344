use Rattle.test_hooks.proofs.inodes.next.Given as goal

-- the ledger is the blank's
abbrev pub ghosts-next_from : goal.ghosts-next_from
ghosts-next_from a = record { name = a.blank.name; parts = a.blank.parts }
