use Rattle.test_trees.proofs.finding.next.Given as goal

-- the ledger is the blank's
abbrev pub ghosts-next_in : goal.ghosts-next_in
ghosts-next_in a = record { name = a.blank.name; parts = a.blank.parts }
