use Rattle.test_inodes.proofs.pieces.first.first_of.Given as goal

-- the ledger is the blank's
abbrev pub ghosts-counted : goal.ghosts-counted
ghosts-counted a = record { name = a.blank.name; parts = a.blank.parts }
