use Rattle.test_edit_trees.proofs.shared_list.put_into.Given as goal

-- the ledger is the blank's
abbrev pub ghosts-put_both : goal.ghosts-put_both
ghosts-put_both a = record { name = a.blank.name; parts = a.blank.parts }
