use Rattle.lay_tree.proofs.laid.tree_of.Given as goal

-- the ledger is the blank's
abbrev pub ghosts-loaded : goal.ghosts-loaded
ghosts-loaded g a = record { name = a.blank.name; parts = a.blank.parts }
