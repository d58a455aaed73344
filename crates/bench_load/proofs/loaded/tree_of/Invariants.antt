use Rattle.bench_load.proofs.loaded.tree_of.Given as goal

-- the ledger is the blank's
abbrev pub ghosts-loaded : goal.ghosts-loaded
ghosts-loaded g a = record { name = a.blank.name; parts = a.blank.parts }
