use Rattle.std.proofs.Common.{◌≡◌, ◌++◌, drop}
use Rattle.index_derive.specs.Inodes.{records_of}
use Rattle.index_derive.proofs.inodes.put_all.Given as goal

-- what was found, and the records of the units that are left, are all
abbrev pub invariant-loop-cores : goal.invariant-loop-cores
invariant-loop-cores l = l.recs.items ++ records_of (drop l.cores-index l.units) ≡ records_of l.units
