use Rattle.std.proofs.Common.{◌≡◌, drop}
use Rattle.inode_pass.specs.Cores.{broken_from}
use Rattle.inode_pass.proofs.unit.first_broken.Given as goal

-- the cores so far verify
abbrev pub invariant-loop-i : goal.invariant-loop-i
invariant-loop-i l = broken_from l.unit l.i (drop l.i l.looks) ≡ broken_from l.unit 0 l.looks
