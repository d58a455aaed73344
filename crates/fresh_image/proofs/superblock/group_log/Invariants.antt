use Rattle.std.proofs.Common.{◌≡◌, ◌-◌, ◌≤◌}
use Rattle.fresh_image.specs.Fresh.{covering_log}
use Rattle.fresh_image.proofs.superblock.group_log.Given as goal

abbrev pub invariant-loop-log : goal.invariant-loop-log
invariant-loop-log l = covering_log (28 - l.log) l.log l.len ≡ covering_log 28 0 l.len
