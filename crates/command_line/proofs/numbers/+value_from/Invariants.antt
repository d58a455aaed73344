use Rattle.std.proofs.Common.{length}
use Rattle.command_line.proofs.numbers.+value_from.Given as goal

-- the digits that are left
abbrev pub decreases-value_from : goal.decreases-value_from
decreases-value_from l = length l.digits.now
