use Rattle.std.proofs.Common.{◌≡◌, true}
use Rattle.byte_fields.specs.Below.{all_below}
use Rattle.sblock.specs.Blocks.{is_supported_at}
use Rattle.sblock.proofs.checks.are_entries_supported.Given as goal

abbrev pub invariant-loop-i : goal.invariant-loop-i
invariant-loop-i g l = all_below l.i (is_supported_at g.K.RecKind.form l.area) ≡ true
