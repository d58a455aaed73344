use Rattle.std.proofs.Common.{◌≡◌, true}
use Rattle.byte_fields.specs.Below.{all_below}
use Rattle.sblock.specs.Blocks.{rises_at}
use Rattle.sblock.proofs.checks.do_entries_rise.Given as goal

abbrev pub invariant-loop-i : goal.invariant-loop-i
invariant-loop-i g l = all_below l.i (rises_at g.K.RecKind.form l.leaf l.area) ≡ true
