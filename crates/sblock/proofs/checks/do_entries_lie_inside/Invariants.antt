use Rattle.std.proofs.Common.{◌≡◌, true}
use Rattle.byte_fields.specs.Below.{all_below}
use Rattle.sblock.specs.Blocks.{is_inside}
use Rattle.sblock.proofs.checks.do_entries_lie_inside.Given as goal

abbrev pub invariant-loop-i : goal.invariant-loop-i
invariant-loop-i g l = all_below l.i (is_inside g.K.RecKind.form l.leaf l.bounds l.area) ≡ true
