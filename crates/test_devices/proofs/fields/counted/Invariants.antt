use Rattle.std.proofs.Common.{◌≡◌, length}
use Rattle.test_devices.proofs.fields.counted.Given as goal

abbrev pub invariant-loop-i : goal.invariant-loop-i
invariant-loop-i l = length l.bytes ≡ 4096
