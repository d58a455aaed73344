use Rattle.std.proofs.Common.{◌≡◌, ℕ, take, drop}
use Rattle.blk_device.specs.declared.device.Region.{Region}
use Rattle.blk_device.specs.Recorded.{seen}
use Rattle.blk_device.specs.Stored.{with_stored}
use Rattle.blk_device.proofs.ReplayLemmas.{between}
use Rattle.blk_device.proofs.record.Record.crash.Given as goal

abbrev pub invariant-loop-i : goal.invariant-loop-i
invariant-loop-i l = (s : Region) (b : ℕ) → seen l.log s b ≡ between l.choices (with_stored l.self.base) (take l.i l.self.calls.items) (drop l.i l.self.calls.items) s b
