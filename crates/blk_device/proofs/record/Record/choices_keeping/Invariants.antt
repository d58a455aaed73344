use Rattle.std.proofs.Common.{◌≡◌, ◌++◌, length}
use Rattle.blk_device.specs.Replay.{choices_by}
use Rattle.blk_device.proofs.record.Record.choices_keeping.Given as goal

abbrev pub invariant-loop-call : goal.invariant-loop-call
invariant-loop-call l = l.choices.items ++ choices_by l.bits l.rest ≡ choices_by l.keep l.self.calls.items

abbrev pub decreases-loop-call : goal.decreases-loop-call
decreases-loop-call l = length l.rest
