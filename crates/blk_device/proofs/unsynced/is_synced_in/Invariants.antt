use Rattle.std.proofs.Common.{◌≡◌, drop}
use Rattle.blk_device.specs.Replay.{synced_in}
use Rattle.blk_device.proofs.unsynced.is_synced_in.Given as goal

abbrev pub invariant-loop-call : goal.invariant-loop-call
invariant-loop-call l = synced_in l.region (drop l.call-index l.calls) ≡ synced_in l.region l.calls
