use Rattle.std.proofs.Common.{reverse}
use Rattle.blk_device.specs.Replay.{choices_by}
use Rattle.blk_device.specs.Stored.{with_stored}
use Rattle.blk_device.proofs.ReplayLemmas.{left_may}
use Rattle.blk_device.proofs.memory.MemDevice.crash.Goals as goal

pub returns-in_err-choices-clause-may : goal.returns-in_err-choices-clause-may
returns-in_err-choices-clause-may c =
    let log = c.args.self.now.log in
    left_may (choices_by c.args.keep log.calls.items) (with_stored log.base) (reverse log.calls.items)
