use Rattle.blk_device.specs.Recorded.{seen}
use Rattle.blk_device.specs.contracts.memory.MemDeviceDevice.TheImpl.{ghosts}
use Rattle.image_hosts.proofs.DueLemmas.{held_with, told_or_lost}
use Rattle.image_hosts.proofs.mem_host.keep_redo.Goals as goal

pub returns-clause-kept : goal.returns-clause-kept
returns-clause-kept c =
    held_with c.args.name.now _ _ _ _ c.replace_redo.ensures
    (told_or_lost c.redo_read-read.result _ c.size-size.result (seen c.args.dev.now.log) (ghosts.blocks c.args.dev.now) c.size-size.ensures c.redo_over-redo.ensures.lost c.redo_over-redo.ensures.held c.redo_read-read.ensures.held)
