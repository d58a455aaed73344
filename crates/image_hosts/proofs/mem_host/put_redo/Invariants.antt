use Rattle.std.proofs.Common.{◌≡◌}
use Rattle.blk_device.specs.Contents.{map_told}
use Rattle.blk_device.specs.Memory.{calls_asked, failing_calls}
use Rattle.blk_device.specs.Stored.{stored}
use Rattle.blk_device.specs.contracts.memory.MemDeviceDevice.TheImpl.{ghosts}
use Rattle.image_hosts.specs.MemFiles.{with_redo}
use Rattle.image_hosts.proofs.mem_host.put_redo.Given as goal

abbrev pub invariant-loop-at : goal.invariant-loop-at
invariant-loop-at l = record {
  content : ghosts.content l.dev ≡ map_told (with_redo (stored l.redo.blocks) l.at) (ghosts.content l.initial.dev);
  sizes : ghosts.blocks l.dev ≡ ghosts.blocks l.initial.dev;
  faults : ghosts.faults l.dev ≡ ghosts.faults l.initial.dev;
  failing : failing_calls l.dev ≡ failing_calls l.initial.dev;
  asked : calls_asked l.dev ≡ l.at;
}
