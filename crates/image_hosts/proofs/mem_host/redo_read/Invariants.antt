use Rattle.std.proofs.Common.{◌≡◌, ◌<◌, ℕ}
use Rattle.blk_device.specs.Recorded.{seen}
use Rattle.blk_device.specs.Stored.{stored}
use Rattle.blk_device.specs.contracts.memory.MemDeviceDevice.TheImpl.{ghosts}
use Rattle.blk_device.specs.declared.device.Region.TheVariants.{Redo}
use Rattle.image_hosts.proofs.mem_host.redo_read.Given as goal

-- what was read so far
abbrev pub invariant-loop-at : goal.invariant-loop-at
invariant-loop-at l = record {
  content : ghosts.content l.dev ≡ ghosts.content l.initial.dev;
  sizes : ghosts.blocks l.dev ≡ ghosts.blocks l.initial.dev;
  held : (b : ℕ) → b < l.at → stored l.held b ≡ seen l.initial.dev.log Redo b;
}
