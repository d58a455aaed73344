use Rattle.blk_device.specs.declared.device.Region.TheVariants.{Image, Redo}
use Rattle.image_hosts.proofs.mem_host.open_new.Goals as goal

pub returns-clause-told : goal.returns-clause-told
returns-clause-told c = (c.new-dev.ensures.content, c.new-dev.ensures.sizes Image)

pub returns-clause-redo_blocks : goal.returns-clause-redo_blocks
returns-clause-redo_blocks c = c.new-dev.ensures.sizes Redo
