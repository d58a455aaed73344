use Rattle.std.proofs.Common.{ap, ◌∙◌, Some}
use Rattle.blk_device.specs.Contents.{Contents}
use Rattle.blk_device.specs.declared.device.Region.TheVariants.{Image, Redo}
use Rattle.image_hosts.proofs.MemHostLemmas.{opened_copy}
use Rattle.image_hosts.proofs.mem_host.open_copy.Goals as goal

pub returns-clause-told : goal.returns-clause-told
returns-clause-told c = (
  c.in_ok-dev.ensures.content ∙ ap (λ (m : Contents). Some m) (opened_copy c.args.image.now.size c.args.image.now.blocks c.in_ok-blocks.blocks c.in_ok-blocks.ensures),
  c.in_ok-dev.ensures.sizes Image,
  c.in_ok-dev.ensures.sizes Redo,
)

pub returns-clause-redo_blocks : goal.returns-clause-redo_blocks
returns-clause-redo_blocks c = c.in_ok-dev.ensures.sizes Redo
