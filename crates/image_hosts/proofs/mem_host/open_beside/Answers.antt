use Rattle.std.proofs.Common.{ℕ, ap, ◌∙◌, Some}
use Rattle.blk_device.specs.Contents.{Contents, map_told}
use Rattle.blk_device.specs.Stored.{stored}
use Rattle.blk_device.specs.declared.device.Region.{Region}
use Rattle.blk_device.specs.declared.device.Region.TheVariants.{Image, Redo}
use Rattle.image_hosts.specs.MemFiles.{with_redo}
use Rattle.image_hosts.proofs.MemHostLemmas.{same_blocks}
use Rattle.image_hosts.proofs.RedoFileLemmas.{opened_beside}
use Rattle.image_hosts.proofs.mem_host.open_beside.Goals as goal

pub returns-in-Ok-clause-told : goal.returns-in-Ok-clause-told
returns-in-Ok-clause-told c = (
  c.in-Ok.ensures.written
      ∙ (ap (map_told (with_redo (stored c.args.redo.now.blocks) c.args.redo.now.size)) c.in_ok-dev.ensures.content
      ∙ ap (λ (m : Contents). Some m) (opened_beside c.args.image.now.size c.args.image.now.blocks c.in_ok-blocks.blocks c.args.redo.now (same_blocks c.args.image.now.blocks c.in_ok-blocks.blocks c.in_ok-blocks.ensures))),
  ap (λ (f : Region → ℕ). f Image) c.put_redo.ensures.sizes ∙ c.in_ok-dev.ensures.sizes Image,
  ap (λ (f : Region → ℕ). f Redo) c.put_redo.ensures.sizes ∙ c.in_ok-dev.ensures.sizes Redo,
)
