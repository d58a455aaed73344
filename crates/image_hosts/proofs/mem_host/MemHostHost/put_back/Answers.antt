use Rattle.std.proofs.Common.{cond, ap, ◌∙◌, Option, List, ℕ, sym, subst}
use Rattle.std.specs.Str.{bytes_eq}
use Rattle.blk_device.specs.Contents.{Contents}
use Rattle.blk_device.specs.contracts.memory.MemDeviceDevice.TheImpl.{ghosts}
use Rattle.blk_device.specs.declared.device.Region.{Region}
use Rattle.blk_device.specs.Recorded.{seen}
use Rattle.blk_device.specs.declared.device.Region.TheVariants.{Image}
use Rattle.image_hosts.specs.MemFiles.{redo_file_named}
use Rattle.image_hosts.specs.MemHost.{stored_by}
use Rattle.image_hosts.specs.Stored.{Stored, FollowsRedo, stored_image, stored_redo}
use Rattle.image_hosts.proofs.MemHostLemmas.{came_back}
use Rattle.image_hosts.proofs.mem_host.MemHostHost.put_back.Goals as goal

pub returns-clause-image : goal.returns-clause-image
returns-clause-image c = λ n.
    c.replace_image.ensures.image n
    ∙ ap (λ (s : Option Stored). cond (bytes_eq n c.args.image.now) s (stored_by c.args.self.now n))
    (came_back c.size-size.result _ c.into_image-blocks.result (seen c.keep_due.new.dev.log Image) c.size-size.ensures c.into_image-blocks.ensures
    ∙ (ap (λ (t : Option Contents). stored_image t (ghosts.blocks c.keep_due.new.dev)) c.keep_due.ensures.same ∙ ap (λ (f : Region → ℕ). stored_image (ghosts.content c.args.dev) f) c.keep_due.ensures.sizes))

pub returns-clause-redo : goal.returns-clause-redo
returns-clause-redo c =
    subst (λ (due : Option (List ℕ)). FollowsRedo due (stored_redo (ghosts.content c.args.dev) (ghosts.blocks c.args.dev)) (redo_file_named c.args.self.now.redos) (redo_file_named c.keep_due.new.redos)) (sym c.requires.due) c.keep_due.ensures.kept
