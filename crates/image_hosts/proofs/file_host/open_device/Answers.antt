use Rattle.std.proofs.Common.{◌∙◌, ap, sym, ℕ, None, false, subst}
use Rattle.blk_device.specs.declared.device.Region.{Region}
use Rattle.blk_device.specs.declared.device.Region.TheVariants.{Redo}
use Rattle.image_hosts.specs.Stored.{IsLent, redo_asked}
use Rattle.image_hosts.proofs.file_host.open_device.Goals as goal

pub returns-clause-redo_blocks : goal.returns-clause-redo_blocks
returns-clause-redo_blocks g c = λ none. ap (λ (blocks : Region → ℕ). blocks Redo) c.with_ahead.ensures.sizes ∙ c.in_ok-device.ensures.redo_blocks none

pub returns-clause-told : goal.returns-clause-told
returns-clause-told g c =
    subst (λ (blocks : Region → ℕ). IsLent c.args.purpose false None (redo_asked (λ n. None) c.args.redo) None blocks) (sym c.with_ahead.ensures.sizes) c.in_ok-device.ensures.told
