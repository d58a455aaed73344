use Rattle.std.proofs.Common.{sym, subst}
use Rattle.image_hosts.specs.Stored.{HasRoomFor}
use Rattle.image_hosts.proofs.FileHostLemmas.{lent_file}
use Rattle.blk_device.specs.declared.device.Region.TheVariants.{Image}
use Rattle.image_hosts.proofs.file_host.device_over.Goals as goal

pub returns-in_default-clause-told : goal.returns-in_default-clause-told
returns-in_default-clause-told g c =
    lent_file c.args.purpose _ _ (subst (HasRoomFor c.args.purpose) (sym (c.new.ensures.sizes Image)) c.in_ok-image_blocks.ensures)

pub returns-clause-told : goal.returns-clause-told
returns-clause-told g c =
    lent_file c.args.purpose _ _ (subst (HasRoomFor c.args.purpose) (sym (c.new-2.ensures.sizes Image)) c.in_ok-image_blocks.ensures)
