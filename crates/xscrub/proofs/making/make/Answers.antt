use Rattle.std.proofs.Common.{None, refl}
use Rattle.image_hosts.specs.Stored.{asks}
use Rattle.image_hosts.specs.declared.host.OpenFault.TheVariants.{Memory}
use Rattle.image_hosts.specs.declared.host.Purpose.TheVariants.{Make as ForMake}
use Rattle.xscrub.proofs.LoanLemmas.{made_stored}
use Rattle.xscrub.proofs.RepairLemmas.{asked_whole, redos_kept}
use Rattle.xscrub.proofs.making.make.Goals as goal

pub returns-in-Ok-written-clause-stored : goal.returns-in-Ok-written-clause-stored
returns-in-Ok-written-clause-stored g c =
    made_stored (g.H.Host.tells c.args.host.now) c.args.image.now (g.H.Host.stored c.args.host.now) (g.H.Host.stored c.device.new.self) (g.H.Host.stored c.put_back.new.self)
    _ _ _ _ _ _ c.in-Ok.ensures.told c.write_fresh-written.ensures.sizes (λ done. c.in-Ok-written.ensures.written) c.device.ensures.others c.put_back.ensures.image (λ is. is)

pub returns-in-Ok-written-clause-redo : goal.returns-in-Ok-written-clause-redo
returns-in-Ok-written-clause-redo g c =
    redos_kept _ _ (asks c.args.image.now None (ForMake 256)) _ (g.H.Host.redo_files c.args.host.now) (g.H.Host.redo_files c.device.new.self) (g.H.Host.redo_files c.put_back.new.self)
    (asked_whole c.in-Ok.dev Memory (asks c.args.image.now None (ForMake 256)) (g.H.Host.asked c.args.host.now) (g.H.Host.asked c.device.new.self) c.in-Ok.ensures.asked) refl c.put_back.ensures.redo c.device.ensures.redo

pub returns-in-Err-clause-redo : goal.returns-in-Err-clause-redo
returns-in-Err-clause-redo g c =
    redos_kept _ _ (asks c.args.image.now None (ForMake 256)) _ (g.H.Host.redo_files c.args.host.now) (g.H.Host.redo_files c.device.new.self) (g.H.Host.redo_files c.put_back.new.self)
    (asked_whole c.in-Ok.dev Memory (asks c.args.image.now None (ForMake 256)) (g.H.Host.asked c.args.host.now) (g.H.Host.asked c.device.new.self) c.in-Ok.ensures.asked) refl c.put_back.ensures.redo c.device.ensures.redo
