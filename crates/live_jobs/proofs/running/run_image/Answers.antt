use Rattle.std.proofs.Common.{Some, inl, inr, refl}
use Rattle.image_hosts.specs.Stored.{asks}
use Rattle.image_hosts.specs.declared.host.OpenFault.TheVariants.{Memory}
use Rattle.image_hosts.specs.declared.host.Purpose.TheVariants.{Change}
use Rattle.xscrub.proofs.RepairLemmas.{asked_whole, redo_changed, was_repaired}
use Rattle.live_jobs.proofs.running.run_image.Goals as goal

pub returns-in-Some-clause-run : goal.returns-in-Some-clause-run
returns-in-Some-clause-run g c =
    let image = c.args.names.now.image.now in
    let redo = c.args.names.now.redo.now in
    inr (inl (was_repaired g.H.Dev.Device image redo (g.H.Host.stored c.args.host.now) (g.H.Host.stored c.device.new.self) (g.H.Host.stored c.put_back.new.self)
    (g.H.Host.redo_files c.args.host.now) (g.H.Host.redo_files c.put_back.new.self) (g.H.Host.loans c.args.host.now) (g.H.Host.loans c.device.new.self) (g.H.Host.loans c.put_back.new.self) c.in-Ok.dev c.in-Some.dev
    c.in-Ok.ensures.lent c.put_back.ensures.lent c.in-Ok.ensures.told c.in-Some.ensures.comes.sizes c.in-Some.ensures.comes.later c.put_back.ensures.image
    (redo_changed _ _ (asks image (Some redo) Change) redo _ (g.H.Host.redo_files c.args.host.now) (g.H.Host.redo_files c.device.new.self) (g.H.Host.redo_files c.put_back.new.self)
    (asked_whole c.in-Ok.dev Memory (asks image (Some redo) Change) (g.H.Host.asked c.args.host.now) (g.H.Host.asked c.device.new.self) c.in-Ok.ensures.asked) refl c.put_back.ensures.redo c.device.ensures.redo)))

pub returns-in-None-clause-run : goal.returns-in-None-clause-run
returns-in-None-clause-run g c = inr (inr (record { dev = c.in-Ok.dev; lent = c.in-Ok.ensures.lent; others = c.device.ensures.others; redo_files = c.device.ensures.redo }))
