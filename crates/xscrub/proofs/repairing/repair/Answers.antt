use Rattle.std.proofs.Common.{[], Some, inr, refl, ◌∙◌}
use Rattle.image_hosts.specs.Stored.{HoldsRedo, asks, stored_image, stored_redo}
use Rattle.image_hosts.specs.declared.host.OpenFault.TheVariants.{Memory}
use Rattle.image_hosts.specs.declared.host.Purpose.TheVariants.{Change}
use Rattle.xscrub.specs.Command.{repair_of}
use Rattle.xscrub.specs.declared.ending.Finding.TheVariants as findings
use Rattle.xscrub.proofs.AloneLemmas.{lost_alone, stored_alone}
use Rattle.xscrub.proofs.DoorLemmas.{lost_door, stored_door}
use Rattle.xscrub.proofs.RepairLemmas.{asked_whole, image_there, of_device, redo_changed, repair_found, was_repaired}
use Rattle.xscrub.specs.Repairs.{IsClean}
use Rattle.xscrub.proofs.SessionLemmas.{none_cut}
use Rattle.xscrub.proofs.SoundLemmas.{stored_sound}
use Rattle.xscrub.proofs.repairing.repair.Goals as goal

pub returns-in-Err-Failed-clause-words : goal.returns-in-Err-Failed-clause-words
returns-in-Err-Failed-clause-words g c = (tt, none_cut c.args.plan c.args.turns 5 [] refl refl)

pub returns-in-Err-Memory-clause-words : goal.returns-in-Err-Memory-clause-words
returns-in-Err-Memory-clause-words g c = (tt, none_cut c.args.plan c.args.turns 8 c.new.result.items refl c.new.ensures.items)

pub returns-clause-words : goal.returns-clause-words
returns-clause-words g c = (of_device c.repair_lent-dev.result.1 c.repair_lent-dev.ensures.device, c.repair_lent-dev.ensures.units)

pub returns-clause-found : goal.returns-clause-found
returns-clause-found g c =
    repair_found c.repair_lent-dev.result.1 (g.H.Dev.Device.faults c.repair_lent-dev.result.0) _ _ (g.H.Host.dev_faults c.args.host.now) _ c.repair_lent-dev.ensures.device c.repair_lent-dev.ensures.count
    (c.put_back.ensures.host ∙ c.in-Ok.ensures.calm) (rw c.device.ensures.devices at c.put_back.ensures.devices)

pub returns-clause-device : goal.returns-clause-device
returns-clause-device g c =
    inr (was_repaired g.H.Dev.Device c.args.image.now c.args.redo.now (g.H.Host.stored c.args.host.now) (g.H.Host.stored c.device.new.self) (g.H.Host.stored c.put_back.new.self)
    (g.H.Host.redo_files c.args.host.now) (g.H.Host.redo_files c.put_back.new.self) (g.H.Host.loans c.args.host.now) (g.H.Host.loans c.device.new.self) (g.H.Host.loans c.put_back.new.self) c.in-Ok.dev c.repair_lent-dev.result.0
    c.in-Ok.ensures.lent c.put_back.ensures.lent c.in-Ok.ensures.told c.repair_lent-dev.ensures.sizes c.repair_lent-dev.ensures.later c.put_back.ensures.image
    (redo_changed _ _ (asks c.args.image.now (Some c.args.redo.now) Change) c.args.redo.now _ (g.H.Host.redo_files c.args.host.now) (g.H.Host.redo_files c.device.new.self) (g.H.Host.redo_files c.put_back.new.self)
    (asked_whole c.in-Ok.dev Memory (asks c.args.image.now (Some c.args.redo.now) Change) (g.H.Host.asked c.args.host.now) (g.H.Host.asked c.device.new.self) c.in-Ok.ensures.asked) refl c.put_back.ensures.redo c.device.ensures.redo))

pub returns-clause-redo : goal.returns-clause-redo
returns-clause-redo g c =
    let held = stored_redo (g.H.Dev.Device.content c.repair_lent-dev.result.0) (g.H.Dev.Device.blocks c.repair_lent-dev.result.0) in
    let holds : HoldsRedo c.args.redo.now held (g.H.Host.redo_files c.args.host.now) (g.H.Host.redo_files c.put_back.new.self) =
    redo_changed _ _ (asks c.args.image.now (Some c.args.redo.now) Change) c.args.redo.now held (g.H.Host.redo_files c.args.host.now) (g.H.Host.redo_files c.device.new.self) (g.H.Host.redo_files c.put_back.new.self)
    (asked_whole c.in-Ok.dev Memory (asks c.args.image.now (Some c.args.redo.now) Change) (g.H.Host.asked c.args.host.now) (g.H.Host.asked c.device.new.self) c.in-Ok.ensures.asked) refl c.put_back.ensures.redo c.device.ensures.redo in
    holds.others

pub returns-clause-sound : goal.returns-clause-sound
returns-clause-sound g c =
    let content = g.H.Dev.Device.content c.repair_lent-dev.result.0 in
    let blocks = g.H.Dev.Device.blocks c.repair_lent-dev.result.0 in
    stored_sound (IsClean c.repair_lent-dev.result.1) c.args.image.now c.args.redo.now content blocks (g.H.Host.stored c.device.new.self) (g.H.Host.stored c.put_back.new.self)
    (g.H.Host.redo_files c.args.host.now) (g.H.Host.redo_files c.put_back.new.self) c.put_back.ensures.image
    (redo_changed _ _ (asks c.args.image.now (Some c.args.redo.now) Change) c.args.redo.now (stored_redo content blocks) (g.H.Host.redo_files c.args.host.now) (g.H.Host.redo_files c.device.new.self) (g.H.Host.redo_files c.put_back.new.self)
    (asked_whole c.in-Ok.dev Memory (asks c.args.image.now (Some c.args.redo.now) Change) (g.H.Host.asked c.args.host.now) (g.H.Host.asked c.device.new.self) c.in-Ok.ensures.asked) refl c.put_back.ensures.redo c.device.ensures.redo)
    c.repair_lent-dev.ensures.sound

pub returns-in-Err-Failed-clause-refused : goal.returns-in-Err-Failed-clause-refused
returns-in-Err-Failed-clause-refused g c =
    lost_door (repair_of c.args.image.now c.args.redo.now c.args.plan c.args.turns) findings.HostFailed (g.H.Host.stored c.args.host.now) (g.H.Host.redo_files c.args.host.now) (g.H.Host.stored c.device.new.self) (λ decided m left. tt)

pub returns-in-Err-Memory-clause-refused : goal.returns-in-Err-Memory-clause-refused
returns-in-Err-Memory-clause-refused g c =
    lost_door (repair_of c.args.image.now c.args.redo.now c.args.plan c.args.turns) (findings.Memory c.new.result) (g.H.Host.stored c.args.host.now) (g.H.Host.redo_files c.args.host.now) (g.H.Host.stored c.device.new.self) (λ decided m left. tt)

pub returns-clause-refused : goal.returns-clause-refused
returns-clause-refused g c =
    let content = g.H.Dev.Device.content c.repair_lent-dev.result.0 in
    let blocks = g.H.Dev.Device.blocks c.repair_lent-dev.result.0 in
    stored_door c.repair_lent-dev.result.1 (g.H.Host.stored c.args.host.now c.args.image.now) (g.H.Host.redo_files c.args.host.now c.args.redo.now) (g.H.Host.stored c.put_back.new.self c.args.image.now)
    (g.H.Dev.Device.content c.in-Ok.dev) content (g.H.Dev.Device.blocks c.in-Ok.dev) blocks c.in-Ok.ensures.told
    (image_there c.args.image.now (stored_image content blocks) (g.H.Host.stored c.device.new.self) (g.H.Host.stored c.put_back.new.self) c.put_back.ensures.image) c.repair_lent-dev.ensures.refused

pub returns-in-Err-Failed-clause-alone : goal.returns-in-Err-Failed-clause-alone
returns-in-Err-Failed-clause-alone g c =
    lost_alone (repair_of c.args.image.now c.args.redo.now c.args.plan c.args.turns) findings.HostFailed (g.H.Host.stored c.args.host.now) (g.H.Host.redo_files c.args.host.now) (g.H.Host.stored c.device.new.self) (λ journal file left. tt)

pub returns-in-Err-Memory-clause-alone : goal.returns-in-Err-Memory-clause-alone
returns-in-Err-Memory-clause-alone g c =
    lost_alone (repair_of c.args.image.now c.args.redo.now c.args.plan c.args.turns) (findings.Memory c.new.result) (g.H.Host.stored c.args.host.now) (g.H.Host.redo_files c.args.host.now) (g.H.Host.stored c.device.new.self) (λ journal file left. tt)

pub returns-clause-alone : goal.returns-clause-alone
returns-clause-alone g c =
    let content = g.H.Dev.Device.content c.repair_lent-dev.result.0 in
    let blocks = g.H.Dev.Device.blocks c.repair_lent-dev.result.0 in
    stored_alone c.args.plan c.repair_lent-dev.result.1 (g.H.Host.stored c.args.host.now c.args.image.now) (g.H.Host.redo_files c.args.host.now c.args.redo.now) (g.H.Host.stored c.put_back.new.self c.args.image.now)
    (g.H.Dev.Device.content c.in-Ok.dev) content (g.H.Dev.Device.blocks c.in-Ok.dev) blocks c.in-Ok.ensures.told
    (image_there c.args.image.now (stored_image content blocks) (g.H.Host.stored c.device.new.self) (g.H.Host.stored c.put_back.new.self) c.put_back.ensures.image) c.repair_lent-dev.ensures.alone
