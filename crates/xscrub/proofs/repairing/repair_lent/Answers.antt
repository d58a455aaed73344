use Rattle.std.proofs.Common.{refl, sym, ◌∙◌}
use Rattle.xscrub.specs.Repairs.{IsClean}
use Rattle.blk_device.specs.declared.device.Region.TheVariants.{Image, Redo}
use Rattle.repair_door.specs.Doors.{door_refusal}
use Rattle.xscrub.specs.Doors.{image_told}
use Rattle.xscrub.proofs.AloneLemmas.{lent_failed, lent_sound}
use Rattle.xscrub.proofs.DoorLemmas.{told_left, told_refuses}
use Rattle.xscrub.proofs.SoundLemmas.{sound_leaves}
use Rattle.xscrub.proofs.repairing.repair_lent.Goals as goal

pub returns-then-is_checked-clause-device : goal.returns-then-is_checked-clause-device
returns-then-is_checked-clause-device g c = c.finding_of-found.ensures.device (g.D.Device.faults c.args.dev) (g.D.Device.faults c.repair_device-dev.result.0) c.repair_device-dev.ensures.ends

pub returns-then-is_checked-clause-units : goal.returns-then-is_checked-clause-units
returns-then-is_checked-clause-units g c = c.finding_of-found.ensures.units c.args.plan c.args.turns c.repair_device-dev.ensures.order

pub returns-then-is_checked-clause-sound : goal.returns-then-is_checked-clause-sound
returns-then-is_checked-clause-sound g c =
    sound_leaves (IsClean c.finding_of-found.result) (g.D.Device.content c.repair_device-dev.result.0) (g.D.Device.blocks c.repair_device-dev.result.0) c.repair_device-dev.result.1
    (sym c.is_sound-is_checked.ensures ∙ c.if-is_checked.true) c.repair_device-dev.ensures.sound

pub returns-clause-device : goal.returns-clause-device
returns-clause-device g c =
    c.confirmed-found.ensures.device (c.finding_of-found.ensures.device (g.D.Device.faults c.args.dev) (g.D.Device.faults c.repair_device-dev.result.0) c.repair_device-dev.ensures.ends)

pub returns-clause-units : goal.returns-clause-units
returns-clause-units g c = c.confirmed-found.ensures.units c.args.plan c.args.turns (c.finding_of-found.ensures.units c.args.plan c.args.turns c.repair_device-dev.ensures.order)

pub returns-clause-sound : goal.returns-clause-sound
returns-clause-sound g c =
    c.confirmed-found.ensures.sound (c.finding_of-found.ensures.device (g.D.Device.faults c.args.dev) (g.D.Device.faults c.repair_device-dev.result.0) c.repair_device-dev.ensures.ends)

pub returns-then-is_checked-clause-refused : goal.returns-then-is_checked-clause-refused
returns-then-is_checked-clause-refused g c = λ m is.
    let decided = door_refusal (g.D.Device.blocks c.args.dev Redo) (g.D.Device.blocks c.args.dev Image) in
    let content = g.D.Device.content c.repair_device-dev.result.0 in
    c.finding_of-found.ensures.door (decided m) m (image_told content) (told_refuses (g.D.Device.content c.args.dev) decided c.repair_device-dev.result.1 m is c.repair_device-dev.ensures.refused)
    (told_left (g.D.Device.content c.args.dev) content content c.repair_device-dev.result.1 m is refl c.repair_device-dev.ensures.left)

pub returns-clause-refused : goal.returns-clause-refused
returns-clause-refused g c = λ m is.
    let decided = door_refusal (g.D.Device.blocks c.args.dev Redo) (g.D.Device.blocks c.args.dev Image) in
    let content = g.D.Device.content c.repair_device-dev.result.0 in
    let content' = g.D.Device.content c.confirmed-found.new.dev in
    c.confirmed-found.ensures.door (decided m) m (image_told content')
    (c.finding_of-found.ensures.door (decided m) m (image_told content') (told_refuses (g.D.Device.content c.args.dev) decided c.repair_device-dev.result.1 m is c.repair_device-dev.ensures.refused)
    (told_left (g.D.Device.content c.args.dev) content content' c.repair_device-dev.result.1 m is c.confirmed-found.ensures.same c.repair_device-dev.ensures.left))

pub returns-then-is_checked-clause-alone : goal.returns-then-is_checked-clause-alone
returns-then-is_checked-clause-alone g c =
    lent_sound c.args.plan (g.D.Device.content c.args.dev) (g.D.Device.content c.repair_device-dev.result.0) (g.D.Device.blocks c.args.dev) c.repair_device-dev.result.1 c.finding_of-found.result c.repair_device-dev.ensures.alone
    (sym c.is_sound-is_checked.ensures ∙ c.if-is_checked.true) c.repair_device-dev.ensures.kept c.finding_of-found.ensures.alone

pub returns-clause-alone : goal.returns-clause-alone
returns-clause-alone g c =
    lent_failed c.args.plan (g.D.Device.content c.args.dev) (g.D.Device.content c.confirmed-found.new.dev) (g.D.Device.blocks c.args.dev) c.repair_device-dev.result.1 c.confirmed-found.result c.repair_device-dev.ensures.alone
    (λ told nothing. c.confirmed-found.ensures.failed (c.finding_of-found.ensures.failed told nothing (sym c.is_sound-is_checked.ensures ∙ c.if-is_checked.false)))
