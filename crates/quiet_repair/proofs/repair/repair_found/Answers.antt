use Rattle.std.proofs.Common.{IfSome, Option, subst}
use Rattle.std.specs.Global.{Vec}
use Rattle.blk_device.specs.declared.device.Region.TheVariants.{Image}
use Rattle.fs_model.specs.declared.entry.Entry.{Entry}
use Rattle.geom.specs.Places.{layout}
use Rattle.image_check.specs.Image.{image_checked}
use Rattle.fs_state.specs.declared.plan.Plan.TheVariants as plans
use Rattle.quiet_repair.specs.Sound.{IsSound, IsSoundOrder}
use Rattle.quiet_repair.proofs.AloneLemmas.{found_alone, missed_alone, stopped_alone}
use Rattle.quiet_repair.proofs.repair.repair_found.Goals as goal

pub returns-in-Ok-Some-clause-ends : goal.returns-in-Ok-Some-clause-ends
returns-in-Ok-Some-clause-ends g c = c.nothing_done.ensures.ends _ _

pub returns-in-Ok-Some-clause-order : goal.returns-in-Ok-Some-clause-order
returns-in-Ok-Some-clause-order g c =
    c.nothing_done.ensures.order plans.Repair c.args.turns (record { groups = c.args.geo.agcount; some = c.args.geo.fitting.some_groups; order = subst (IsSoundOrder c.args.geo.agcount) c.in-Ok-Some.field-0-is c.in-Ok-Some.ensures.order c.args.turns })

pub returns-in-Ok-Some-clause-alone : goal.returns-in-Ok-Some-clause-alone
returns-in-Ok-Some-clause-alone g c =
    let content = g.D.Device.content c.args.dev in
    found_alone (g.D.Device.blocks c.args.dev) c.args.geo c.nothing_done.result content c.in-Ok-Some.journal c.requires.told
    (subst (λ (f : Option (Vec Entry)). IfSome content (λ m. IsSound (image_checked (layout c.args.geo) (m Image)) f)) c.in-Ok-Some.field-0-is c.in-Ok-Some.ensures.sound) c.nothing_done.ensures.alone

pub returns-in-Ok-None-clause-alone : goal.returns-in-Ok-None-clause-alone
returns-in-Ok-None-clause-alone g c =
    let content = g.D.Device.content c.args.dev in
    missed_alone (g.D.Device.blocks c.args.dev) c.args.geo c.repair_passed.result.1 content c.requires.told
    (subst (λ (f : Option (Vec Entry)). IfSome content (λ m. IsSound (image_checked (layout c.args.geo) (m Image)) f)) c.in-Ok-None.field-0-is c.in-Ok-None.ensures.sound)

pub returns-in-Err-clause-alone : goal.returns-in-Err-clause-alone
returns-in-Err-clause-alone g c = stopped_alone (g.D.Device.content c.args.dev) (g.D.Device.blocks c.args.dev) c.in-Err.no c.in-Err.ensures.only
