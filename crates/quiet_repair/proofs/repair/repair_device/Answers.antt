use Rattle.quiet_repair.proofs.AloneLemmas.{door_alone, passed_alone}
use Rattle.quiet_repair.proofs.repair.repair_device.Goals as goal

pub returns-in-Ok-clause-alone : goal.returns-in-Ok-clause-alone
returns-in-Ok-clause-alone g c =
    passed_alone (g.D.Device.content c.args.dev) (g.D.Device.content c.pass_door.new.dev) (g.D.Device.blocks c.args.dev) (g.D.Device.blocks c.pass_door.new.dev) c.args.plan c.repair_geometry.result.1
    c.in-Ok.ensures.written c.pass_door.ensures.sizes c.repair_geometry.ensures.alone

pub returns-in-Err-clause-alone : goal.returns-in-Err-clause-alone
returns-in-Err-clause-alone g c = door_alone (g.D.Device.content c.args.dev) (g.D.Device.blocks c.args.dev) c.args.plan c.in-Err.no c.in-Err.ensures.exact
