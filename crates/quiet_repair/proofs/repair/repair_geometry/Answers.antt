use Rattle.quiet_repair.proofs.AloneLemmas.{checked_alone, planned_alone, rebuilt_alone}
use Rattle.quiet_repair.proofs.repair.repair_geometry.Goals as goal

pub returns-in-Repair-clause-alone : goal.returns-in-Repair-clause-alone
returns-in-Repair-clause-alone g c = planned_alone (g.D.Device.content c.args.dev) (g.D.Device.blocks c.args.dev) c.args.plan c.repair_found.result.1 c.in-Repair.is c.repair_found.ensures.alone

pub returns-in-Check-clause-alone : goal.returns-in-Check-clause-alone
returns-in-Check-clause-alone g c = checked_alone (g.D.Device.content c.args.dev) (g.D.Device.blocks c.args.dev) c.args.plan c.repair_passed.result.1 c.in-Check.is

pub returns-in-Rebuild-clause-alone : goal.returns-in-Rebuild-clause-alone
returns-in-Rebuild-clause-alone g c = rebuilt_alone (g.D.Device.content c.args.dev) (g.D.Device.blocks c.args.dev) c.args.plan c.repair_passed-in-Rebuild.result.1 c.in-Rebuild.is
