use Rattle.quiet_repair.proofs.RefusalLemmas.{not_opened}
use Rattle.quiet_repair.proofs.repair.repair_passed.Goals as goal

pub returns-in-Err-clause-late : goal.returns-in-Err-clause-late
returns-in-Err-clause-late g c =
    not_opened (g.D.Device.content c.args.dev) (g.D.Device.content c.in-Err.dev) c.args.geo c.in-Err.refused c.no_entry.result c.no_entry.ensures.entry c.in-Err.ensures.back.same c.requires.heads c.in-Err.ensures.back.refused
