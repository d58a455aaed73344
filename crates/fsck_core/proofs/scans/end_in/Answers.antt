use Rattle.fsck_core.proofs.SayLemmas.{back_open, done_from}
use Rattle.fsck_core.proofs.scans.end_in.Goals as goal
use Rattle.fsck_core.specs.declared.events.Event.TheVariants as events

pub returns-in-Ok-clause-says : goal.returns-in-Ok-clause-says
returns-in-Ok-clause-says g c = done_from c.args.g events.Advance c.args.parts.now c.take_open.new.parts c.end_taken.new.parts c.in-Ok.unit c.end_taken.result c.in-Ok.ensures.out c.end_taken.ensures.says

pub returns-in-Err-clause-says : goal.returns-in-Err-clause-says
returns-in-Err-clause-says g c = back_open c.args.g events.Advance c.args.parts.now c.take_open.new.parts c.in-Err.fault c.in-Err.ensures.back
