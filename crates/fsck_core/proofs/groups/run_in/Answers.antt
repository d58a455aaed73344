use Rattle.fsck_core.proofs.SayLemmas.{back_open, done_from}
use Rattle.fsck_core.proofs.groups.run_in.Goals as goal

pub returns-in-Ok-clause-says : goal.returns-in-Ok-clause-says
returns-in-Ok-clause-says g c = done_from c.args.g c.args.event c.args.parts.now c.take_open.new.parts c.run_taken.new.parts c.in-Ok.unit c.run_taken.result c.in-Ok.ensures.out c.run_taken.ensures.says

pub returns-in-Err-clause-says : goal.returns-in-Err-clause-says
returns-in-Err-clause-says g c = back_open c.args.g c.args.event c.args.parts.now c.take_open.new.parts c.in-Err.fault c.in-Err.ensures.back
