use Rattle.fsck_core.proofs.SayLemmas.{back_released, released_from}
use Rattle.fsck_core.proofs.groups.reopen_in.Goals as goal

pub returns-in-Ok-clause-says : goal.returns-in-Ok-clause-says
returns-in-Ok-clause-says g c = released_from c.args.g c.args.parts.now c.take_open.new.parts c.reopen_taken.new.parts c.in-Ok.unit c.reopen_taken.result c.in-Ok.ensures.out c.reopen_taken.ensures.units c.reopen_taken.ensures.says c.reopen_taken.ensures.known

pub returns-in-Err-clause-says : goal.returns-in-Err-clause-says
returns-in-Err-clause-says g c = back_released c.args.g c.args.parts.now c.take_open.new.parts c.in-Err.fault c.in-Err.ensures.back
