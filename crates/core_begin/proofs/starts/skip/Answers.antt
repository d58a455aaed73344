use Rattle.core_begin.proofs.starts.skip.Goals as goal
use Rattle.core_parts.proofs.common.EntryLemmas.{room_more}
use Rattle.core_begin.proofs.StartLemmas.{room_bars}
use Rattle.std.specs.Prelude.{Some}

pub returns-in-Err-clause-entries : goal.returns-in-Err-clause-entries
returns-in-Err-clause-entries g c =
    room_more c.args.desk.now c.say_verdict.new.desk c.args.group c.args.unit c.in-Err.fault c.in-Err.ensures.unsaid c.in-Err.ensures.wants

pub returns-in-Err-clause-bars : goal.returns-in-Err-clause-bars
returns-in-Err-clause-bars g c = room_bars (Some c.args.needed) c.in-Err.fault c.in-Err.ensures.wants
