use Rattle.std.specs.Prelude.{◌++◌, map}
use Rattle.core_check.specs.Entries.{verdict_by}
use Rattle.core_check.specs.Told.{entry_of}
use Rattle.core_check.proofs.EntryLemmas.{follows_of, told_more}
use Rattle.core_check.proofs.KnownLemmas.{known_append, known_by_more}
use Rattle.core_check.proofs.compare.enter_piece.Goals as goal

pub returns-clause-follows : goal.returns-clause-follows
returns-clause-follows g c =
    follows_of c.args.which c.args.judging c.args.faults.now c.args.desk.now c.tell_faults.new.desk c.decide.new.desk c.decide.result c.outcome_of-outcome.result c.outcome_of-outcome.ensures c.tell_faults.ensures.told.items c.decide.ensures.entries c.decide.ensures.work c.decide.ensures.answer

pub returns-clause-known : goal.returns-clause-known
returns-clause-known g c =
    let which = c.args.which in
    let told = map (entry_of which.group which.unit) c.args.faults.now in
    let verdict = verdict_by which.group which.unit c.outcome_of-outcome.result in
    known_by_more c.args.desk.now c.decide.new.desk (told ++ verdict) c.args.kept.now c.decide.new.kept
    (told_more c.args.desk.now c.tell_faults.new.desk c.decide.new.desk told verdict c.tell_faults.ensures.told.items c.decide.ensures.entries)
    (known_append told verdict c.args.kept.now c.tell_faults.new.kept c.decide.new.kept c.tell_faults.ensures.known c.decide.ensures.known)
