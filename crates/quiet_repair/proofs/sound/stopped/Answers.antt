use Rattle.std.proofs.Common.{ap}
use Rattle.quiet_repair.proofs.AloneLemmas.{halted_unsound, is_late}
use Rattle.quiet_repair.proofs.sound.stopped.Goals as goal

pub returns-in-Head-clause-sound : goal.returns-in-Head-clause-sound
returns-in-Head-clause-sound c = λ checked meets. halted_unsound checked c.args.stop.cause c.args.stop.journal.items (ap is_late c.in-Head.is) meets

pub returns-clause-sound : goal.returns-clause-sound
returns-clause-sound c = λ checked meets. halted_unsound checked c.args.stop.cause c.args.stop.journal.items (ap is_late c.in-Full.is) meets
