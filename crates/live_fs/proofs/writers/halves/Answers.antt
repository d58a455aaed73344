use Rattle.std.proofs.Common.{sym, subst}
use Rattle.live_fs.proofs.SectionLemmas.{halved}
use Rattle.live_fs.specs.Sections.{SpeaksFor}
use Rattle.live_fs.proofs.writers.halves.Goals as goal

pub split-other-requires-clause-lower : goal.split-other-requires-clause-lower
split-other-requires-clause-lower g c =
    rw c.first_writer-from.ensures (halved c.args.pass.seat.me.0.kept c.args.lower.now c.args.upper.now c.requires.lower c.requires.upper c.requires.speaks).lower

pub split-other-requires-clause-upper : goal.split-other-requires-clause-upper
split-other-requires-clause-upper g c =
    rw c.first_writer-from.ensures (halved c.args.pass.seat.me.0.kept c.args.lower.now c.args.upper.now c.requires.lower c.requires.upper c.requires.speaks).upper

pub returns-clause-lower : goal.returns-clause-lower
returns-clause-lower g c =
    subst (λ k. SpeaksFor k c.args.lower.now) (sym c.split-other.ensures.stays.1)
    (rw c.first_writer-from.ensures (halved c.args.pass.seat.me.0.kept c.args.lower.now c.args.upper.now c.requires.lower c.requires.upper c.requires.speaks).speaks_lower)

pub returns-clause-upper : goal.returns-clause-upper
returns-clause-upper g c =
    subst (λ k. SpeaksFor k c.args.upper.now) (sym c.split-other.ensures.goes.1)
    (rw c.first_writer-from.ensures (halved c.args.pass.seat.me.0.kept c.args.lower.now c.args.upper.now c.requires.lower c.requires.upper c.requires.speaks).speaks_upper)

pub returns-clause-actors : goal.returns-clause-actors
returns-clause-actors g c =
    rw (c.split-other.ensures.stays.1, c.split-other.ensures.goes.1, c.first_writer-from.ensures) (halved c.args.pass.seat.me.0.kept c.args.lower.now c.args.upper.now c.requires.lower c.requires.upper c.requires.speaks).actors
