use Rattle.std.proofs.Common.{sym, subst}
use Rattle.live_fs.proofs.SectionLemmas.{writers_cut}
use Rattle.live_fs.specs.Sections.{SpeaksFor}
use Rattle.live_fs.proofs.sessions.split_off.Goals as goal

pub split-other-requires-clause-lower : goal.split-other-requires-clause-lower
split-other-requires-clause-lower g c = (writers_cut c.args.pass.seat.me.0.kept c.args.sections.now c.requires.speaks c.requires.sections).lower

pub split-other-requires-clause-upper : goal.split-other-requires-clause-upper
split-other-requires-clause-upper g c = (writers_cut c.args.pass.seat.me.0.kept c.args.sections.now c.requires.speaks c.requires.sections).upper

pub returns-clause-upper : goal.returns-clause-upper
returns-clause-upper g c =
    subst (λ k. SpeaksFor k c.args.sections.now) (sym c.split-other.ensures.goes.1) (writers_cut c.args.pass.seat.me.0.kept c.args.sections.now c.requires.speaks c.requires.sections).speaks_upper

pub returns-clause-actors : goal.returns-clause-actors
returns-clause-actors g c =
    rw (c.split-other.ensures.stays.1, c.split-other.ensures.goes.1) (writers_cut c.args.pass.seat.me.0.kept c.args.sections.now c.requires.speaks c.requires.sections).actors
