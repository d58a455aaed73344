use Rattle.law_cuts.proofs.Spare.Behind.{chunk_tells, given_tells, refilled_tells, taken_tells, trimmed_tells}
use Rattle.law_cuts.proofs.spare_laws.lists_told_behind.Goals as goal

pub returns-clause-taken : goal.returns-clause-taken
returns-clause-taken c = taken_tells c.lists_told.ensures.taken

pub returns-clause-given : goal.returns-clause-given
returns-clause-given c = given_tells c.lists_told.ensures.given

pub returns-clause-refilled : goal.returns-clause-refilled
returns-clause-refilled c = refilled_tells c.lists_told.ensures.refilled

pub returns-clause-trimmed : goal.returns-clause-trimmed
returns-clause-trimmed c = trimmed_tells c.lists_told.ensures.trimmed

pub returns-clause-chunk : goal.returns-clause-chunk
returns-clause-chunk c = chunk_tells c.lists_told.ensures.chunk
