use Rattle.law_writers.proofs.Told.Listed.{chunk_told, given_told, refilled_told, taken_told, trimmed_told}
use Rattle.law_writers.proofs.told_laws.lists_told.Goals as goal

pub returns-clause-taken : goal.returns-clause-taken
returns-clause-taken c = taken_told

pub returns-clause-given : goal.returns-clause-given
returns-clause-given c = given_told

pub returns-clause-refilled : goal.returns-clause-refilled
returns-clause-refilled c = refilled_told

pub returns-clause-trimmed : goal.returns-clause-trimmed
returns-clause-trimmed c = trimmed_told

pub returns-clause-chunk : goal.returns-clause-chunk
returns-clause-chunk c = chunk_told
