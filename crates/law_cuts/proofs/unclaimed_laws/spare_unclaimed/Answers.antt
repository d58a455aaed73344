use Rattle.law_cuts.proofs.Unclaimed.Judged.{judged_stay}
use Rattle.law_cuts.proofs.Unclaimed.Unclaimed.{known_unclaimed, told_unclaimed}
use Rattle.law_cuts.proofs.unclaimed_laws.spare_unclaimed.Goals as goal

pub returns-clause-told : goal.returns-clause-told
returns-clause-told c = told_unclaimed c.spare_stays_told.ensures.nobodys

pub returns-clause-known : goal.returns-clause-known
returns-clause-known c = known_unclaimed

pub returns-clause-judged : goal.returns-clause-judged
returns-clause-judged c = judged_stay
