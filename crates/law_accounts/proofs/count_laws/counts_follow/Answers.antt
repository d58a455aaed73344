use Rattle.law_accounts.proofs.Count.Counts.{counts_stay, one_count, stretch_counted}
use Rattle.law_accounts.proofs.Count.Shown.{shown_stay}
use Rattle.law_accounts.proofs.count_laws.counts_follow.Goals as goal

pub returns-clause-stretch : goal.returns-clause-stretch
returns-clause-stretch c = stretch_counted

pub returns-clause-apart : goal.returns-clause-apart
returns-clause-apart c = counts_stay

pub returns-clause-one : goal.returns-clause-one
returns-clause-one c = one_count

pub returns-clause-shown : goal.returns-clause-shown
returns-clause-shown c = shown_stay
