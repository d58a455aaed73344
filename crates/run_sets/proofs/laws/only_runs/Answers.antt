use Rattle.run_sets.proofs.OnlyRunsLemmas.{only_runs_below, runs_if_only}
use Rattle.run_sets.proofs.laws.only_runs.Goals as goal

pub returns : goal.returns
returns c p length runs = (only_runs_below p length runs, runs_if_only p length runs)
