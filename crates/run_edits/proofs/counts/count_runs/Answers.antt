use Rattle.std.proofs.Common.{◌∙◌}
use Rattle.run_edits.proofs.CountLemmas.{ends_are_runs}
use Rattle.run_edits.proofs.counts.count_runs.Goals as goal

pub returns : goal.returns
returns c = c.count_ends.ensures ∙ ends_are_runs c.args.pieces.now c.requires
