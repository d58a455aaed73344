use Rattle.law_writers.proofs.Change.Settled.{other_entries_keep}
use Rattle.law_writers.proofs.change_laws.other_entries_keep.Goals as goal

pub returns : goal.returns
returns c = other_entries_keep
