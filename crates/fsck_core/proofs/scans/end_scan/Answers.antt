use Rattle.fsck_core.proofs.scans.end_scan.Goals as goal
use Rattle.fsck_core.specs.Entries.{Says}

pub returns-clause-says : goal.returns-clause-says
unfolding Says
returns-clause-says g c = c.end_in-answer.ensures.says
