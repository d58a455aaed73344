use Rattle.meta_txn.proofs.JoinedLaws.{below_with, bytes_at_with, written_with}
use Rattle.meta_txn.proofs.laws.changes_one_block.Goals as goal

pub returns : goal.returns
returns c = record { joined = bytes_at_with; written = written_with; below = below_with }
