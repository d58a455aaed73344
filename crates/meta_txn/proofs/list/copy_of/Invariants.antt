use Rattle.std.proofs.Common.{◌≡◌, length}
use Rattle.redo_area.specs.Area.{bytes_of}
use Rattle.meta_txn.specs.Joined.{bytes_at}
use Rattle.meta_txn.proofs.list.copy_of.Given as goal

abbrev pub invariant-loop-number : goal.invariant-loop-number
invariant-loop-number l = bytes_at l.at (bytes_of l.rest) ≡ bytes_at l.at (bytes_of l.blocks)

abbrev pub decreases-loop-number : goal.decreases-loop-number
decreases-loop-number l = length l.rest
