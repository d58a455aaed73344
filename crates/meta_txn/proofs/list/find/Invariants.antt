use Rattle.std.proofs.Common.{◌≡◌, ◌+◌, length}
use Rattle.redo_area.specs.Area.{bytes_of}
use Rattle.meta_txn.specs.Places.{place, is_there}
use Rattle.meta_txn.proofs.list.find.Given as goal

abbrev pub invariant-loop-number : goal.invariant-loop-number
invariant-loop-number l = record {
  count : l.place + length l.rest ≡ length l.blocks;
  lower : l.place + place l.at (bytes_of l.rest) ≡ place l.at (bytes_of l.blocks);
  there : is_there l.at (bytes_of l.rest) ≡ is_there l.at (bytes_of l.blocks);
}

abbrev pub decreases-loop-number : goal.decreases-loop-number
decreases-loop-number l = length l.rest
