use Rattle.std.proofs.Common.{◌≡◌, ◌≤◌, ◌+◌, ◌*◌, length}
use Rattle.redo_area.specs.Table.{places, put_numbers}
use Rattle.redo_area.proofs.table.write_numbers.Given as goal

abbrev pub invariant-loop-number : goal.invariant-loop-number
invariant-loop-number l = record {
  room : l.at + 8 * length l.rest ≤ length l.bytes;
  written : put_numbers (places l.rest) l.at l.bytes ≡ put_numbers (places l.batch) 16 l.initial.bytes;
}

abbrev pub decreases-loop-number : goal.decreases-loop-number
decreases-loop-number l = length l.rest
