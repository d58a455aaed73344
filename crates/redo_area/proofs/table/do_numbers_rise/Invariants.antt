use Rattle.std.proofs.Common.{◌≡◌, ◌+◌, ◌*◌, drop}
use Rattle.redo_area.specs.Table.{numbers, rises}
use Rattle.redo_area.proofs.table.do_numbers_rise.Given as goal

abbrev pub invariant-loop-left : goal.invariant-loop-left
invariant-loop-left l = record {
  room : l.at + 8 * l.left ≡ 16 + 8 * l.count;
  same : rises l.least l.size (numbers l.left (drop l.at l.bytes)) ≡ rises 0 l.size (numbers l.count (drop 16 l.bytes));
}

abbrev pub decreases-loop-left : goal.decreases-loop-left
decreases-loop-left l = l.left
