use Rattle.std.proofs.Common.{◌≡◌, ◌+◌, ◌-◌, ◌≤◌, take, length}
use Rattle.blk_device.specs.Taken.{IsSpent}
use Rattle.script_read.specs.Reading.{IsInside, IsRead, sheet_of}
use Rattle.script_read.proofs.ShapeLemmas.{ReadsRightly}
use Rattle.script_read.proofs.read.read_script.Given as goal

abbrev pub invariant-loop-n : goal.invariant-loop-n
invariant-loop-n g l = record {
  inside : IsInside l.reader;
  size : length l.piece ≡ 4096;
  bound : l.n ≤ 4096;
  room : l.reader.taken + l.n ≤ 4194305;
  read : IsRead (take l.n l.piece) (sheet_of l.reader) (g.S.Source.bytes_left l.fn.src) (g.S.Source.bytes_left l.src);
  shape : ReadsRightly (sheet_of l.reader);
  end : l.n ≡ 0 → IsSpent (g.S.Source.bytes_left l.src);
  faults : g.S.Source.source_faults l.src ≡ g.S.Source.source_faults l.fn.src;
}

abbrev pub decreases-loop-n : goal.decreases-loop-n
decreases-loop-n g l = 4194305 - l.reader.taken
