use Rattle.std.proofs.Common.{Err, ap}
use Rattle.core_files.proofs.chunks.puts.join_block.Goals as goal

pub returns-in-Err-clause-looks : goal.returns-in-Err-clause-looks
returns-in-Err-clause-looks g c = record {
  same = c.in-Err.ensures.same;
  sizes = c.in-Err.ensures.sizes;
  later = c.in-Err.ensures.later;
  rose = λ told. c.in-Err.ensures.failed (ap Err (c.joins_not.ensures told));
  agreed = c.join.ensures.agrees;
}
