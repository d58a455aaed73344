use Rattle.std.proofs.Common.{length}
use Rattle.core_files.proofs.shares.shares.+written_piece.Given as goal

abbrev pub decreases-written_piece : goal.decreases-written_piece
decreases-written_piece l = length l.list.now
