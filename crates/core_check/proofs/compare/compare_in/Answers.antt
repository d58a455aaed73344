use Rattle.core_check.proofs.EntryLemmas.{next_of}
use Rattle.core_check.proofs.compare.compare_in.Goals as goal

pub returns-clause-next : goal.returns-clause-next
returns-clause-next c =
    next_of c.args.kept c.args.heads.now c.in_ok-heads.heads c.args.judging.now c.compare_piece.new.judging c.compare_piece.result c.in_ok-heads.ensures.listed c.compare_piece.ensures.stays c.compare_piece.ensures.exact c.compare_piece.ensures.counted
