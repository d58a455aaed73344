use Rattle.std.proofs.Common.{refl, arith, inl, inr}
use Rattle.script_defs.specs.Words.{named}
use Rattle.script_defs.specs.Journals.{cut_behind, entries_of}
use Rattle.script_defs.specs.Fits.{after}
use Rattle.test_scripts.proofs.FitLemmas.{created, is_piece, is_whole, none_done}
use Rattle.test_scripts.proofs.rows.refused_lines_fit.Goals as goal

pub returns : goal.returns
unfolding named cut_behind entries_of after
returns c = (
  created 0,
  (
    record { number = refl; refused = refl; does = ((is_piece 0 32 2 (omega arith), omega arith, refl), is_whole 2) },
    (
      record { number = refl; refused = ((omega arith, omega arith), inr refl); does = (refl, none_done 2 2 (omega arith) (omega arith)) },
      (
        record { number = refl; refused = ((omega arith, omega arith), inr refl); does = (refl, none_done 3 1 (omega arith) (omega arith)) },
        (
          record { number = refl; refused = ((omega arith, omega arith), inl refl); does = (refl, none_done 1 1 (omega arith) (omega arith)) },
          refl,
        ),
      ),
    ),
  ),
)
