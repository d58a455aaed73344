use Rattle.std.proofs.Common.{refl, arith}
use Rattle.script_defs.specs.Words.{named}
use Rattle.script_defs.specs.Journals.{cut_behind, entries_of}
use Rattle.script_defs.specs.Fits.{after}
use Rattle.test_scripts.proofs.FitLemmas.{created, is_piece, is_whole}
use Rattle.test_scripts.proofs.rows.lines_fit.Goals as goal

pub returns : goal.returns
unfolding named cut_behind entries_of after
returns c =
    let first = is_piece 0 32 3 (omega arith) in
    let second = is_piece 3 36 1 (omega arith) in (
      created 1000,
      (
        record { number = refl; refused = refl; does = ((first, omega arith, (second, omega arith, refl)), is_whole 4) },
        (
          record { number = refl; refused = refl; does = ((first, omega arith, (second, omega arith, refl)), is_whole 4) },
          (
            record { number = refl; refused = refl; does = (((refl, refl, refl, refl, omega arith), omega arith, refl), is_whole 2) },
            (
              record { number = refl; refused = refl; does = ((is_piece 8 32 1 (omega arith), omega arith, refl), is_whole 1) },
              (
                record { number = refl; refused = refl; does = (λ h. (refl, omega arith, (refl, omega arith, (refl, omega arith, (refl, refl)))), λ n. absurd (n refl)) },
                refl,
              ),
            ),
          ),
        ),
      ),
    )
