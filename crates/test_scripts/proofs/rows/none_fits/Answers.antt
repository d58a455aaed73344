use Rattle.std.proofs.Common.{refl, arith}
use Rattle.script_defs.specs.Words.{named}
use Rattle.script_defs.specs.Journals.{cut_behind, entries_of}
use Rattle.script_defs.specs.Fits.{after}
use Rattle.test_scripts.proofs.FitLemmas.{created, is_piece, is_whole}
use Rattle.test_scripts.proofs.rows.none_fits.Goals as goal

pub returns : goal.returns
unfolding named cut_behind entries_of after
returns c = record {
  right = (created 0, (record { number = refl; refused = refl; does = ((is_piece 0 32 4 (omega arith), omega arith, refl), is_whole 4) }, refl));
  twice = λ f. absurd f.1.1;
  half = λ f. absurd (omega (arith, f.1.0.does.1.1 refl));
  place = λ f. absurd (omega (arith, f.1.0.does.0.0.1));
  other = λ f. absurd (omega (arith, f.1.0.does.0.0.0));
  shut = λ f. absurd (omega (arith, f.1.0.refused.0.1));
  more = λ f. absurd (cc (f.1.1));
}
