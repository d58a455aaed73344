use Rattle.std.proofs.Common.{◌∷◌, [], Some, refl, arith, inr}
use Rattle.fs_model.specs.declared.entry.Entry.TheVariants as entries
use Rattle.fs_model.specs.declared.event.EventKind.TheVariants as events
use Rattle.script_defs.specs.Words.{named}
use Rattle.script_defs.specs.Journals.{cut_behind, entries_of}
use Rattle.script_defs.specs.Journals.{reply as replied}
use Rattle.script_defs.specs.Fits.{after, asks_at}
use Rattle.test_scripts.specs.Rows.{piece}
use Rattle.test_scripts.proofs.FitLemmas.{created, is_piece}
use Rattle.test_scripts.proofs.rows.stopped_line_fits.Goals as goal

-- as if the next piece had been refused
pub returns : goal.returns
unfolding named cut_behind entries_of after
returns c = (
  created 0,
  (
    replied (entries.Mapped (piece 0 32 3) ∷ []) 3 6 3 (Some (asks_at events.MapFirst 195 3 1)) (Some 195),
    refl,
    record { number = refl; refused = ((omega arith, omega arith), inr refl); does = ((is_piece 0 32 3 (omega arith), omega arith, refl), (omega arith, λ e. absurd (omega (arith, e)), λ e. absurd (omega (arith, e)))) },
  ),
)
