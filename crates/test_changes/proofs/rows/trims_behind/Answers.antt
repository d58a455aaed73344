use Rattle.std.specs.Prelude.{refl, [], ◌∷◌}
use Rattle.std.proofs.lemmas.Bool.{ltb-true}
use Rattle.fs_model.specs.declared.entry.Entry.TheVariants as entries
use Rattle.fs_model.specs.declared.fault.Cause.TheVariants.{Overlap}
use Rattle.sblock.specs.declared.kind.Kind.TheVariants.{Cnt}
use Rattle.fs_change.specs.Changes.{marked}
use Rattle.fs_change.specs.Choice.{extent}
use Rattle.test_changes.proofs.Computing.{computing}
use Rattle.test_changes.proofs.Stands.{stands}
use Rattle.test_changes.specs.Meets.{stray}
use Rattle.test_changes.proofs.rows.trims_behind.Goals as goal

pub returns : goal.returns
unfolding computing
returns c = (
  (
    [],
    marked 0 Cnt stray,
    stands stray (marked 0 Cnt stray) (entries.Marked 0 Cnt Overlap) (refl, tt, refl) refl,
    record {
      entry = entries.Trimmed (extent 0 52 30);
      before = extent 0 32 19 ∷ [];
      wanted = (ltb-true 64 65 refl, (refl, record { some = ltb-true 0 19 refl; sound = refl; on_list = refl }, tt), record { some = ltb-true 0 30 refl; sound = refl; on_list = refl });
      group = refl;
      asked = refl;
      marks = refl;
      edits = refl;
      explains = refl;
    },
    refl,
  ),
  refl,
  refl,
  refl,
)
