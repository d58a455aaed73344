use Rattle.std.specs.Prelude.{refl, [], true, Some}
use Rattle.test_changes.proofs.Computing.{computing}
use Rattle.test_changes.proofs.Stands.{stands}
use Rattle.fs_model.specs.declared.entry.Entry.TheVariants as entries
use Rattle.test_changes.specs.Lists.{all_taken, with_chunk}
use Rattle.test_changes.proofs.rows.chunk_made.Goals as goal

pub returns : goal.returns
unfolding computing
returns c = (([], with_chunk, stands all_taken with_chunk (entries.Taken 1 256 5 (Some 32)) (256, (λ g. true, refl, refl, refl, refl), refl, refl) refl, tt, refl), refl, refl, refl, refl, refl)
