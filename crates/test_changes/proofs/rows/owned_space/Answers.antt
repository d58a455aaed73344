use Rattle.std.specs.Prelude.{refl, [], true, None}
use Rattle.test_changes.proofs.Computing.{computing}
use Rattle.test_changes.proofs.Stands.{stands}
use Rattle.fs_model.specs.declared.entry.Entry.TheVariants as entries
use Rattle.std.proofs.lemmas.Bool.{ltb-true}
use Rattle.fs_model.specs.declared.fault.Cause.TheVariants.{Owner}
use Rattle.std.proofs.Common.{inl}
use Rattle.sblock.specs.declared.kind.Kind.TheVariants.{Bno, Cnt}
use Rattle.fs_change.specs.Changes.{marked, taken}
use Rattle.fs_change.specs.Choice.{extent}
use Rattle.test_changes.specs.Refused.{owned_before, both_marked}
use Rattle.test_changes.proofs.rows.owned_space.Goals as goal

pub returns : goal.returns
unfolding computing
returns c = (([], taken 0 195 195 7 None owned_before, stands owned_before (taken 0 195 195 7 None owned_before) (entries.Taken 1 195 7 None) (195, (λ g. true, refl, (0, ltb-true 0 1 refl, refl), refl, refl), refl, refl) refl, tt, ([], marked 0 Bno (taken 0 195 195 7 None owned_before), stands (taken 0 195 195 7 None owned_before) (marked 0 Bno (taken 0 195 195 7 None owned_before)) (entries.Marked 0 Bno Owner) (refl, tt, refl) refl, record { gates = λ g. true; run = extent 0 19 3; choice = inl (3, 195, refl); group = refl; some = ltb-true 0 3 refl; owned = refl }, ((refl, refl, tt), both_marked, stands (marked 0 Bno (taken 0 195 195 7 None owned_before)) both_marked (entries.Marked 0 Cnt Owner) (refl, tt, refl) refl, refl))), refl, refl, refl, refl)
