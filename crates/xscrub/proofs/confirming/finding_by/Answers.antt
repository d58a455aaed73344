use Rattle.std.proofs.Common.{◌≡◌, Bool, not, refl, sym, subst}
use Rattle.xscrub.specs.Judged.{IsJudgedClean}
use Rattle.xscrub.specs.Outcome.{repaired_status}
use Rattle.xscrub.specs.declared.ending.Status.TheVariants.{Clean}
use Rattle.xscrub.proofs.SessionLemmas.{checked_session, cut_whole}
use Rattle.xscrub.proofs.SoundLemmas.{clean_by}
use Rattle.xscrub.proofs.confirming.finding_by.Goals as goal

pub returns-in-Ok-clause-units : goal.returns-in-Ok-clause-units
returns-in-Ok-clause-units c = λ plan turns has. checked_session plan turns (not c.is_clean-is_sick.result) c.args.journal.items has

pub returns-in-Ok-clause-clean : goal.returns-in-Ok-clause-clean
returns-in-Ok-clause-clean c = λ clean.
    subst IsJudgedClean (sym c.in-Ok.is) (clean_by c.in-Ok.found c.args.journal.items (subst (λ (b : Bool). repaired_status (not b) c.args.journal.items ≡ Clean) c.is_clean-is_sick.ensures clean))

pub returns-in-Err-Device-clause-units : goal.returns-in-Err-Device-clause-units
returns-in-Err-Device-clause-units c = λ plan turns has. cut_whole plan turns _ 5 c.args.journal.items refl has
