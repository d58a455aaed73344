use Rattle.place_apply.proofs.CauseLemmas.{quiet_after}
use Rattle.place_apply.proofs.edits.apply_all.Goals as goal

pub returns-then-is_some-clause-cause : goal.returns-then-is_some-clause-cause
returns-then-is_some-clause-cause g c = quiet_after c.grow.result _ _ c.grow.ensures.quiet c.in_ok-parts.ensures.cause
