use Rattle.std.proofs.Common.{◌≡◌, false, subst}
use Rattle.quiet_repair.specs.Ends.{EndsWell, KeepsOrder}
use Rattle.quiet_repair.specs.Refusals.{RefusesAs}
use Rattle.quiet_repair.specs.Sound.{DoesNothing}
use Rattle.quiet_repair.specs.declared.repair.Repair.{Repair}
use Rattle.xscrub.specs.Doors.{RepairLeaves}
use Rattle.xscrub.specs.Repairs.{was_sound}
use Rattle.xscrub.proofs.AloneLemmas.{failed_alone, not_unsound}
use Rattle.xscrub.proofs.repairing.finding_of.Goals as goal

pub returns-in-Refused-clause-count : goal.returns-in-Refused-clause-count
returns-in-Refused-clause-count c = λ now ends is. c.refused.ensures.count 0 now (subst (EndsWell 0 now) c.in-Refused.is ends)

pub returns-in-Ended-clause-device : goal.returns-in-Ended-clause-device
returns-in-Ended-clause-device c = λ before now ends. c.begun.ensures.device before now (subst (EndsWell before now) c.in-Ended.is ends)

pub returns-in-Ended-clause-count : goal.returns-in-Ended-clause-count
returns-in-Ended-clause-count c = λ now ends is. c.begun.ensures.count now (subst (EndsWell 0 now) c.in-Ended.is ends) is

pub returns-in-Ended-clause-units : goal.returns-in-Ended-clause-units
returns-in-Ended-clause-units c = λ plan turns kept. c.begun.ensures.units plan turns (subst (KeepsOrder plan turns) c.in-Ended.is kept)

pub returns-in-Refused-clause-door : goal.returns-in-Refused-clause-door
returns-in-Refused-clause-door c = λ decided m left by leaves. c.refused.ensures.door decided m left (subst (RefusesAs decided) c.in-Refused.is by) (subst (RepairLeaves m left) c.in-Refused.is leaves)

pub returns-in-Ended-clause-door : goal.returns-in-Ended-clause-door
returns-in-Ended-clause-door c = λ decided m left by leaves. c.begun.ensures.door decided m left (subst (RefusesAs decided) c.in-Ended.is by)

pub returns-in-Refused-clause-alone : goal.returns-in-Refused-clause-alone
returns-in-Refused-clause-alone c = λ told nothing. failed_alone told c.refused.result (c.refused.ensures.failed (subst (DoesNothing told) c.in-Refused.is nothing))

pub returns-in-Refused-clause-failed : goal.returns-in-Refused-clause-failed
returns-in-Refused-clause-failed c = λ told nothing not. c.refused.ensures.failed (subst (DoesNothing told) c.in-Refused.is nothing)

pub returns-in-Ended-clause-alone : goal.returns-in-Ended-clause-alone
returns-in-Ended-clause-alone c = λ told nothing. c.begun.ensures.alone told (subst (DoesNothing told) c.in-Ended.is nothing)

pub returns-in-Ended-clause-failed : goal.returns-in-Ended-clause-failed
returns-in-Ended-clause-failed c = λ told nothing not.
    absurd (not_unsound told c.in-Ended.repaired (subst (DoesNothing told) c.in-Ended.is nothing) (subst (λ (r : Repair). was_sound r ≡ false) c.in-Ended.is not))
