use Rattle.std.proofs.Common.{subst}
use Rattle.xscrub.specs.Alone.{FindsFailed}
use Rattle.xscrub.specs.Doors.{FindsByDoor}
use Rattle.xscrub.proofs.confirming.confirmed.Goals as goal

pub returns-in-Repaired-clause-door : goal.returns-in-Repaired-clause-door
returns-in-Repaired-clause-door g c = λ decided m left finds. c.confirm_repaired.ensures.door decided m left (subst (FindsByDoor decided m left) c.in-Repaired.is finds)

pub returns-in-Repaired-clause-failed : goal.returns-in-Repaired-clause-failed
returns-in-Repaired-clause-failed g c = λ failed. absurd (subst FindsFailed c.in-Repaired.is failed)
