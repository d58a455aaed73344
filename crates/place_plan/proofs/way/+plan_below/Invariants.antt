use Rattle.place_plan.proofs.way.+plan_below.Given as goal

abbrev pub decreases-plan_below : goal.decreases-plan_below
decreases-plan_below g l = l.spot.level
