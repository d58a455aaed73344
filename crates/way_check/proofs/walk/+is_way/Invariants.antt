use Rattle.way_check.proofs.walk.+is_way.Given as goal

abbrev pub decreases-is_way : goal.decreases-is_way
decreases-is_way g l = l.spot.level
