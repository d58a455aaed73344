use Rattle.place_apply.proofs.edits.+apply_below.Given as goal

abbrev pub decreases-apply_below : goal.decreases-apply_below
decreases-apply_below g l = l.spot.level
