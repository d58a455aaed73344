use Rattle.core_files.proofs.maps.choices.+hunt_groups.Given as goal

abbrev pub decreases-hunt_groups : goal.decreases-hunt_groups
decreases-hunt_groups g l = l.left
