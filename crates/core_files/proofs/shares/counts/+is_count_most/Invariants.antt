use Rattle.core_files.proofs.shares.counts.+is_count_most.Given as goal

abbrev pub decreases-is_count_most : goal.decreases-is_count_most
decreases-is_count_most g l = l.left
