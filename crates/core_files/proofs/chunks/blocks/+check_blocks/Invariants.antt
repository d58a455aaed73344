use Rattle.core_files.proofs.chunks.blocks.+check_blocks.Given as goal

abbrev pub decreases-check_blocks : goal.decreases-check_blocks
decreases-check_blocks g l = l.left
