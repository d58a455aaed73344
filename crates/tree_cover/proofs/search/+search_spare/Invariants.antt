use Rattle.tree_cover.proofs.search.+search_spare.Given as goal

abbrev pub decreases-search_spare : goal.decreases-search_spare
decreases-search_spare g l = l.level
