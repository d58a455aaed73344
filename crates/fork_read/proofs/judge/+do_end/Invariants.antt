use Rattle.fork_read.proofs.judge.+do_end.Given as goal

abbrev pub decreases-do_end : goal.decreases-do_end
decreases-do_end l = l.levels
