use Rattle.std.proofs.Common.{sym, ◌∙◌}
use Rattle.tree_walk.specs.Trails.{trail_of}
use Rattle.tree_walk.proofs.SeenLemmas.{open_next, open_here, open_done}
use Rattle.tree_walk.proofs.seen.open_end_of.Goals as goal

pub returns-then-seen-at : goal.returns-then-seen-at
returns-then-seen-at g c = sym (open_here (trail_of c.args.seen.now) c.args.levels c.loop-level.level c.loop-level-test.true c.if-seen-at.true) ∙ c.loop-level.invariant

pub loop-level-preserved : goal.loop-level-preserved
loop-level-preserved g c = sym (open_next (trail_of c.args.seen.now) c.args.levels c.loop-level.level c.loop-level-test.true c.if-seen-at.false) ∙ c.loop-level.invariant

pub returns : goal.returns
returns g c = sym (open_done (trail_of c.args.seen.now) c.args.levels c.loop-level.level c.loop-level-test.false) ∙ c.loop-level.invariant
