use Rattle.inode_pass.proofs.UnitLemmas.{run_more}
use Rattle.group_trees.proofs.runs.put_run.Goals as goal

pub loop-i-preserved : goal.loop-i-preserved
loop-i-preserved c = run_more c.args.blocks.now.items c.loop-i.blocks.items c.push.new.self.items c.args.run.now.start c.loop-i.i c.loop-i.invariant c.in_ok-push.ensures.items
