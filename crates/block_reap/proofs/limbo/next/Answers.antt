use Rattle.block_reap.proofs.NextLemmas.{if_next, if_none}
use Rattle.block_reap.proofs.limbo.next.Goals as goal

pub returns : goal.returns
returns c = record {
  value = c.first_run.ensures;
  exact = λ limbo. if_next c.args.limbo.now c.first_run.result c.first_run.ensures limbo;
  none = if_none c.args.limbo.now c.first_run.result c.first_run.ensures;
}
