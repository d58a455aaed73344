use Rattle.core_chains.proofs.write.ChainLemmas.{next_is}
use Rattle.core_chains.proofs.write.chains.as_next.Goals as goal

pub returns-clause-next : goal.returns-clause-next
returns-clause-next g c = next_is c.args.chain c.args.intent c.step_kind-next.result c.args.kind c.requires.first c.step_kind-next.ensures (c.is_kind.ensures c.if-not-is_kind.false)
