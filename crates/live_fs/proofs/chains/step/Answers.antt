use Rattle.live_fs.proofs.chains.step.Goals as goal

pub ask_chain-requires-clause-asked : goal.ask_chain-requires-clause-asked
ask_chain-requires-clause-asked g c = c.step_ask-ask.ensures c.args.live.now.origin.geo.agcount
