use Rattle.live_fs.proofs.pieces.first_event.Goals as goal

pub ask_chain-requires-clause-asked : goal.ask_chain-requires-clause-asked
ask_chain-requires-clause-asked g c = c.first_ask-ask.ensures c.args.live.now.origin.geo.agcount
