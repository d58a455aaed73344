use Rattle.place_apply.proofs.look.look.Goals as goal

pub returns-in-Some-clause-cause : goal.returns-in-Some-clause-cause
returns-in-Some-clause-cause g c = c.tested.ensures.quiet (g.B.Blocks.faults c.args.blocks.now)
