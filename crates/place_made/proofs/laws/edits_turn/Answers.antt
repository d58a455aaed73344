use Rattle.place_made.proofs.MadeLemmas.{made_turns_lem}
use Rattle.place_made.proofs.laws.edits_turn.Goals as goal

pub returns : goal.returns
returns g c = made_turns_lem g.K.RecKind.form g.met.K.RecKind.lawful c.args.site.now c.args.frame.now
