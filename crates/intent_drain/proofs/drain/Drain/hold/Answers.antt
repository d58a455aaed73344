use Rattle.std.proofs.Common.{◌∙◌, ap}
use Rattle.intent_drain.specs.Holds.{holder_in}
use Rattle.intent_drain.proofs.HoldLemmas.{held}
use Rattle.intent_drain.proofs.drain.Drain.hold.Goals as goal

pub returns-clause-exact : goal.returns-clause-exact
returns-clause-exact c = λ i. ap (λ hs. holder_in hs i) c.put_hold.ensures.items ∙ held c.args.self.now.holds.items c.args.ino c.args.holder i c.requires.free
