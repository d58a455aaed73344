use Rattle.std.proofs.Common.{◌∙◌, ap}
use Rattle.intent_drain.specs.Holds.{holder_in}
use Rattle.intent_drain.proofs.HoldLemmas.{let_go_of}
use Rattle.intent_drain.proofs.drain.Drain.let_go.Goals as goal

pub returns-clause-exact : goal.returns-clause-exact
returns-clause-exact c = λ i. ap (λ hs. holder_in hs i) c.leave_hold.ensures.items ∙ let_go_of c.args.self.now.holds.items c.args.ino i
