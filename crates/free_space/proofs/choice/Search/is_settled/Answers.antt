use Rattle.std.proofs.Common.{◌∙◌, ap, is_some, sym}
use Rattle.free_space.proofs.ChoiceLemmas.{settled}
use Rattle.free_space.proofs.choice.Search.is_settled.Goals as goal

pub returns-clause-exact : goal.returns-clause-exact
returns-clause-exact c = λ wanted gs h. c.is_some.ensures ∙ ap (λ fit. is_some fit) h.fit

pub returns-clause-settled : goal.returns-clause-settled
returns-clause-settled c = λ wanted gs more h t. settled wanted gs more c.args.self.now h (sym c.is_some.ensures ∙ t)
