use Rattle.std.proofs.lemmas.Result.{IfOk-weaker}
use Rattle.edit_place.proofs.checked.checked.Goals as goal

pub returns-then-known-clause-checked : goal.returns-then-known-clause-checked
returns-then-known-clause-checked g c = IfOk-weaker c.looked.result _ _ (λ draft is given. is (given c.if-known.true)) c.looked.ensures.checked

pub returns-clause-checked : goal.returns-clause-checked
returns-clause-checked g c = IfOk-weaker c.compared.result _ _ (λ draft is given. is) c.compared.ensures.checked
