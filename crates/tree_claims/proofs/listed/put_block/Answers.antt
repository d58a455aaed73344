use Rattle.std.proofs.Common.{List, ℕ, ap, ◌∙◌}
use Rattle.tree_claims.specs.Lists.{lists}
use Rattle.tree_claims.proofs.ListLemmas.{lists_put}
use Rattle.tree_claims.proofs.listed.put_block.Goals as goal

pub returns-clause-exact : goal.returns-clause-exact
returns-clause-exact c = λ b. ap (λ (l : List ℕ). lists l b) c.in_ok-push.ensures.items ∙ lists_put c.args.list.now.items c.args.block b
