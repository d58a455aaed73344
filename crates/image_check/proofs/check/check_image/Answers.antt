use Rattle.tree_blocks.proofs.ReadingLemmas.{told}
use Rattle.image_check.proofs.check.check_image.Goals as goal

pub returns-in-Ok-clause-exact : goal.returns-in-Ok-clause-exact
returns-in-Ok-clause-exact g c = told (g.D.Device.content c.args.dev.now) _ (λ m e. c.in-Ok.ensures.exact m e)

pub returns-clause-exact : goal.returns-clause-exact
returns-clause-exact g c = told (g.D.Device.content c.args.dev.now) _ (λ m e. c.in-Err.ensures.exact m e)

pub returns-in-Ok-clause-kept : goal.returns-in-Ok-clause-kept
returns-in-Ok-clause-kept g c = told (g.D.Device.content c.args.dev.now) _ (λ m e. c.check_into.ensures.kept m e)

pub returns-clause-kept : goal.returns-clause-kept
returns-clause-kept g c = told (g.D.Device.content c.args.dev.now) _ (λ m e. c.check_into.ensures.kept m e)
