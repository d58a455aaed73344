use Rattle.fs_model.specs.declared.fault.Cause.TheVariants as causes
use Rattle.geom.specs.Places.{layout}
use Rattle.core_edit.proofs.OwnedLemmas.{met_over, shows_over}
use Rattle.core_edit.proofs.owners.next_over.Goals as goal

pub returns-in-Ok-clause-over : goal.returns-in-Ok-clause-over
returns-in-Ok-clause-over g c =
    shows_over (layout c.args.store.now.geo) c.args.place.now c.args.run.now c.args.after (g.D.Device.content c.args.store.now.dev) c.in-Ok.found c.told_by.result c.in-Ok.ensures.first c.told_by.ensures

pub returns-in-Bad-clause-over : goal.returns-in-Bad-clause-over
returns-in-Bad-clause-over g c = met_over (layout c.args.store.now.geo) c.args.place.now c.args.run.now c.args.after (g.D.Device.content c.args.store.now.dev) (causes.Block c.in-Bad.block c.in-Bad.fault)
