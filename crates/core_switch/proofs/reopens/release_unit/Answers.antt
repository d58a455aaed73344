use Rattle.geom.specs.Places.{layout}
use Rattle.core_switch.proofs.reopens.release_unit.Goals as goal

pub release_one-requires-clause-steady : goal.release_one-requires-clause-steady
release_one-requires-clause-steady g c =
    c.in-Some.ensures.steady (layout c.args.desk.now.store.geo) c.args.unit.now.group c.requires.unit.work
