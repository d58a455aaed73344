use Rattle.fsck_core.proofs.OpenLemmas.{fresh_ok}
use Rattle.geom.specs.Places.{layout}
use Rattle.fsck_core.proofs.opened.read_kept.Goals as goal

pub returns-clause-fresh : goal.returns-clause-fresh
returns-clause-fresh g c = fresh_ok (layout c.args.store.now.geo) c.open_groups.result c.open_groups.ensures.begun
