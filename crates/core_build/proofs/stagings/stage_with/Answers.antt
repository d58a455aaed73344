use Rattle.std.proofs.Common.{sym, subst}
use Rattle.geom.specs.Places.{layout}
use Rattle.core_parts.specs.Safe.{IsWork}
use Rattle.core_parts.specs.declared.units.Work.{Work}
use Rattle.core_build.proofs.WorkLemmas.{left_by, staged_fits}
use Rattle.core_build.proofs.stagings.stage_with.Goals as goal

pub returns-clause-left : goal.returns-clause-left
returns-clause-left g c =
    left_by g.D.Device c.args.desk.now c.stage_one-made.new.desk c.args.kept.now c.args.unit.now c.staged_as.new.unit c.stage_one-made.result c.stage_one-made.ensures.answers c.requires.given.kept c.staged_as.ensures.group c.requires.given.unit.inside
    (subst (λ (w : Work). IsWork (layout c.args.desk.now.store.geo) c.args.unit.now.group w) (sym c.staged_as.ensures.work)
    (staged_fits (layout c.args.desk.now.store.geo) c.args.unit.now.group c.args.reserved.0 c.stage_one-made.new.at c.stage_one-made.result c.requires.reserved c.stage_one-made.ensures.at c.stage_one-made.ensures.limbo))
