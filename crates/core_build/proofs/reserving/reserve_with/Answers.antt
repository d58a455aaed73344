use Rattle.std.proofs.Common.{sym, subst}
use Rattle.geom.specs.Places.{layout}
use Rattle.core_parts.specs.Safe.{IsWork}
use Rattle.core_parts.specs.declared.units.Work.{Work}
use Rattle.core_build.proofs.WorkLemmas.{left_by, work_fits}
use Rattle.core_build.proofs.SayLemmas.{of_place, piece_from}
use Rattle.core_build.proofs.reserving.reserve_with.Goals as goal

pub returns-clause-left : goal.returns-clause-left
returns-clause-left g c =
    left_by g.D.Device c.args.desk.now c.reserve_one-answer.new.desk c.reserve_one-answer.new.kept c.args.unit.now c.put_work.new.unit c.reserve_one-answer.result c.reserve_one-answer.ensures.answers c.reserve_one-answer.ensures.kept c.put_work.ensures.group c.requires.given.unit.inside
    (subst (λ (w : Work). IsWork (layout c.args.desk.now.store.geo) c.args.unit.now.group w) (sym c.put_work.ensures.work)
    (work_fits (layout c.args.desk.now.store.geo) c.args.unit.now.group c.reserve_one-answer.new.rebuild c.reserve_one-answer.result (c.reserve_one-answer.ensures.keeps.rebuilding (layout c.args.desk.now.store.geo) c.args.unit.now.group c.requires.rebuilding) c.reserve_one-answer.ensures.met))

pub returns-clause-says : goal.returns-clause-says
returns-clause-says g c =
    of_place c.args.unit.now.group c.edit_place-place.result.group c.args.unit.now.unit c.edit_place-place.result.unit c.args.rebuild c.put_work.new.unit.work c.args.kept.now c.reserve_one-answer.new.kept c.args.desk.now c.reserve_one-answer.new.desk c.reserve_one-answer.result
    c.edit_place-place.ensures.group c.edit_place-place.ensures.unit
    (piece_from c.edit_place-place.result.group c.edit_place-place.result.unit c.args.rebuild c.reserve_one-answer.new.rebuild c.put_work.new.unit.work c.args.kept.now c.reserve_one-answer.new.kept c.args.desk.now c.reserve_one-answer.new.desk c.reserve_one-answer.result
    c.put_work.ensures.work c.reserve_one-answer.ensures.says)
