use Rattle.std.proofs.Common.{◌∙◌, sym}
use Rattle.core_build.proofs.SayLemmas.{built_says, of_work}
use Rattle.core_build.proofs.reserving.reserve_piece.Goals as goal
use Rattle.core_parts.specs.declared.units.Work.TheVariants as works

pub returns-in-Chosen-clause-says : goal.returns-in-Chosen-clause-says
returns-in-Chosen-clause-says g c =
    of_work c.args.unit.now.group c.args.unit.now.unit c.args.unit.now.work (works.Chosen c.in-Chosen.judging) c.begin_with.new.unit.work c.args.kept.now c.begin_with.new.kept c.args.desk.now c.begin_with.new.desk c.begin_with.result (sym c.replace.ensures.value ∙ c.in-Chosen.is) c.begin_with.ensures.says

pub returns-in-Building-clause-says : goal.returns-in-Building-clause-says
returns-in-Building-clause-says g c =
    built_says c.args.unit.now.group c.args.unit.now.unit c.args.unit.now.work c.in-Building.rebuild c.reserve_with.new.unit.work c.args.kept.now c.reserve_with.new.kept c.args.desk.now c.reserve_with.new.desk c.reserve_with.result (sym c.replace.ensures.value ∙ c.in-Building.is) c.reserve_with.ensures.says
