use Rattle.std.proofs.Common.{refl}
use Rattle.core_build.proofs.SayLemmas.{judged_says, memory_of, memory_on, reserving_exit}
use Rattle.core_build.proofs.WorkLemmas.{left_same}
use Rattle.core_build.proofs.reserving.begin_with.Goals as goal
use Rattle.core_parts.specs.declared.units.Work.TheVariants as works

pub returns-in_err-rebuild-clause-left : goal.returns-in_err-rebuild-clause-left
returns-in_err-rebuild-clause-left g c = left_same g.D.Device c.args.desk.now c.args.kept.now c.args.unit.now c.requires.given

pub returns-in_err-rebuild-clause-says : goal.returns-in_err-rebuild-clause-says
returns-in_err-rebuild-clause-says g c =
    reserving_exit c.args.unit.now.group c.args.unit.now.unit (works.Chosen c.args.judging) c.args.unit.now.work c.args.kept.now c.args.kept.now c.args.desk.now c.args.desk.now c.in_err-rebuild.field-0.0 c.from_residual.result c.from_residual.ensures
    (memory_of (works.Chosen c.args.judging) c.args.kept.now c.in_err-rebuild.field-0.0 c.in_err-rebuild.ensures.memory)
    (memory_on c.args.desk.now c.args.desk.now c.args.unit.now.group c.args.unit.now.unit c.in_err-rebuild.field-0.0 c.in_err-rebuild.ensures.memory refl)

pub returns-clause-says : goal.returns-clause-says
returns-clause-says g c =
    judged_says c.args.unit.now.group c.args.unit.now.unit c.args.judging c.in_ok-rebuild.rebuild c.reserve_with.new.unit.work c.args.kept.now c.reserve_with.new.kept c.args.desk.now c.reserve_with.new.desk c.reserve_with.result c.in_ok-rebuild.ensures.unit c.reserve_with.ensures.says
