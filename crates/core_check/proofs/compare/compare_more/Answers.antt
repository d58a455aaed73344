use Rattle.std.proofs.Common.{ap, refl}
use Rattle.core_units.specs.declared.judging.Judging.{Judging}
use Rattle.core_parts.specs.declared.units.Work.TheVariants as works
use Rattle.geom.specs.Places.{layout}
use Rattle.core_check.proofs.CheckLemmas.{leaves_self}
use Rattle.core_check.proofs.EntryLemmas.{err_then, ok_then, put_same, stands_as}
use Rattle.core_check.proofs.compare.compare_more.Goals as goal

pub returns-in-Err-clause-leaves : goal.returns-in-Err-clause-leaves
returns-in-Err-clause-leaves g c =
    leaves_self g.D.Device c.args.desk.now c.args.which.group _ c.requires.usable (c.compare_in.ensures.judging (layout c.args.desk.now.store.geo) c.args.which.group c.requires.judging) tt

pub returns-in-Ok-clause-tells : goal.returns-in-Ok-clause-tells
returns-in-Ok-clause-tells g c =
    ok_then c.compare_on.result.answer
    (λ follows. record { piece = c.in-Ok.faults.items; next = c.compare_in.new.judging; finds = c.in-Ok.ensures.next; follows = follows })
    c.compare_on.ensures.follows

pub returns-in-Ok-clause-stands : goal.returns-in-Ok-clause-stands
returns-in-Ok-clause-stands g c =
    err_then c.compare_on.result.answer
    (stands_as _ (works.Gathered c.args.judging) c.args.desk.now c.compare_on.new.desk c.compare_on.result
    (ap (λ (j : Judging). works.Gathered j) (put_same c.args.judging c.compare_in.new.judging c.in-Ok.ensures.stays)))
    c.compare_on.ensures.stands

pub returns-in-Err-clause-stands : goal.returns-in-Err-clause-stands
returns-in-Err-clause-stands g c = record { items = refl; work = ap (λ (j : Judging). works.Gathered j) c.in-Err.ensures.kept }
