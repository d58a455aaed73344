use Rattle.std.proofs.Common.{sym}
use Rattle.core_parts.specs.declared.units.Work.TheVariants as works
use Rattle.core_check.proofs.EntryLemmas.{err_then, ok_then, stands_as}
use Rattle.core_check.proofs.compare.compare_work.Goals as goal

pub returns-in-Gathered-clause-tells : goal.returns-in-Gathered-clause-tells
returns-in-Gathered-clause-tells g c =
    ok_then c.compare_more.result.answer (λ tells. record { was = c.in-Gathered.judging; gathered = c.in-Gathered.is; tells = tells }) c.compare_more.ensures.tells

pub returns-in-Gathered-clause-stands : goal.returns-in-Gathered-clause-stands
returns-in-Gathered-clause-stands g c =
    err_then c.compare_more.result.answer
    (stands_as (works.Gathered c.in-Gathered.judging) c.args.work c.args.desk.now c.compare_more.new.desk c.compare_more.result (sym c.in-Gathered.is))
    c.compare_more.ensures.stands
