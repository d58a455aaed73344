use Rattle.std.proofs.Common.{◌≡◌, ◌+◌, ◌-◌, ◌<◌, ◌≤◌, ℕ, suc, length, refl, sym, ◌∙◌, arith}
use Rattle.bulk_load.proofs.ShapeLemmas.{level_small, first_step}
use Rattle.bulk_load.proofs.keys.keys_below.Goals as goal

pub overflow_add-i : goal.overflow_add-i
overflow_add-i g c = record { fits = omega (arith, c.requires.within, level_small g.K.RecKind.form.kind (length c.args.list.now) c.args.level c.number_of-records.ensures.fits c.requires.level) }

pub part-requires-clause-order : goal.part-requires-clause-order
part-requires-clause-order g c =
    omega (
      arith,
      rw (c.kind.ensures, c.number_of-records.ensures.exact) at c.first_record-from.ensures.exact,
      rw (c.kind-2.ensures, c.number_of-records.ensures.exact) at c.first_record-to.ensures.exact,
      first_step g.K.RecKind.form.kind (length c.args.list.now) c.args.level c.args.i,
    )
