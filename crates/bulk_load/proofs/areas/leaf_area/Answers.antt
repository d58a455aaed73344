use Rattle.std.proofs.Common.{◌≡◌, ◌+◌, ◌-◌, ◌<◌, ◌≤◌, ℕ, suc, length, refl, sym, ◌∙◌, arith}
use Rattle.bulk_load.proofs.ShapeLemmas.{level_small, first_step, leaf_step, leaf_count_most}
use Rattle.bulk_load.proofs.AreaLemmas.{leaf_told}
use Rattle.bulk_load.proofs.areas.leaf_area.Goals as goal

pub overflow_add-i : goal.overflow_add-i
overflow_add-i g c = record { fits = omega (arith, c.requires, level_small g.K.RecKind.form.kind (length c.args.list.now) 0 c.number_of-records.ensures.fits (λ j lt. absurd (omega (arith, lt)))) }

pub part-requires-clause-order : goal.part-requires-clause-order
part-requires-clause-order g c =
    omega (
      arith,
      rw (c.kind.ensures, c.number_of-records.ensures.exact) at c.first_record-from.ensures.exact,
      rw (c.kind-2.ensures, c.number_of-records.ensures.exact) at c.first_record-to.ensures.exact,
      first_step g.K.RecKind.form.kind (length c.args.list.now) 0 c.args.i,
    )

pub put_records-requires-clause-room : goal.put_records-requires-clause-room
put_records-requires-clause-room g c =
    omega (
      arith,
      rw (c.kind.ensures, c.number_of-records.ensures.exact) at c.first_record-from.ensures.exact,
      rw (c.kind-2.ensures, c.number_of-records.ensures.exact) at c.first_record-to.ensures.exact,
      c.part.ensures.long,
      leaf_step g.K.RecKind.form.kind (length c.args.list.now) c.args.i,
      leaf_count_most g.K.RecKind.form.kind (length c.args.list.now) c.args.i,
    )

pub returns-clause-exact : goal.returns-clause-exact
returns-clause-exact g c claimed =
    leaf_told g.K.RecKind.form c.args.list.now claimed c.args.i c.first_record-from.result c.first_record-to.result c.part.result.now c.blank_area-area.result c.put_records.new.area
    (rw (c.kind.ensures, c.number_of-records.ensures.exact) at c.first_record-from.ensures.exact) (rw (c.kind-2.ensures, c.number_of-records.ensures.exact) at c.first_record-to.ensures.exact) c.part.ensures.exact c.blank_area-area.ensures c.put_records.ensures.exact
