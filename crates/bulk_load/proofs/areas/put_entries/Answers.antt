use Rattle.std.proofs.Common.{◌≡◌, ◌+◌, ◌-◌, ◌<◌, ◌≤◌, ℕ, suc, length, refl, sym, ap, ◌∙◌, arith}
use Rattle.std.specs.Prelude.{slice_index}
use Rattle.sblock.specs.Kinds.{node_most_of}
use Rattle.bulk_load.specs.Loaded.{at_level}
use Rattle.bulk_load.specs.Shapes.{IsRow, start}
use Rattle.bulk_load.proofs.AreaLemmas.{entries_more, entry_read, span_at, no_entries, entry_more}
use Rattle.bulk_load.proofs.ShapeLemmas.{row_small, start_on}
use Rattle.bulk_load.proofs.areas.put_entries.Goals as goal

pub overflow_add-child : goal.overflow_add-child
overflow_add-child g c =
    let is : IsRow g.K.RecKind.form.kind (length c.args.list.now) c.args.level c.of_level-row.result = rw (c.kind.ensures, c.number_of.ensures.exact) at c.of_level-row.ensures in
    record { fits = omega (arith, c.from.ensures, c.requires.within, c.loop-e-test.true, is.wide, row_small g.K.RecKind.form.kind (length c.args.list.now) c.args.level c.of_level-row.result c.number_of.ensures.fits c.requires.level is) }

pub offset_bounds-claimed-row : goal.offset_bounds-claimed-row
offset_bounds-claimed-row g c =
    let is : IsRow g.K.RecKind.form.kind (length c.args.list.now) c.args.level c.of_level-row.result = rw (c.kind.ensures, c.number_of.ensures.exact) at c.of_level-row.ensures in
    record { fits = omega (arith, c.from.ensures, c.requires.within, c.loop-e-test.true, is.wide, row_small g.K.RecKind.form.kind (length c.args.list.now) c.args.level c.of_level-row.result c.number_of.ensures.fits c.requires.level is) }

pub bounds-claimed-row : goal.bounds-claimed-row
bounds-claimed-row g c =
    let is : IsRow g.K.RecKind.form.kind (length c.args.list.now) c.args.level c.of_level-row.result = rw (c.kind.ensures, c.number_of.ensures.exact) at c.of_level-row.ensures in
    omega (arith, c.from.ensures, c.requires.within, c.requires.claimed, c.loop-e-test.true, is.wide, is.starts, start_on g.K.RecKind.form.kind (length c.args.list.now) c.args.level)

pub loop-e-init : goal.loop-e-init
loop-e-init g c = record {
  whole = c.requires.whole;
  read = λ e lt. absurd (omega (arith, lt));
  written = sym (no_entries g.K.RecKind.form c.args.list.now c.args.claimed.now c.args.level c.args.first c.args.area.now);
}

pub loop-e-preserved : goal.loop-e-preserved
loop-e-preserved g c =
    let is : IsRow g.K.RecKind.form.kind (length c.args.list.now) c.args.level c.of_level-row.result = rw (c.kind.ensures, c.number_of.ensures.exact) at c.of_level-row.ensures in
    let block : c.args.first + c.from.result ≡ c.args.first + c.loop-e.e = omega (arith, c.from.ensures) in
    let place : c.of_level-row.result.start + (c.args.first + c.from.result) ≡ start g.K.RecKind.form.kind (length c.args.list.now) c.args.level + (c.args.first + c.loop-e.e) = omega (arith, is.starts, c.from.ensures) in
    let leads : slice_index c.args.claimed.now (c.of_level-row.result.start + (c.args.first + c.from.result)) ≡ at_level g.K.RecKind.form.kind (length c.args.list.now) c.args.claimed.now c.args.level (c.args.first + c.loop-e.e) = ap (λ (x : ℕ). slice_index c.args.claimed.now x) place in
    let keys = span_at g.K.RecKind.form c.args.list.now c.args.claimed.now c.args.level (c.args.first + c.from.result) (c.args.first + c.loop-e.e) c.keys_below-span.result block c.keys_below-span.ensures in
    record {
      whole = omega (arith, c.put_entry.auto.area, c.loop-e.invariant.whole);
      read = entries_more g.K.RecKind.form c.args.list.now c.args.claimed.now c.args.level c.args.first c.loop-e.e (node_most_of g.K.RecKind.form.kind) c.loop-e.area c.put_entry.new.area (omega (arith, c.loop-e-test.true, c.requires.room))
          c.put_entry.ensures.low c.put_entry.ensures.high c.put_entry.ensures.pointers
          (entry_read g.K.RecKind.form c.args.list.now c.args.claimed.now c.args.level c.args.first c.loop-e.e (slice_index c.args.claimed.now (c.of_level-row.result.start + (c.args.first + c.from.result))) c.put_entry.new.area c.keys_below-span.result keys leads
          c.put_entry.ensures.child c.put_entry.ensures.keys) c.loop-e.invariant.read;
      written = entry_more g.K.RecKind.form c.args.list.now c.args.claimed.now c.args.level c.args.first c.loop-e.e (slice_index c.args.claimed.now (c.of_level-row.result.start + (c.args.first + c.from.result))) c.args.area.now c.loop-e.area c.put_entry.new.area c.keys_below-span.result c.loop-e.invariant.written keys leads c.put_entry.ensures.written;
    }
