use Rattle.std.proofs.Common.{◌≡◌, ◌+◌, ◌-◌, ◌<◌, ◌≤◌, ℕ, suc, length, refl, sym, ◌∙◌, arith}
use Rattle.bulk_load.specs.Shapes.{IsRow, share, count, begin}
use Rattle.bulk_load.proofs.AreaLemmas.{entries_are, node_told}
use Rattle.bulk_load.proofs.ShapeLemmas.{few_levels, row_share, row_first, count_most, node_count_most, children_within}
use Rattle.bulk_load.proofs.areas.node_area.Goals as goal

pub overflow_add-level : goal.overflow_add-level
overflow_add-level g c = record { fits = omega (arith, few_levels g.K.RecKind.form.kind (length c.args.list.now) (suc c.args.level) c.number_of.ensures.fits c.requires.level) }

pub share-requires-clause-fits : goal.share-requires-clause-fits
share-requires-clause-fits g c =
    let e : c.args.level + 1 ≡ suc c.args.level = omega arith in
    let is : IsRow g.K.RecKind.form.kind (length c.args.list.now) (suc c.args.level) c.of_level-row.result = rw (c.kind.ensures, c.number_of.ensures.exact, e) at c.of_level-row.ensures in
    let s : share c.of_level-row.result.items c.of_level-row.result.width c.args.i ≡ count g.K.RecKind.form.kind (length c.args.list.now) (suc c.args.level) c.args.i = (row_share g.K.RecKind.form.kind (length c.args.list.now) (suc c.args.level) c.args.i c.of_level-row.result is).1 in
    omega (arith, s, count_most g.K.RecKind.form.kind (length c.args.list.now) (suc c.args.level) c.args.i)

pub overflow_cast-share : goal.overflow_cast-share
overflow_cast-share g c =
    let e : c.args.level + 1 ≡ suc c.args.level = omega arith in
    let is : IsRow g.K.RecKind.form.kind (length c.args.list.now) (suc c.args.level) c.of_level-row.result = rw (c.kind.ensures, c.number_of.ensures.exact, e) at c.of_level-row.ensures in
    let s : share c.of_level-row.result.items c.of_level-row.result.width c.args.i ≡ count g.K.RecKind.form.kind (length c.args.list.now) (suc c.args.level) c.args.i = (row_share g.K.RecKind.form.kind (length c.args.list.now) (suc c.args.level) c.args.i c.of_level-row.result is).1 in
    record { fits = omega (arith, c.share.ensures, s, count_most g.K.RecKind.form.kind (length c.args.list.now) (suc c.args.level) c.args.i) }

pub put_entries-requires-clause-room : goal.put_entries-requires-clause-room
put_entries-requires-clause-room g c =
    let e : c.args.level + 1 ≡ suc c.args.level = omega arith in
    let is : IsRow g.K.RecKind.form.kind (length c.args.list.now) (suc c.args.level) c.of_level-row.result = rw (c.kind.ensures, c.number_of.ensures.exact, e) at c.of_level-row.ensures in
    let s : share c.of_level-row.result.items c.of_level-row.result.width c.args.i ≡ count g.K.RecKind.form.kind (length c.args.list.now) (suc c.args.level) c.args.i = (row_share g.K.RecKind.form.kind (length c.args.list.now) (suc c.args.level) c.args.i c.of_level-row.result is).1 in
    omega (arith, c.share.ensures, s, node_count_most g.K.RecKind.form.kind (length c.args.list.now) c.args.level c.args.i)

pub put_entries-requires-clause-within : goal.put_entries-requires-clause-within
put_entries-requires-clause-within g c =
    let e : c.args.level + 1 ≡ suc c.args.level = omega arith in
    let is : IsRow g.K.RecKind.form.kind (length c.args.list.now) (suc c.args.level) c.of_level-row.result = rw (c.kind.ensures, c.number_of.ensures.exact, e) at c.of_level-row.ensures in
    let s : share c.of_level-row.result.items c.of_level-row.result.width c.args.i ≡ count g.K.RecKind.form.kind (length c.args.list.now) (suc c.args.level) c.args.i = (row_share g.K.RecKind.form.kind (length c.args.list.now) (suc c.args.level) c.args.i c.of_level-row.result is).1 in
    omega (arith, c.share.ensures, s, c.first.ensures.exact, row_first g.K.RecKind.form.kind (length c.args.list.now) (suc c.args.level) c.args.i c.of_level-row.result is, children_within g.K.RecKind.form.kind (length c.args.list.now) c.args.level c.args.i c.requires.within)

pub returns-clause-has : goal.returns-clause-has
returns-clause-has g c =
    let e : c.args.level + 1 ≡ suc c.args.level = omega arith in
    let is : IsRow g.K.RecKind.form.kind (length c.args.list.now) (suc c.args.level) c.of_level-row.result = rw (c.kind.ensures, c.number_of.ensures.exact, e) at c.of_level-row.ensures in
    let s : share c.of_level-row.result.items c.of_level-row.result.width c.args.i ≡ count g.K.RecKind.form.kind (length c.args.list.now) (suc c.args.level) c.args.i = (row_share g.K.RecKind.form.kind (length c.args.list.now) (suc c.args.level) c.args.i c.of_level-row.result is).1 in
    entries_are g.K.RecKind.form c.args.list.now c.args.claimed.now c.args.level c.args.i c.first.result c.share.result c.put_entries.new.area
    (c.first.ensures.exact ∙ row_first g.K.RecKind.form.kind (length c.args.list.now) (suc c.args.level) c.args.i c.of_level-row.result is) (c.share.ensures ∙ s) c.put_entries.ensures.read

pub returns-clause-exact : goal.returns-clause-exact
returns-clause-exact g c =
    let e : c.args.level + 1 ≡ suc c.args.level = omega arith in
    let is : IsRow g.K.RecKind.form.kind (length c.args.list.now) (suc c.args.level) c.of_level-row.result = rw (c.kind.ensures, c.number_of.ensures.exact, e) at c.of_level-row.ensures in
    let s : share c.of_level-row.result.items c.of_level-row.result.width c.args.i ≡ count g.K.RecKind.form.kind (length c.args.list.now) (suc c.args.level) c.args.i = (row_share g.K.RecKind.form.kind (length c.args.list.now) (suc c.args.level) c.args.i c.of_level-row.result is).1 in
    node_told g.K.RecKind.form c.args.list.now c.args.claimed.now c.args.level c.args.i c.first.result c.share.result c.blank_area-area.result c.put_entries.new.area
    (c.first.ensures.exact ∙ row_first g.K.RecKind.form.kind (length c.args.list.now) (suc c.args.level) c.args.i c.of_level-row.result is) (c.share.ensures ∙ s) c.blank_area-area.ensures c.put_entries.ensures.written
