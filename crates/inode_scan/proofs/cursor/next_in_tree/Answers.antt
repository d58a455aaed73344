use Rattle.std.proofs.Common.{Ok, arith, sym, ap, ◌∙◌}
use Rattle.std.proofs.lemmas.Result.{err_from_is_err_and}
use Rattle.blk_device.specs.declared.device.Region.TheVariants.{Image}
use Rattle.geom.specs.Places.{layout}
use Rattle.tree_blocks.proofs.ReadingLemmas.{told, each_told}
use Rattle.inode_scan.proofs.CursorLemmas.{count_none, count_one, going_reads, none_reads, has_place, range_of, start_is, all_passed, told_none, told_some, told_fault}
use Rattle.inode_scan.proofs.cursor.next_in_tree.Goals as goal

pub returns-in_default-clause-exact : goal.returns-in_default-clause-exact
returns-in_default-clause-exact g c =
    told (g.D.Device.content c.args.dev.now) _
    (λ m e. all_passed (layout c.args.geo.now) (m Image) c.args.at c.args.tree.now c.first_number-first.result c.numbers_in-end.result c.first_number-first.ensures.value c.numbers_in-end.ensures (sym c.in_default.is ∙ c.start_in.ensures))

pub overflow_add-result : goal.overflow_add-result
overflow_add-result g c =
    let low = c.first_number-first.ensures.fits in
    let small = range_of c.in-Some.from c.numbers_in-end.result c.in-Some-found.number c.in_ok-found.found c.in-Some-found.is c.in_ok-found.ensures.range in
    omega (arith, low, small.1)

pub returns-in_default-found-clause-exact : goal.returns-in_default-found-clause-exact
returns-in_default-found-clause-exact g c =
    told (g.D.Device.content c.args.dev.now) _
    (λ m e. told_none (layout c.args.geo.now) (m Image) c.args.at c.args.tree.now c.first_number-first.result c.numbers_in-end.result c.first_number-first.ensures.value c.numbers_in-end.ensures c.in-Some.from (sym c.in-Some.is ∙ c.start_in.ensures)
    (each_told (g.D.Device.content c.args.dev.now) _ m c.in_ok-found.ensures.exact e ∙ ap Ok c.in_default-found.is))

pub returns-clause-exact : goal.returns-clause-exact
returns-clause-exact g c =
    told (g.D.Device.content c.args.dev.now) _
    (λ m e. told_some (layout c.args.geo.now) (m Image) c.args.at c.args.tree.now c.first_number-first.result c.numbers_in-end.result c.first_number-first.ensures.value c.numbers_in-end.ensures c.in-Some.from (sym c.in-Some.is ∙ c.start_in.ensures) c.in-Some-found.number c.from.result c.from.ensures
    (each_told (g.D.Device.content c.args.dev.now) _ m c.in_ok-found.ensures.exact e ∙ ap Ok c.in-Some-found.is))

pub returns-clause-above : goal.returns-clause-above
returns-clause-above g c =
    let from = start_is c.args.at c.first_number-first.result c.numbers_in-end.result c.in-Some.from (sym c.in-Some.is ∙ c.start_in.ensures) in
    let least = range_of c.in-Some.from c.numbers_in-end.result c.in-Some-found.number c.in_ok-found.found c.in-Some-found.is c.in_ok-found.ensures.range in
    omega (arith, from, least.0)

pub returns-in_err-found-clause-exact : goal.returns-in_err-found-clause-exact
returns-in_err-found-clause-exact g c =
    let p = err_from_is_err_and c.from_residual.result c.from_residual.ensures.1 in
    rw (p.1, p.2) (told (g.D.Device.content c.args.dev.now) _
    (λ m e. told_fault (layout c.args.geo.now) (m Image) c.args.at c.args.tree.now c.first_number-first.result c.numbers_in-end.result c.first_number-first.ensures.value c.numbers_in-end.ensures c.in-Some.from (sym c.in-Some.is ∙ c.start_in.ensures) c.in_err-found.field-0.0
    (each_told (g.D.Device.content c.args.dev.now) _ m c.in_err-found.ensures.exact e)))

pub returns-in_default-clause-counted : goal.returns-in_default-clause-counted
returns-in_default-clause-counted g c =
    told (g.D.Device.content c.args.dev.now) _
    (λ m e. count_none c.args.steps.now.reads _ (none_reads (layout c.args.geo.now) (m Image) c.args.at c.args.tree.now c.first_number-first.result c.numbers_in-end.result c.first_number-first.ensures.value c.numbers_in-end.ensures (sym c.in_default.is ∙ c.start_in.ensures)))

pub returns-in_default-found-clause-counted : goal.returns-in_default-found-clause-counted
returns-in_default-found-clause-counted g c =
    told (g.D.Device.content c.args.dev.now) _
    (λ m e. count_one c.args.steps.now.reads c.next_in_group.new.steps.reads _ _ (going_reads (layout c.args.geo.now) (m Image) c.args.at c.args.tree.now c.first_number-first.result c.numbers_in-end.result c.first_number-first.ensures.value c.numbers_in-end.ensures c.in-Some.from (sym c.in-Some.is ∙ c.start_in.ensures))
    (each_told (g.D.Device.content c.args.dev.now) _ m c.in_ok-found.ensures.counted e))

pub returns-clause-counted : goal.returns-clause-counted
returns-clause-counted g c =
    told (g.D.Device.content c.args.dev.now) _
    (λ m e. count_one c.args.steps.now.reads c.next_in_group.new.steps.reads _ _ (going_reads (layout c.args.geo.now) (m Image) c.args.at c.args.tree.now c.first_number-first.result c.numbers_in-end.result c.first_number-first.ensures.value c.numbers_in-end.ensures c.in-Some.from (sym c.in-Some.is ∙ c.start_in.ensures))
    (each_told (g.D.Device.content c.args.dev.now) _ m c.in_ok-found.ensures.counted e))

pub returns-clause-place : goal.returns-clause-place
returns-clause-place g c =
    let small = range_of c.in-Some.from c.numbers_in-end.result c.in-Some-found.number c.in_ok-found.found c.in-Some-found.is c.in_ok-found.ensures.range in
    has_place (layout c.args.geo.now) c.args.geo.now.fitting c.args.tree.now.group c.first_number-first.result c.numbers_in-end.result c.in-Some-found.number c.from.result c.requires.tree.group c.first_number-first.ensures.value c.numbers_in-end.ensures small.1 c.from.ensures
