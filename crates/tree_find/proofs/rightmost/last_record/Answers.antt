use Rattle.std.proofs.Common.{◌≡◌, ◌-◌, Some, refl, sym, ◌∙◌, ap, arith}
use Rattle.sblock.specs.Area.{area_of}
use Rattle.sblock.specs.Blocks.{numrecs, records_of}
use Rattle.tree_find.proofs.LastLemmas.{last_item, no_item}
use Rattle.tree_find.proofs.rightmost.last_record.Goals as goal

pub returns-then-n-eq0 : goal.returns-then-n-eq0
unfolding records_of
returns-then-n-eq0 g c =
    let none : numrecs c.args.block.now.bytes ≡ 0 = omega (arith, c.if-n-eq0.true, c.count_of-n.ensures) in
    sym (no_item (g.K.RecKind.form.record_at (area_of c.args.block.now.bytes)) (numrecs c.args.block.now.bytes) none)

pub returns : goal.returns
unfolding records_of
returns g c =
    let some = last_item (g.K.RecKind.form.record_at (area_of c.args.block.now.bytes)) (numrecs c.args.block.now.bytes) (omega (arith, c.if-n-eq0.false, c.count_of-n.ensures)) in
    let same : c.count_of-n.result - 1 ≡ numrecs c.args.block.now.bytes - 1 = omega (arith, c.count_of-n.ensures) in
    ap Some (c.record_at.ensures ∙ rw (c.data_area.ensures.shows, same) refl) ∙ sym some
