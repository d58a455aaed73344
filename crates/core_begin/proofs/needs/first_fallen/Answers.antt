use Rattle.std.proofs.Common.{◌<◌, ◌∙◌, arith, sym}
use Rattle.std.proofs.lemmas.Option.{slice_get_read}
use Rattle.core_begin.proofs.StartLemmas.{stood_on}
use Rattle.core_begin.proofs.needs.first_fallen.Goals as goal

pub loop-h-preserved : goal.loop-h-preserved
loop-h-preserved c =
    let below : c.loop-h.h < c.args.count = omega arith in
    let there = slice_get_read c.args.groups.now c.args.count c.loop-h.h c.index-groups-h.result (sym c.requires) below c.index-groups-h.is in
    c.loop-h.invariant ∙ stood_on c.args.groups.now c.loop-h.h c.args.count c.index-groups-h.result below there (sym c.is_unit_stood.ensures ∙ c.if-not-is_unit_stood.false)
