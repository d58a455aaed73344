use Rattle.std.proofs.Common.{◌+◌, ◌∙◌, Some, None, sym, map, drop, get_or, arith}
use Rattle.derive_defs.specs.Mappings.{blocks_of}
use Rattle.span_recs.specs.declared.span.SpanRec.{SpanRec}
use Rattle.unit_plan.specs.Spans.{looked_run, outside, span_run}
use Rattle.unit_plan.specs.Spare.{is_outside}
use Rattle.unit_plan.proofs.SpanLemmas.{lowest_same, mapped_at, mapped_length, none_found, outside_is, span_end, step_found, step_on}
use Rattle.unit_plan.proofs.spare.lowest_outside.Goals as goal

-- what a place past the end reads as
abbrev none : SpanRec
none = record { start = 0; count = 0 }

pub overflow_cast-result : goal.overflow_cast-result
overflow_cast-result c =
    let i = c.loop-at.at.span in
    let free = map span_run c.args.free.now in
    let mappings = map blocks_of c.args.mappings.now in
    let pieces = map (looked_run c.args.among) c.args.pieces.now in
    let span = get_or c.args.free.now i none in
    let found = step_found free mappings pieces c.loop-at.at c.raised-here.result (span_run span) (drop (i + 1) free) c.requires.free.0 (mapped_at span_run c.args.free.now i none c.loop-at-test.true) c.raised-here.ensures c.loop-at.invariant
    c.requires.mappings c.requires.pieces (sym c.step.ensures ∙ c.in_default.is) in
    let end = span_end c.args.free.now i none c.requires.free.1 c.loop-at-test.true in
    let within = found.0 in
    omega (arith, within, end)

pub returns-in_default : goal.returns-in_default
returns-in_default c =
    let i = c.loop-at.at.span in
    let free = map span_run c.args.free.now in
    let mappings = map blocks_of c.args.mappings.now in
    let pieces = map (looked_run c.args.among) c.args.pieces.now in
    let span = get_or c.args.free.now i none in
    let found = step_found free mappings pieces c.loop-at.at c.raised-here.result (span_run span) (drop (i + 1) free) c.requires.free.0 (mapped_at span_run c.args.free.now i none c.loop-at-test.true) c.raised-here.ensures c.loop-at.invariant
    c.requires.mappings c.requires.pieces (sym c.step.ensures ∙ c.in_default.is) in
    lowest_same (outside free mappings pieces) (is_outside c.args.among c.args.free.now c.args.mappings.now c.args.pieces.now) (outside_is c.args.among c.args.free.now c.args.mappings.now c.args.pieces.now) (Some c.raised-here.result.from) found.1

pub loop-at-preserved : goal.loop-at-preserved
loop-at-preserved c =
    let i = c.loop-at.at.span in
    let free = map span_run c.args.free.now in
    (step_on free (map blocks_of c.args.mappings.now) (map (looked_run c.args.among) c.args.pieces.now) c.loop-at.at c.raised-here.result (span_run (get_or c.args.free.now i none)) (drop (i + 1) free) c.requires.free.0
    (mapped_at span_run c.args.free.now i none c.loop-at-test.true) c.raised-here.ensures c.loop-at.invariant c.in-Some.next (sym c.step.ensures ∙ c.in-Some.is)).0

pub loop-at-smaller : goal.loop-at-smaller
loop-at-smaller c =
    let i = c.loop-at.at.span in
    let free = map span_run c.args.free.now in
    (step_on free (map blocks_of c.args.mappings.now) (map (looked_run c.args.among) c.args.pieces.now) c.loop-at.at c.raised-here.result (span_run (get_or c.args.free.now i none)) (drop (i + 1) free) c.requires.free.0
    (mapped_at span_run c.args.free.now i none c.loop-at-test.true) c.raised-here.ensures c.loop-at.invariant c.in-Some.next (sym c.step.ensures ∙ c.in-Some.is)).1

pub returns : goal.returns
returns c =
    let free = map span_run c.args.free.now in
    let mappings = map blocks_of c.args.mappings.now in
    let pieces = map (looked_run c.args.among) c.args.pieces.now in
    lowest_same (outside free mappings pieces) (is_outside c.args.among c.args.free.now c.args.mappings.now c.args.pieces.now) (outside_is c.args.among c.args.free.now c.args.mappings.now c.args.pieces.now) None
    (none_found free mappings pieces c.loop-at.at (mapped_length span_run c.args.free.now c.loop-at.at.span c.loop-at-test.false) c.loop-at.invariant)
