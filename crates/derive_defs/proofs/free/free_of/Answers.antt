use Rattle.std.proofs.Common.{◌≡◌, ℕ, ◌+◌, ◌<◌, ◌≤◌, ◌∙◌, ap, arith, length, get_or, map, max, Vec, Global}
use Rattle.rmap_recs.specs.declared.records.RmapRec.{RmapRec}
use Rattle.run_sets.proofs.SweepLemmas.{at_start, last_run, nothing_left}
use Rattle.span_recs.specs.declared.span.SpanRec.{SpanRec}
use Rattle.derive_defs.specs.Free.{is_free, run_of}
use Rattle.derive_defs.proofs.FreeLemmas.{Passed, ends_within, passed_more, turn_gap, turn_on, free_behind_all}
use Rattle.derive_defs.proofs.SpaceLemmas.{none_run, one_more_run, free_if_runs, are_free, free_rise, free_inside, free_fit}
use Rattle.derive_defs.proofs.free.free_of.Goals as goal
use Rattle.derive_defs.proofs.free.free_of.Goals.{then-from-mapping+in_ok-push, else-from-mapping, then-from-length+in_ok-push-2, else-from-length}

-- what a place past the end reads as
abbrev none : RmapRec
none = record { start = 0; count = 0; owner = 0; word = 0 }

pub loop-mapping-init : goal.loop-mapping-init
loop-mapping-init c = record {
  inside = omega arith;
  passed = λ k d front some. absurd (omega (arith, front));
  found = at_start (is_free c.args.mappings.now) c.args.length _ (none_run _ c.new-free.ensures.items);
}

pub loop-mapping-preserved-then-mapping-eq0 : goal.loop-mapping-preserved-then-mapping-eq0
loop-mapping-preserved-then-mapping-eq0 c = record {
  inside = c.loop-mapping.invariant.inside;
  passed = passed_more c.args.mappings.now c.loop-mapping.mapping-index _ _ none c.loop-mapping-test.true (omega arith) (λ some. absurd (let h = c.if-mapping-eq0.true in omega (arith, h, some))) c.loop-mapping.invariant.passed;
  found = c.loop-mapping.invariant.found;
}

pub loop-mapping-preserved : goal.loop-mapping-preserved
loop-mapping-preserved c =
    let i : ℕ = c.loop-mapping.mapping-index in
    let rec : RmapRec = get_or c.args.mappings.now i none in
    let inside = c.loop-mapping.invariant.inside in
    let within : rec.start + rec.count ≤ c.args.length = ends_within c.args.length c.args.mappings.now i none c.requires.within c.loop-mapping-test.true in
    let next : c.max-from.result ≡ max c.loop-mapping.from (rec.start + rec.count) = c.max-from.ensures in
    let some : 0 < rec.count = omega (arith, c.if-mapping-eq0.false) in
    record {
      inside = omega (arith, next, inside, within);
      passed = passed_more c.args.mappings.now i _ _ none c.loop-mapping-test.true (omega (arith, next)) (λ h. omega (arith, next)) c.loop-mapping.invariant.passed;
      found = elim c.if-from-mapping.branch [
        | then-from-mapping+in_ok-push w ↦
            let gap : c.loop-mapping.from < rec.start = w.if-from-mapping.true in
            turn_gap c.args.mappings.now i c.loop-mapping.from c.max-from.result c.args.length none (map run_of c.loop-mapping.free.items) _ _ c.requires.rising c.loop-mapping-test.true c.loop-mapping.invariant.passed
            some (omega (arith, next, gap)) (omega (arith, next, inside, within)) gap c.loop-mapping.invariant.found
            (one_more_run _ _ _ (ap (λ (v : Vec SpanRec Global). v.items) w.free-is ∙ w.in_ok-push.ensures.items))
        | else-from-mapping w ↦
            let on : rec.start ≤ c.loop-mapping.from = w.if-from-mapping.false in
            turn_on c.args.mappings.now i c.loop-mapping.from c.max-from.result c.args.length none (map run_of c.if-from-mapping.free.items) _ c.loop-mapping-test.true
            (omega (arith, next)) (omega (arith, next, inside, within)) (λ more. omega (arith, next, more)) on
            (rw w.free-is c.loop-mapping.invariant.found)
      ];
    }

pub overflow_add-mapping : goal.overflow_add-mapping
overflow_add-mapping c =
    let within = ends_within c.args.length c.args.mappings.now c.loop-mapping.mapping-index none c.requires.within c.loop-mapping-test.true in
    omega (arith, within)

pub returns-clause-value : goal.returns-clause-value
returns-clause-value c =
    let passed : Passed c.args.mappings.now (length c.args.mappings.now) c.loop-mapping.from = λ k d front some. let end = c.loop-mapping-test.false in c.loop-mapping.invariant.passed k d (omega (arith, front, end)) some in
    free_if_runs c.args.length c.args.mappings.now _ (elim c.if-from-length.branch [
      | then-from-length+in_ok-push-2 w ↦
          last_run (is_free c.args.mappings.now) c.loop-mapping.from c.args.length (map run_of c.loop-mapping.free.items) _ _ w.if-from-length.true
          (λ b low high. free_behind_all c.args.mappings.now c.loop-mapping.from passed b low) c.loop-mapping.invariant.found
          (one_more_run _ _ _ (ap (λ (v : Vec SpanRec Global). v.items) w.free-is ∙ w.in_ok-push-2.ensures.items))
      | else-from-length w ↦
          nothing_left (is_free c.args.mappings.now) c.loop-mapping.from c.args.length _ _ w.if-from-length.false (rw w.free-is c.loop-mapping.invariant.found)
    ])

pub returns-clause-exact : goal.returns-clause-exact
returns-clause-exact c = are_free c.args.length c.args.mappings.now _ (returns-clause-value c)

pub returns-clause-rising : goal.returns-clause-rising
returns-clause-rising c = free_rise c.args.length c.args.mappings.now _ (returns-clause-value c)

pub returns-clause-inside : goal.returns-clause-inside
returns-clause-inside c = free_inside c.args.length c.args.mappings.now _ (returns-clause-value c)

pub returns-clause-fits : goal.returns-clause-fits
returns-clause-fits c = free_fit c.args.length c.args.mappings.now _ (returns-clause-value c)
