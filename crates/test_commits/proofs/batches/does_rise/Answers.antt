use Rattle.std.proofs.Common.{◌≡◌, ◌∷◌, ◌∙◌, ap, sym}
use Rattle.redo_area.specs.Table.{places}
use Rattle.redo_area.proofs.TableLemmas.{rises_more, rises_no_more}
use Rattle.test_commits.proofs.batches.does_rise.Goals as goal

pub returns-then-not-is_placed : goal.returns-then-not-is_placed
returns-then-not-is_placed c =
    let s = c.loop-number in
    let n = c.in-Some.field-0-0.now.0 in
    let is : places s.rest.now ≡ n ∷ places c.in-Some.later.now = ap places c.in-Some.ensures.cases.0 in
    sym (rises_no_more s.least c.args.size n (places c.in-Some.later.now) (places s.rest.now) is (sym c.is_placed.ensures ∙ c.if-not-is_placed.true)) ∙ s.invariant

pub loop-number-preserved : goal.loop-number-preserved
loop-number-preserved c =
    let s = c.loop-number in
    let n = c.in-Some.field-0-0.now.0 in
    let is : places s.rest.now ≡ n ∷ places c.in-Some.later.now = ap places c.in-Some.ensures.cases.0 in
    sym (rises_more s.least c.args.size n (places c.in-Some.later.now) (places s.rest.now) is (sym c.is_placed.ensures ∙ c.if-not-is_placed.false)) ∙ s.invariant
