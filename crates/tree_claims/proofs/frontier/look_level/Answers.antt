use Rattle.std.proofs.Common.{◌+◌, false, take, get_or, refl, sym, ◌∙◌, ap, arith, List, []}
use Rattle.std.proofs.lemmas.List.{take_all}
use Rattle.run_sets.specs.declared.run.Run.{Run}
use Rattle.run_sets.specs.Runs.{holds, is_within}
use Rattle.run_sets.specs.Sets.{has}
use Rattle.tree_blocks.proofs.ReadingLemmas.{reads_none, reads_on}
use Rattle.tree_claims.specs.Lists.{lists}
use Rattle.tree_claims.specs.Looks.{LieBelow}
use Rattle.tree_claims.proofs.ClaimLemmas.{none_lies}
use Rattle.tree_claims.proofs.ListLemmas.{lists_nothing}
use Rattle.tree_claims.proofs.LookLemmas.{looked_on, looked_as, none_looked}
use Rattle.tree_claims.proofs.RunLemmas.{one_run_more, run_ends, blocks_more, blocks_front, blocks_most}
use Rattle.tree_claims.proofs.frontier.look_level.Goals as goal

abbrev no_run : Run
no_run = record { start = 0; count = 0 }

pub loop-run-init : goal.loop-run-init
loop-run-init g c = record {
  exact = λ m e. none_looked g.K.RecKind.form c.args.site.now m c.args.level c.args.root (holds []) (lists c.args.claimed.now.items) (lists c.new-next.result.items) (λ b. refl) (lists_nothing c.new-next.result.items c.new-next.ensures.items);
  claims_lie = λ h. h;
  next_lies = none_lies c.args.site.now.bounds.length (lists c.new-next.result.items) (lists_nothing c.new-next.result.items c.new-next.ensures.items);
  reading = reads_none g.B.Blocks g.met.B.Blocks.follows_refl c.args.blocks.now;
  calm = refl;
  each = omega arith;
}

pub look_along-requires-clause-inside : goal.look_along-requires-clause-inside
look_along-requires-clause-inside g c =
    let runs = c.runs-runs.result.now in
    let below : LieBelow c.args.site.now.bounds.length (holds runs) = λ b held. c.requires.inside b (sym (c.runs-runs.ensures.exact.exact b) ∙ held) in
    run_ends runs c.args.site.now.bounds.length c.loop-run.run-index (get_or runs c.loop-run.run-index no_run) no_run c.runs-runs.ensures.exact.maximal below c.loop-run-test.true refl

pub returns-in_err-look_along-clause-few : goal.returns-in_err-look_along-clause-few
returns-in_err-look_along-clause-few g c =
    let runs = c.runs-runs.result.now in
    let i = c.loop-run.run-index in
    let below : LieBelow c.args.site.now.bounds.length (holds runs) = λ b held. c.requires.inside b (sym (c.runs-runs.ensures.exact.exact b) ∙ held) in
    let more = blocks_more runs i (get_or runs i no_run) no_run c.loop-run-test.true refl in
    let front = blocks_front runs (i + 1) in
    let all = blocks_most runs c.args.site.now.bounds.length c.runs-runs.ensures.exact.maximal below in
    omega (arith, c.loop-run.invariant.each, c.look_along.ensures.most_reads, more, front, all)

pub loop-run-preserved : goal.loop-run-preserved
loop-run-preserved g c =
    let runs = c.runs-runs.result.now in
    let i = c.loop-run.run-index in
    let r = get_or runs i no_run in
    record {
      exact = λ m e. looked_on g.K.RecKind.form c.args.site.now m c.args.level c.args.root (holds (take i runs)) (λ b. is_within b r) (holds (take (i + 1) runs)) (lists c.args.claimed.now.items) (lists c.loop-run.claimed.items) (lists c.look_along.new.claimed.items) (λ b. false) (lists c.loop-run.next.items) (lists c.look_along.new.next.items) (c.loop-run.invariant.exact m e) (c.in_ok-look_along.ensures.exact m (c.loop-run.invariant.reading.same ∙ e)) (λ b. one_run_more runs i r no_run b c.loop-run-test.true refl);
      claims_lie = λ h. c.in_ok-look_along.ensures.claims_lie (c.loop-run.invariant.claims_lie h);
      next_lies = c.in_ok-look_along.ensures.next_lies c.loop-run.invariant.next_lies;
      reading = reads_on g.B.Blocks g.met.B.Blocks.follows_trans c.args.blocks.now c.loop-run.blocks c.look_along.new.blocks c.loop-run.invariant.reading c.look_along.ensures.reading;
      calm = c.in_ok-look_along.ensures.cause ∙ c.loop-run.invariant.calm;
      each = let more = blocks_more runs i r no_run c.loop-run-test.true refl in omega (arith, c.loop-run.invariant.each, c.in_ok-look_along.ensures.each, more);
    }

pub returns-clause-exact : goal.returns-clause-exact
returns-clause-exact g c = λ m e.
    let runs = c.runs-runs.result.now in
    let i = c.loop-run.run-index in
    looked_as g.K.RecKind.form c.args.site.now m c.args.level c.args.root (holds (take i runs)) (has c.args.reached.now) (lists c.args.claimed.now.items) (lists c.loop-run.claimed.items) (λ b. false) (lists c.loop-run.next.items) (c.loop-run.invariant.exact m e)
    (λ b. sym (c.runs-runs.ensures.exact.exact b) ∙ ap (λ (rs : List Run). holds rs b) (sym (take_all i runs c.loop-run-test.false)))

pub returns-clause-few : goal.returns-clause-few
returns-clause-few g c =
    let runs = c.runs-runs.result.now in
    let below : LieBelow c.args.site.now.bounds.length (holds runs) = λ b held. c.requires.inside b (sym (c.runs-runs.ensures.exact.exact b) ∙ held) in
    let front = blocks_front runs c.loop-run.run-index in
    let all = blocks_most runs c.args.site.now.bounds.length c.runs-runs.ensures.exact.maximal below in
    omega (arith, c.loop-run.invariant.each, front, all)
