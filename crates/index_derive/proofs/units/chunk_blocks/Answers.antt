use Rattle.std.proofs.Common.{◌≡◌, ℕ, ◌∙◌, ap, arith}
use Rattle.std.proofs.lemmas.Result.{IfOk-weaker}
use Rattle.run_sets.specs.Runs.{holds, most}
use Rattle.index_derive.proofs.UnitLemmas.{chunks_hold, runs_end, runs_rise}
use Rattle.index_derive.proofs.units.chunk_blocks.Goals as goal

pub joined_runs-requires-clause-rising : goal.joined_runs-requires-clause-rising
joined_runs-requires-clause-rising c = rw (c.as_slice.ensures.value, c.in_ok-runs.ensures) (runs_rise 0 c.args.mappings.now (λ s ss e. omega arith) c.requires.rising)

pub joined_runs-requires-clause-ends : goal.joined_runs-requires-clause-ends
joined_runs-requires-clause-ends c = rw (c.as_slice.ensures.value, c.in_ok-runs.ensures) (runs_end most c.args.mappings.now c.requires.within)

pub returns-clause-exact : goal.returns-clause-exact
returns-clause-exact c = IfOk-weaker c.joined_runs.result (λ found. (b : ℕ) → holds found.items b ≡ holds c.as_slice.result.now b) _
    (λ found same b. same b ∙ ap (λ rs. holds rs b) (c.as_slice.ensures.value ∙ c.in_ok-runs.ensures) ∙ chunks_hold c.args.mappings.now b) c.joined_runs.ensures.exact
