use Rattle.std.proofs.Common.{◌≡◌, ◌∙◌, arith}
use Rattle.run_sets.specs.Runs.{most}
use Rattle.run_sets.specs.Stretches.{at_least, counted, open_at, stretches}
use Rattle.run_sets.proofs.DepthLemmas.{open_is_counted, ends_behind}
use Rattle.run_sets.proofs.OnlyStretchesLemmas.{stretches_are_runs, stretches_if_only}
use Rattle.run_sets.proofs.StretchesLemmas.{stretches_same}
use Rattle.run_sets.proofs.overlap.overlaps.Goals as goal

pub levels-requires-clause-order : goal.levels-requires-clause-order
levels-requires-clause-order c = λ b.
    rw (c.as_slice.ensures.value, c.as_slice-2.ensures.value) (ends_behind c.args.runs.now c.in_ok-starts.starts.items c.in_ok-ends.ends.items b (c.in_ok-starts.ensures.exact b) (c.in_ok-ends.ensures.exact b))

pub returns : goal.returns
returns c =
    let found = c.in_ok-found.found.items in
    let value : found ≡ stretches (counted c.args.runs.now) c.args.least most
    = c.in_ok-found.ensures.exact ∙ rw (c.as_slice.ensures.value, c.as_slice-2.ensures.value)
    (stretches_same (open_at c.in_ok-starts.starts.items c.in_ok-ends.ends.items) (counted c.args.runs.now) c.args.least most
    (λ b. open_is_counted c.args.runs.now c.in_ok-starts.starts.items c.in_ok-ends.ends.items b (c.in_ok-starts.ensures.exact b) (c.in_ok-ends.ensures.exact b))) in
    let exact = stretches_if_only (counted c.args.runs.now) c.args.least most found value in
    record {
      value = value;
      exact = exact;
      runs = stretches_are_runs (at_least c.args.least (counted c.args.runs.now)) most found (omega arith) exact;
    }
