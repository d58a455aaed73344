use Rattle.std.proofs.lemmas.Result.{IfOk-weaker}
use Rattle.run_sets.specs.Sets.{has}
use Rattle.run_sets.proofs.SetLemmas.{ends_of, difference_at}
use Rattle.run_sets.proofs.set.RunSet.subtract.Goals as goal

pub returns : goal.returns
returns c = record {
  exact =
      let set = c.args.self.now in
      let other = c.args.other.now in
      IfOk-weaker c.combined.result _ _ (λ made is b.
      difference_at set.runs.items other.runs.items b (has made b) (ends_of 0 set.runs.items set.maximal) (rw c.runs.ensures.value at (is b)))
      c.combined.ensures.exact;
}
