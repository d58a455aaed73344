use Rattle.std.proofs.Common.{List, sym, refl, subst}
use Rattle.run_sets.specs.declared.run.Run.{Run}
use Rattle.std.specs.List.{All}
use Rattle.run_sets.specs.Runs.{AreRunsOf, IsRun}
use Rattle.run_sets.specs.Sets.{has}
use Rattle.run_sets.proofs.SetLemmas.{maximal_of, ends_of, runs_of_maximal}
use Rattle.run_sets.proofs.set.RunSet.runs.Goals as goal

pub returns-clause-exact : goal.returns-clause-exact
returns-clause-exact c =
    let set = c.args.self.now in
    subst (λ (runs : List Run). AreRunsOf (has set) runs) (sym c.deref.ensures.value) record {
      maximal = maximal_of 0 set.runs.items set.maximal;
      within = ends_of 0 set.runs.items set.maximal;
      exact = λ b. refl;
    }

pub returns-clause-runs : goal.returns-clause-runs
returns-clause-runs c =
    let set = c.args.self.now in
    subst (λ (runs : List Run). All IsRun runs) (sym c.deref.ensures.value) (runs_of_maximal 0 set.runs.items (maximal_of 0 set.runs.items set.maximal) (ends_of 0 set.runs.items set.maximal))
