use Rattle.std.proofs.Common.{[], ◌∷◌, Bool, ◌||◌, ap, ◌∙◌}
use Rattle.run_sets.specs.Runs.{holds}
use Rattle.run_sets.proofs.SetLemmas.{ends_of, union_at, one_holds}
use Rattle.run_sets.proofs.set.RunSet.add.Goals as goal

pub returns-clause-exact : goal.returns-clause-exact
returns-clause-exact c = λ b.
    let set = c.args.self.now in
    union_at set.runs.items (c.args.run ∷ []) b _ (ends_of 0 set.runs.items set.maximal) (c.requires.run.within, tt) (c.in_ok-self.ensures.exact b)
    ∙ ap (λ (t : Bool). holds set.runs.items b || t) (one_holds c.args.run b)
