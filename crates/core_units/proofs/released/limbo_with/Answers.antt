use Rattle.std.proofs.Common.{List, sym, subst, ◌∙◌}
use Rattle.block_reap.specs.Limbo.{IsLimbo}
use Rattle.block_reap.specs.declared.runs.LimboRun.{LimboRun}
use Rattle.core_units.proofs.ReleasedLemmas.{lost_limbo}
use Rattle.core_units.proofs.released.limbo_with.Goals as goal

pub merged-requires-clause-second : goal.merged-requires-clause-second
merged-requires-clause-second c =
    subst (λ (l : List LimboRun). IsLimbo l) (sym (c.as_slice.ensures.value ∙ c.in_ok-more_runs.ensures)) (lost_limbo c.args.owner 0 c.args.lost.now c.requires.lost c.requires.within)
