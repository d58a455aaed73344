use Rattle.std.proofs.Common.{◌≡◌, ℕ, length}
use Rattle.std.specs.Prelude.{◌||◌}
use Rattle.block_reap.specs.Limbo.{IsLimbo, has}
use Rattle.core_units.specs.Released.{block_runs}
use Rattle.core_switch.proofs.freed.put_blocks.Given as goal

abbrev pub invariant-loop-block : goal.invariant-loop-block
invariant-loop-block l = record {
  limbo : IsLimbo l.limbo.items;
  exact : (b o : ℕ) → (has l.limbo.items b o || has (block_runs l.owner l.rest) b o) ≡ (has l.fn.limbo.items b o || has (block_runs l.owner l.blocks) b o);
}

abbrev pub decreases-loop-block : goal.decreases-loop-block
decreases-loop-block l = length l.rest
