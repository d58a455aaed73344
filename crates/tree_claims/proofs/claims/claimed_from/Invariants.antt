use Rattle.std.proofs.Common.{List, ◌≡◌, ◌+◌, ◌*◌, ◌≤◌, Some, ℕ}
use Rattle.run_sets.specs.Sets.{has}
use Rattle.tree_blocks.specs.Calls.{Reads}
use Rattle.tree_claims.specs.Lists.{lists}
use Rattle.tree_claims.specs.Looks.{LieBelow}
use Rattle.tree_claims.proofs.ClaimLemmas.{AreReached, AreNamed}
use Rattle.tree_claims.proofs.RowLemmas.{ReadAbove}
use Rattle.tree_claims.proofs.claims.claimed_from.Given as goal

abbrev pub invariant-loop-depth : goal.invariant-loop-depth
invariant-loop-depth g l = record {
  reached : (m : ℕ → List ℕ) → g.B.Blocks.told l.fn.blocks ≡ Some m → AreReached g.K.RecKind.form l.site m l.root l.levels l.depth (has l.frontier);
  named : (m : ℕ → List ℕ) → g.B.Blocks.told l.fn.blocks ≡ Some m → AreNamed g.K.RecKind.form l.site m l.root l.levels l.depth (lists l.claimed.items);
  frontier_lies : LieBelow l.site.bounds.length (has l.frontier);
  claims_lie : LieBelow l.site.bounds.length (lists l.claimed.items);
  reading : Reads g.B.Blocks l.fn.blocks l.blocks;
  calm : g.B.Blocks.faults l.blocks ≡ g.B.Blocks.faults l.fn.blocks;
  each : (m : ℕ → List ℕ) → g.B.Blocks.told l.fn.blocks ≡ Some m → ReadAbove g.K.RecKind.form l.site m l.root l.levels l.depth (g.B.Blocks.count l.fn.blocks) (g.B.Blocks.count l.blocks);
  few : g.B.Blocks.count l.blocks ≤ g.B.Blocks.count l.fn.blocks + l.depth * l.site.bounds.length;
}
