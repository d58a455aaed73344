use Rattle.std.proofs.Common.{List, ◌≡◌, ◌+◌, take, false, Some, ℕ}
use Rattle.run_sets.specs.Runs.{holds}
use Rattle.tree_blocks.specs.Calls.{Reads}
use Rattle.tree_claims.specs.Lists.{lists}
use Rattle.tree_claims.specs.Looks.{blocks_in, LieBelow, Looks}
use Rattle.tree_claims.proofs.frontier.look_level.Given as goal

abbrev pub invariant-loop-run : goal.invariant-loop-run
invariant-loop-run g l = record {
  exact : (m : ℕ → List ℕ) → g.B.Blocks.told l.fn.blocks ≡ Some m → Looks g.K.RecKind.form l.site m l.level l.root (holds (take l.run-index l.runs)) (lists l.fn.claimed.items) (lists l.claimed.items) (λ b. false) (lists l.next.items);
  claims_lie : LieBelow l.site.bounds.length (lists l.fn.claimed.items) → LieBelow l.site.bounds.length (lists l.claimed.items);
  next_lies : LieBelow l.site.bounds.length (lists l.next.items);
  reading : Reads g.B.Blocks l.fn.blocks l.blocks;
  calm : g.B.Blocks.faults l.blocks ≡ g.B.Blocks.faults l.fn.blocks;
  each : g.B.Blocks.count l.blocks ≡ g.B.Blocks.count l.fn.blocks + blocks_in (take l.run-index l.runs);
}
