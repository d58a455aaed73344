use Rattle.std.proofs.Common.{List, ◌≡◌, ◌+◌, Some, ℕ}
use Rattle.tree_blocks.specs.Calls.{Reads}
use Rattle.tree_claims.specs.Lists.{lists}
use Rattle.tree_claims.specs.Looks.{LieBelow, Looks}
use Rattle.tree_claims.proofs.RunLemmas.{is_between}
use Rattle.tree_claims.proofs.frontier.look_along.Given as goal

abbrev pub invariant-loop-p : goal.invariant-loop-p
invariant-loop-p g l = record {
  exact : (m : ℕ → List ℕ) → g.B.Blocks.told l.fn.blocks ≡ Some m → Looks g.K.RecKind.form l.site m l.level l.root (is_between l.run.start l.p) (lists l.fn.claimed.items) (lists l.claimed.items) (lists l.fn.next.items) (lists l.next.items);
  claims_lie : LieBelow l.site.bounds.length (lists l.fn.claimed.items) → LieBelow l.site.bounds.length (lists l.claimed.items);
  next_lies : LieBelow l.site.bounds.length (lists l.fn.next.items) → LieBelow l.site.bounds.length (lists l.next.items);
  reading : Reads g.B.Blocks l.fn.blocks l.blocks;
  calm : g.B.Blocks.faults l.blocks ≡ g.B.Blocks.faults l.fn.blocks;
  each : g.B.Blocks.count l.blocks + l.run.start ≡ g.B.Blocks.count l.fn.blocks + l.p;
}
