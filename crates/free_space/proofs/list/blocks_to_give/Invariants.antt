use Rattle.std.proofs.Common.{◌≡◌, ◌==◌, ℕ, take}
use Rattle.std.specs.List.{list_any}
use Rattle.ag_headers.specs.Ring.{entries}
use Rattle.run_sets.specs.Sets.{has}
use Rattle.free_space.proofs.list.blocks_to_give.Given as goal

abbrev pub invariant-loop-i : goal.invariant-loop-i
invariant-loop-i l = (b : ℕ) → has l.set b ≡ list_any (λ e. b == e) (take l.i (entries l.list))
