use Rattle.std.proofs.Common.{◌≡◌, take}
use Rattle.std.specs.List.{sum_by}
use Rattle.derive_defs.proofs.counters.free_blocks.Given as goal

-- the blocks of the records so far
abbrev pub invariant-loop-span : goal.invariant-loop-span
invariant-loop-span l = l.blocks ≡ sum_by (λ r. r.count) (take l.span-index l.free)
