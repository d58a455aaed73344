use Rattle.std.proofs.Common.{◌≡◌, take}
use Rattle.quiet_check.specs.Chunks.{chunk_numbers}
use Rattle.quiet_check.proofs.chunks.chunks_of.Given as goal

-- the chunks among the units so far
abbrev pub invariant-loop-unit : goal.invariant-loop-unit
invariant-loop-unit l = l.chunks.items ≡ chunk_numbers (take l.unit-index l.seen)
