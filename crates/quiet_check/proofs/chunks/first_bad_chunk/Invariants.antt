use Rattle.std.proofs.Common.{◌≡◌, drop, map}
use Rattle.fs_state.specs.Lists.{first_of_all}
use Rattle.quiet_check.specs.Chunks.{bad_where}
use Rattle.quiet_check.proofs.chunks.first_bad_chunk.Given as goal

-- the units so far have none
abbrev pub invariant-loop-unit : goal.invariant-loop-unit
invariant-loop-unit l = first_of_all (map (bad_where l.by_inodes l.by_owners) (drop l.unit-index l.seen)) ≡ first_of_all (map (bad_where l.by_inodes l.by_owners) l.seen)
