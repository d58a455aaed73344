use Rattle.std.proofs.Common.{◌≡◌, ℕ, ◌<◌, true, Option}
use Rattle.std.specs.Prelude.{slice_index_or}
use Rattle.std.specs.Option.{is_some}
use Rattle.index_derive.specs.Inodes.{free_bits}
use Rattle.index_derive.proofs.inodes.mask.Given as goal

-- the cores in front verify, and their free inodes have a bit each
abbrev pub invariant-loop-i : goal.invariant-loop-i
invariant-loop-i l = record {
  some : (k : ℕ) (d : Option ℕ) → k < l.i → is_some (slice_index_or l.modes k d) ≡ true;
  bits : l.free ≡ free_bits l.i l.modes;
}
