use Rattle.std.proofs.Common.{◌≡◌, ℕ, ◌||◌, is_some}
use Rattle.std.specs.Ordering.{nat_cmp}
use Rattle.std.specs.BTreeMap.{is_at}
use Rattle.std.specs.Map.{lookup}
use Rattle.blk_device.specs.Tally.{has, count_of}
use Rattle.blk_device.proofs.tally.zero_counts.Given as goal

abbrev pub invariant-loop-at : goal.invariant-loop-at
invariant-loop-at l =
    ((b : ℕ) → has l.blocks b ≡ (has l.counts b || is_some (lookup (is_at (nat_cmp b)) l.at-iterator))) × ((b : ℕ) → count_of l.counts b ≡ 0)
