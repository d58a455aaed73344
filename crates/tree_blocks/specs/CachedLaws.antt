-- One reading through a cache after the other.
use Rattle.std.proofs.Common.{◌≤◌, ℕ, refl, ◌∙◌}
use Rattle.std.specs.Borrow.{MutBor}
use Rattle.byte_fields.specs.Steps.{StepCount}
use Rattle.blk_device.specs.Contents.{Contents}
use Rattle.blk_device.specs.declared.device.Device.{Ghosts}
use Rattle.tree_blocks.specs.Cached.{Follows}
use Rattle.blk_device.specs.ReadingLaws.{nothing_read, read_on}

module _ {D C : Type 0} (g : Ghosts D) (only_now : (d : D) (c : Contents) → g.may_have_held_since d (g.clock d) c → g.may_hold_now d c) (counts_now : (d : D) (t : ℕ) (c : Contents) → t ≤ g.clock d → g.may_hold_now d c → g.may_have_held_since d t c) where
  pub follows_self : (dev : MutBor D) (cache : MutBor C) (steps : MutBor StepCount) → Follows g dev dev cache cache steps steps
  follows_self dev cache steps = record {
    same_dev = refl;
    same_cache = refl;
    same_steps = refl;
    reading = nothing_read g only_now counts_now dev.now steps.now;
  }

  pub follows_on : (dev dev' dev'' : MutBor D) (cache cache' cache'' : MutBor C) (steps steps' steps'' : MutBor StepCount) → Follows g dev dev' cache cache' steps steps' → Follows g dev' dev'' cache' cache'' steps' steps'' → Follows g dev dev'' cache cache'' steps steps''
  follows_on dev dev' dev'' cache cache' cache'' steps steps' steps'' first second = record {
    same_dev = second.same_dev ∙ first.same_dev;
    same_cache = second.same_cache ∙ first.same_cache;
    same_steps = second.same_steps ∙ first.same_steps;
    reading = read_on g only_now counts_now dev.now dev'.now dev''.now steps.now steps'.now steps''.now first.reading second.reading;
  }
