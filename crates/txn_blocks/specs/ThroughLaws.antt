-- One reading through a transaction after the other.
use Rattle.std.proofs.Common.{◌≤◌, ℕ, refl, ◌∙◌}
use Rattle.std.specs.Borrow.{MutBor}
use Rattle.byte_fields.specs.Steps.{StepCount}
use Rattle.blk_device.specs.Contents.{Contents}
use Rattle.blk_device.specs.declared.device.Device.{Ghosts}
use Rattle.meta_txn.specs.Joined.{Joined}
use Rattle.tree_blocks.specs.CachedLaws.{follows_self, follows_on}
use Rattle.txn_blocks.specs.Through.{Lasts}

module _ {D C : Type 0} (g : Ghosts D) (only_now : (d : D) (c : Contents) → g.may_have_held_since d (g.clock d) c → g.may_hold_now d c) (counts_now : (d : D) (t : ℕ) (c : Contents) → t ≤ g.clock d → g.may_hold_now d c → g.may_have_held_since d t c) where
  pub lasts_self : (dev : MutBor D) (cache : MutBor C) (steps : MutBor StepCount) (txn : MutBor Joined) → Lasts g dev dev cache cache steps steps txn txn
  lasts_self dev cache steps txn = record { below = follows_self g only_now counts_now dev cache steps; same_txn = refl; joined = refl }

  pub lasts_on : (dev dev' dev'' : MutBor D) (cache cache' cache'' : MutBor C) (steps steps' steps'' : MutBor StepCount) (txn txn' txn'' : MutBor Joined) → Lasts g dev dev' cache cache' steps steps' txn txn' → Lasts g dev' dev'' cache' cache'' steps' steps'' txn' txn'' → Lasts g dev dev'' cache cache'' steps steps'' txn txn''
  lasts_on dev dev' dev'' cache cache' cache'' steps steps' steps'' txn txn' txn'' first second = record {
    below = follows_on g only_now counts_now dev dev' dev'' cache cache' cache'' steps steps' steps'' first.below second.below;
    same_txn = second.same_txn ∙ first.same_txn;
    joined = second.joined ∙ first.joined;
  }
