-- A device that two steps left, one after the other.
use Rattle.std.proofs.Common.{◌≤◌, ◌∙◌, ℕ, arith}
use Rattle.byte_fields.specs.Steps.{StepCount}
use Rattle.blk_device.specs.Contents.{Contents}
use Rattle.blk_device.specs.Reading.{EachBlock, OnlyRead}
use Rattle.blk_device.specs.ReadingLaws.{keeps_on}
use Rattle.blk_device.specs.declared.device.Device.{Ghosts}
use Rattle.tree_edit.specs.Device.{IsLeft}

module _ {D : Type 0} (g : Ghosts D) (only_now : (d : D) (c : Contents) → g.may_have_held_since d (g.clock d) c → g.may_hold_now d c) (counts_now : (d : D) (t : ℕ) (c : Contents) → t ≤ g.clock d → g.may_hold_now d c → g.may_have_held_since d t c) where
  -- it was read, and then left by an edit
  pub read_then_left : (old mid new : D) (before between after : StepCount) → OnlyRead g old mid before between → IsLeft g mid new between after → IsLeft g old new before after
  read_then_left old mid new before between after read left = record {
    same = left.same ∙ read.same;
    sizes = left.sizes ∙ read.sizes;
    later = omega (arith, read.later, left.later);
    crash = keeps_on g only_now counts_now EachBlock old mid new read.crash left.crash;
    counted = omega (arith, read.counted, left.counted);
    writes = omega (arith, read.writes, left.writes);
    moves = left.moves ∙ read.moves;
  }
