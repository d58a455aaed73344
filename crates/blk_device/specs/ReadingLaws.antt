-- One run of calls after the other, for laws that say so of a type.
use Rattle.std.proofs.Common.{◌≡◌, ◌≤◌, ℕ, Bool, Result, refl, subst, ◌∙◌, arith}
use Rattle.byte_fields.specs.Steps.{StepCount}
use Rattle.blk_device.specs.Causes.{HasCause}
use Rattle.blk_device.specs.Contents.{Contents}
use Rattle.blk_device.specs.Reading.{EachBlock, Keeps, OnlyRead, OnlyTold}
use Rattle.blk_device.specs.declared.device.Device.{Ghosts}
use Rattle.blk_device.specs.declared.device.Region.{Region}
use Rattle.blk_device.specs.Moments.{then_keeps, no_call}

module _ {D : Type 0} (g : Ghosts D) (only_now : (d : D) (c : Contents) → g.may_have_held_since d (g.clock d) c → g.may_hold_now d c) (counts_now : (d : D) (t : ℕ) (c : Contents) → t ≤ g.clock d → g.may_hold_now d c → g.may_have_held_since d t c) where
  -- no call keeps each block
  pub keeps_self : (K : Region → ℕ → Type 0) (d : D) → Keeps g K d d
  keeps_self K d = no_call g.clock g.may_have_held_since g.may_hold_now only_now counts_now K d

  pub keeps_on : (K : Region → ℕ → Type 0) (old mid new : D) → Keeps g K old mid → Keeps g K mid new → Keeps g K old new
  keeps_on K old mid new first second = then_keeps g.clock g.may_have_held_since g.may_hold_now only_now counts_now K old mid new first second

  pub nothing_read : (d : D) (steps : StepCount) → OnlyRead g d d steps steps
  nothing_read d steps = record {
    same = refl;
    sizes = refl;
    later = omega arith;
    crash = keeps_self EachBlock d;
    counted = omega arith;
    writes = refl;
    moves = refl;
  }

  pub read_on : (old mid new : D) (before between after : StepCount) → OnlyRead g old mid before between → OnlyRead g mid new between after → OnlyRead g old new before after
  read_on old mid new before between after first second = record {
    same = second.same ∙ first.same;
    sizes = second.sizes ∙ first.sizes;
    later = omega (arith, first.later, second.later);
    crash = keeps_on EachBlock old mid new first.crash second.crash;
    counted = omega (arith, first.counted, second.counted);
    writes = second.writes ∙ first.writes;
    moves = second.moves ∙ first.moves;
  }

  pub told_self : (d : D) → OnlyTold g d d
  told_self d = record { same = refl; sizes = refl; faults = refl; reads = refl; crash = keeps_self EachBlock d }

  pub told_on : (old mid new : D) → OnlyTold g old mid → OnlyTold g mid new → OnlyTold g old new
  told_on old mid new first second = record {
    same = second.same ∙ first.same;
    sizes = second.sizes ∙ first.sizes;
    faults = second.faults ∙ first.faults;
    reads = second.reads ∙ first.reads;
    crash = keeps_on EachBlock old mid new first.crash second.crash;
  }

  -- a device that was told is one of which nothing was read
  pub only_told : (old new : D) (steps : StepCount) → OnlyTold g old new → OnlyRead g old new steps steps
  only_told old new steps told = record {
    same = told.same;
    sizes = told.sizes;
    later = omega (arith, told.faults);
    crash = told.crash;
    counted = omega (arith, told.reads);
    writes = refl;
    moves = refl;
  }

  pub told_read : (old mid new : D) (before after : StepCount) → OnlyTold g old mid → OnlyRead g mid new before after → OnlyRead g old new before after
  told_read old mid new before after told read = read_on old mid new before before after (only_told old mid before told) read

-- an answer after a call that moved no count
pub cause_on : {T E : Type 0} (is_devices : E → Bool) (before mid now : ℕ) (result : Result T E) → mid ≡ before → HasCause is_devices mid now result → HasCause is_devices before now result
cause_on is_devices before mid now result same cause = subst (λ (n : ℕ). HasCause is_devices n now result) same cause
