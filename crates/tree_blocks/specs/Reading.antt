-- What a call that only reads does to a group's blocks, and when it may tell a failed device.
use Rattle.std.specs.Prelude.{◌≡◌, ℕ, ◌≤◌, Bool, true, false, List, Option}
use Rattle.blk_device.specs.Causes.{MovesOnly}
use Rattle.tree_defs.specs.declared.site.Site.{Site}
use Rattle.tree_blocks.specs.declared.tree.WalkFault.{WalkFault}
use Rattle.tree_blocks.specs.declared.tree.WalkFault.TheVariants.{Bad, Failed, Memory}

-- A group's blocks were only read, however they are read.
pub record ReadsBy {B : Type 0} (told : B → Option (ℕ → List ℕ)) (place : B → Site) (faults : B → ℕ) (follows : B → B → Type 0) (old new : B) : Type 0 where
  pub same : told new ≡ told old
  pub stays : place new ≡ place old
  pub later : faults old ≤ faults new
  pub onward : follows old new

-- the device failed
abbrev pub is_failed : WalkFault → Bool
is_failed (Bad block fault) = false
is_failed Failed = true
is_failed Memory = false

-- a failed device is told only where its count rose, and no other answer moves the count
abbrev pub CauseOf : ℕ → ℕ → WalkFault → Type 0
CauseOf before now fault = MovesOnly (is_failed fault) before now
