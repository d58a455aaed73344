-- What a reading through a cache is to the device, the cache and the steps.
use Rattle.std.specs.Prelude.{◌≡◌, ℕ, List, Option, Some, None}
use Rattle.std.specs.Borrow.{MutBor}
use Rattle.byte_fields.specs.Steps.{StepCount}
use Rattle.blk_device.specs.Contents.{Contents}
use Rattle.blk_device.specs.declared.device.Device.{Ghosts}
use Rattle.blk_device.specs.declared.device.Region.TheVariants.{Image}
use Rattle.tree_defs.specs.Sites.{group_blocks}
use Rattle.tree_defs.specs.declared.site.Site.{Site}
use Rattle.blk_device.specs.Reading.{OnlyRead}

-- the group's blocks, where a device tells its content
abbrev pub blocks_told : Site → Option Contents → Option (ℕ → List ℕ)
blocks_told site None = None
blocks_told site (Some c) = Some (group_blocks site (c Image))

-- The same three are referred to, and the device was only read.
pub record Follows {D C : Type 0} (g : Ghosts D) (dev_old dev_new : MutBor D) (cache_old cache_new : MutBor C) (steps_old steps_new : MutBor StepCount) : Type 0 where
  pub same_dev : dev_new.ghost_name ≡ dev_old.ghost_name
  pub same_cache : cache_new.ghost_name ≡ cache_old.ghost_name
  pub same_steps : steps_new.ghost_name ≡ steps_old.ghost_name
  pub reading : OnlyRead g dev_old.now dev_new.now steps_old.now steps_new.now
