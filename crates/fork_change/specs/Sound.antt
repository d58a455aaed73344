-- The list of a fork whose inode shows no fault is one that can be changed.
use Rattle.std.specs.Prelude.{◌≡◌, None}
use Rattle.dinode_core.specs.Inline.{inline_fault, inline_mappings}
use Rattle.dinode_core.specs.declared.inode.Core3.{Core3}
use Rattle.dinode_core.specs.declared.mapping.Fork.{Fork}
use Rattle.geom.specs.Apart.{HasFitting}
use Rattle.geom.specs.Layout.{Layout}
use Rattle.fork_change.specs.Lists.{AllFit}

abbrev pub SoundFits : Type 0
SoundFits = (at : Layout) (core : Core3) (fork : Fork) → HasFitting at → inline_fault at core fork ≡ None → AllFit (inline_mappings core fork)
