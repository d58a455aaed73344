-- How the notes grow as the inodes of a block are looked at.
use Rattle.std.specs.Prelude.{◌≡◌, ℕ, Bool, true, false, List, ◌++◌, length, take, Option, Some, None}
use Rattle.dinode_core.specs.Inline.{inline_mappings}
use Rattle.dinode_core.specs.declared.inode.Core3.{Core3}
use Rattle.dinode_core.specs.declared.mapping.Fork.{Fork}
use Rattle.dinode_core.specs.declared.mapping.Mapping.{Mapping}
use Rattle.geom.specs.Layout.{Layout}
use Rattle.inode_pass.specs.Notes.{fork_notes, shows}
use Rattle.inode_pass.specs.declared.note.ForkNote.{ForkNote}

-- whether the inode shows a fork, and then these are its mappings
abbrev pub IsShown : Layout → Core3 → Fork → List Mapping → Bool → Type 0
IsShown at core f mappings true = (shows at core f ≡ true) × (mappings ≡ inline_mappings core f)
IsShown at core f mappings false = shows at core f ≡ false

-- the notes of a fork that the inode shows were put, and else nothing
abbrev pub IsForkNoted : Layout → Core3 → Fork → List ForkNote → List ForkNote → Bool → Type 0
IsForkNoted at core f old now true = (shows at core f ≡ true) × (now ≡ old ++ fork_notes core f)
IsForkNoted at core f old now false = (shows at core f ≡ false) × (now ≡ old)

-- the notes of an inode were put where it shows its forks, and else nothing
abbrev pub IsNoted : List ForkNote → List ForkNote → Option (List ForkNote) → Bool → Type 0
IsNoted old now (Some notes) shown = (shown ≡ true) × (now ≡ old ++ notes)
IsNoted old now None shown = (shown ≡ false) × (now ≡ old)

-- those of several were put where each shows its own; else what stood before still stands in front
abbrev pub AreNoted : List ForkNote → List ForkNote → Option (List ForkNote) → Bool → Type 0
AreNoted old now (Some notes) shown = (shown ≡ true) × (now ≡ old ++ notes)
AreNoted old now None shown = (shown ≡ false) × (take (length old) now ≡ old)

-- notes of a unit whose cores don't all verify are taken back
abbrev pub kept_notes : ℕ → Option ℕ → List ForkNote → List ForkNote
kept_notes before (Some mask) notes = notes
kept_notes before None notes = take before notes
