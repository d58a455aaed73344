-- What is kept of a group's inodes beside what the check of them found: the group's chunks, and what their cores show of
-- the forks; nothing where the inodes can't be judged.
use Rattle.std.specs.Prelude.{◌≡◌, ℕ, ◌+◌, ◌*◌, ◌<◌, All, List, [], Option, Some, None}
use Rattle.fs_state.specs.Chunks.{chunks}
use Rattle.fs_state.specs.Contradiction.{evidence}
use Rattle.fs_model.specs.declared.claim.Evidence.{Evidence}
use Rattle.fs_model.specs.declared.unit.Unit.TheVariants as units
use Rattle.fs_state.specs.Kinds.{Image, heads_of}
use Rattle.geom.specs.Layout.{Layout, group_len_of}
use Rattle.group_trees.specs.Group.{AreTrees}
use Rattle.group_trees.specs.Heads.{heads_seen}
use Rattle.group_trees.specs.declared.group.GroupTrees.{GroupTrees}
use Rattle.group_trees.specs.declared.heads.GroupHeads.{GroupHeads}
use Rattle.inode_pass.specs.Notes.{AreFit, notes_of}
use Rattle.inode_pass.specs.Units.{opened_state, unit_numbers}
use Rattle.inode_pass.specs.declared.note.ForkNote.{ForkNote}
use Rattle.inode_pass.specs.declared.note.GroupInodes.{GroupInodes}
use Rattle.inode_pass.specs.declared.unit.UnitSeen.{UnitSeen}
use Rattle.quiet_check.specs.Judged.{WhereGathered}
use Rattle.quiet_check.specs.declared.judge.InodesJudged.{InodesJudged}
use Rattle.quiet_check.specs.declared.judge.Judged.{Judged}
use Rattle.quiet_check.specs.declared.judge.Judged.TheVariants.{Faults, GaveUp}

-- these, where nothing stands in the way of a check
abbrev pub kept_unless : {A : Type 0} → Option Evidence → List A → List A
kept_unless (Some found) xs = []
kept_unless None xs = xs

-- the chunks of a group, and what their cores show of the forks, where the group's inodes can be judged
pub record IsKeptOf (at : Layout) (image : Image) (g : ℕ) (inodes : GroupInodes) : Type 0 where
  pub chunks_are : inodes.chunks.items ≡ kept_unless (evidence (opened_state at image) g units.Inode) (chunks (opened_state at image) g)
  pub notes_are : inodes.notes.items ≡ kept_unless (evidence (opened_state at image) g units.Inode) (notes_of at image g (chunks (opened_state at image) g))

-- whatever the device tells, the units lie in their group, and so does what the notes name
pub record IsInside (at : Layout) (g : ℕ) (inodes : GroupInodes) : Type 0 where
  pub chunks_lie : All (λ u. 8 * u + 7 < group_len_of at g) inodes.chunks.items
  pub notes_fit : AreFit at g inodes.notes.items

-- ---- steps of the check

-- by what was found
abbrev pub kept_by : {A : Type 0} → Judged → List A → List A
kept_by (Faults found) xs = xs
kept_by (GaveUp found) xs = []

pub record IsKeptAs (at : Layout) (image : Image) (g : ℕ) (found : InodesJudged) : Type 0 where
  pub chunks_are : found.inodes.chunks.items ≡ kept_by found.judged (chunks (opened_state at image) g)
  pub notes_are : found.inodes.notes.items ≡ kept_by found.judged (notes_of at image g (chunks (opened_state at image) g))

-- where heads, trees and cores are those of an image, and the notes are those of the units that were seen
abbrev pub WhereNoted : Layout → ℕ → GroupHeads → GroupTrees → List UnitSeen → List ForkNote → (Image → Type 0) → Type 0
WhereNoted at g heads trees seen notes P = WhereGathered at g heads trees seen (λ image. notes ≡ notes_of at image g (unit_numbers seen) → P image)

-- where heads and trees are those of the image
abbrev pub IsKeptBy : Layout → Image → ℕ → GroupHeads → GroupTrees → InodesJudged → Type 0
IsKeptBy at image g heads trees found = heads_seen heads ≡ heads_of at image g → AreTrees at image g trees → IsKeptAs at image g found
