-- How many blocks does the check of a unit read at most?
use Rattle.std.specs.Prelude.{ℕ, ◌+◌, ◌==◌, if◌then◌else◌, List}
use Rattle.check_phases.specs.Kept.{most_in}
use Rattle.fork_pass.specs.Counted.{forks_most}
use Rattle.fs_state.specs.Chunks.{chunks}
use Rattle.fs_model.specs.declared.unit.Unit.{Unit as ScrubUnit}
use Rattle.fs_model.specs.declared.unit.Unit.TheVariants as units
use Rattle.fs_state.specs.Kinds.{Image}
use Rattle.geom.specs.Layout.{Layout}
use Rattle.group_trees.specs.Counted.{trees_most}
use Rattle.inode_pass.specs.Notes.{notes_of}
use Rattle.inode_pass.specs.Units.{opened_state}
use Rattle.inode_pass.specs.declared.note.ForkNote.{ForkNote}

module _ (at : Layout) (image : Image) where
  -- what the cores of a group's chunks show of the forks
  abbrev pub notes_in : ℕ → List ForkNote
  notes_in g = notes_of at image g (chunks (opened_state at image) g)

  -- Before any reverse mappings are judged? The forks that the cores don't show, and the blocks of their inodes.
  unfoldable pub forks_first : ℕ
  forks_first = forks_most at image notes_in

  -- Reverse mappings? The six btrees of the group; with those of the first group all that is read before.
  unfoldable pub mappings_most : ℕ → ℕ
  mappings_most g = trees_most at image g + (if g == 0 then forks_first else 0)

  unfoldable pub most_read : ℕ → ScrubUnit → ℕ
  most_read g units.Inode = most_in at image g units.Inode
  most_read g units.Rmap = mappings_most g
  most_read g units.Free = most_in at image g units.Free
  most_read g units.Refc = most_in at image g units.Refc
