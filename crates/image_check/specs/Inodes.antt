-- What the check of the inodes of all groups kept of them, for their forks.
use Rattle.std.specs.Prelude.{◌≡◌, ℕ, ◌<◌, true, List}
use Rattle.check_phases.specs.Entries.{passes_judged}
use Rattle.fork_pass.specs.Passed.{notes_at, units_at}
use Rattle.fs_state.specs.Chunks.{chunks}
use Rattle.fs_model.specs.declared.unit.Unit.TheVariants as units
use Rattle.fs_state.specs.Kinds.{Image}
use Rattle.geom.specs.Layout.{Layout}
use Rattle.inode_pass.specs.Notes.{notes_of}
use Rattle.inode_pass.specs.Units.{opened_state}
use Rattle.inode_pass.specs.declared.note.GroupInodes.{GroupInodes}

-- of a group its chunks, and what their cores show of the forks
pub record HasInodes (at : Layout) (image : Image) (inodes : List GroupInodes) (g : ℕ) : Type 0 where
  pub chunked : units_at inodes g ≡ chunks (opened_state at image) g
  pub noted : notes_at inodes g ≡ notes_of at image g (chunks (opened_state at image) g)

-- that of each group whose inodes pass
abbrev pub AreKeptOf : Layout → Image → List GroupInodes → Type 0
AreKeptOf at image inodes = (g : ℕ) → g < at.agcount → passes_judged (opened_state at image) g units.Inode ≡ true → HasInodes at image inodes g
