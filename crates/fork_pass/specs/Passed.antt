-- What a pass over the forks of inodes has found, by the state that the image stands for.
use Rattle.std.specs.Prelude.{◌≡◌, ⊤, ℕ, zero, suc, ◌+◌, ◌*◌, ◌/◌, ◌<◌, true, All, List, [], ◌∷◌, length, map, flat_map, Option, Some, None}
use Rattle.fs_state.specs.Chunks.{chunks}
use Rattle.fs_state.specs.Contradiction.{bad_fork, first_bad_fork}
use Rattle.fs_state.specs.Lists.{first_of_all, numbers}
use Rattle.fs_model.specs.declared.claim.Evidence.{Evidence}
use Rattle.fs_state.specs.Apart.{is_chunk}
use Rattle.fs_state.specs.Kinds.{Image}
use Rattle.fs_state.specs.State.{State}
use Rattle.geom.specs.Layout.{Layout, group_len_of, inode_at, split_of}
use Rattle.inode_pass.specs.Notes.{AreFit, notes_of}
use Rattle.inode_pass.specs.Units.{opened_state}
use Rattle.inode_pass.specs.declared.note.ForkNote.{ForkNote}
use Rattle.inode_pass.specs.declared.note.ForkNote.TheVariants.{Mapping, Block}
use Rattle.inode_pass.specs.declared.note.GroupInodes.{GroupInodes}
use Rattle.unit_plan.specs.declared.claims.ClaimSet.{ClaimSet}
use Rattle.unit_plan.specs.declared.piece.Piece.{Piece}
use Rattle.fork_pass.specs.Pieces.{fork_pieces, inode_pieces, mapping_piece, piece_where}
use Rattle.fork_pass.specs.Sets.{Adds, Leaves, pieces_at}
use Rattle.fork_pass.specs.declared.pass.ForksSeen.{ForksSeen}
use Rattle.fork_pass.specs.declared.pass.ForksSeen.TheVariants.{Claims, GaveUp}

-- the units that were kept of a group, and the notes
unfoldable pub units_at : List GroupInodes → ℕ → List ℕ
units_at [] g = []
units_at (v ∷ vs) zero = v.chunks.items
units_at (v ∷ vs) (suc g) = units_at vs g

unfoldable pub notes_at : List GroupInodes → ℕ → List ForkNote
notes_at [] g = []
notes_at (v ∷ vs) zero = v.notes.items
notes_at (v ∷ vs) (suc g) = notes_at vs g

-- the units of each group lie in it
abbrev pub LieInGroups : Layout → List GroupInodes → Type 0
LieInGroups at inodes = (g : ℕ) → g < at.agcount → All (λ u. 8 * u + 7 < group_len_of at g) (units_at inodes g)

-- the notes of each group fit
abbrev pub FitInGroups : Layout → List GroupInodes → Type 0
FitInGroups at inodes = (g : ℕ) → g < at.agcount → AreFit at g (notes_at inodes g)

-- the units are the chunks of the groups
abbrev pub AreChunks : State → List GroupInodes → Type 0
AreChunks a inodes = (g : ℕ) → g < a.geometry.agcount → units_at inodes g ≡ chunks a g

-- the notes are those of the units of each group
abbrev pub AreNotes : Layout → Image → List GroupInodes → Type 0
AreNotes at image inodes = (g : ℕ) → g < at.agcount → notes_at inodes g ≡ notes_of at image g (units_at inodes g)

-- what these inodes claim in a group
abbrev pub all_pieces : State → List ℕ → ℕ → List Piece
all_pieces a inos g = flat_map (inode_pieces a g) inos

-- all of these are passed, each with its evidence and its pieces in a group: this is the first evidence; where there
-- is none, the pieces were put
pub record ArePassed {X : Type 0} (bad : X → Option Evidence) (pieces : ℕ → X → List Piece) (xs : List X) (old now : List ClaimSet) (found : Option Evidence) : Type 0 where
  pub first : found ≡ first_of_all (map bad xs)
  pub put : found ≡ None → Adds old now (λ g. flat_map (pieces g) xs)

-- they are passed once the rest of them are
pub record AreLeft {X : Type 0} (bad : X → Option Evidence) (pieces : ℕ → X → List Piece) (all rest : List X) (old now : List ClaimSet) : Type 0 where
  pub first : first_of_all (map bad rest) ≡ first_of_all (map bad all)
  pub put : Leaves old now (λ g. flat_map (pieces g) all) (λ g. flat_map (pieces g) rest)

-- these inodes are passed: the first fork that can't be read, or what their forks claim
abbrev pub InodesPassed : State → List ℕ → List ClaimSet → List ClaimSet → Option Evidence → Type 0
InodesPassed a = ArePassed (bad_fork a) (inode_pieces a)

abbrev pub InodesLeft : State → List ℕ → List ℕ → List ClaimSet → List ClaimSet → Type 0
InodesLeft a = AreLeft (bad_fork a) (inode_pieces a)

-- the inodes of a block of a group, of a unit, and of units of a group
abbrev pub block_inodes : Layout → ℕ → ℕ → List ℕ
block_inodes at g b = map (inode_at at g b) (numbers 0 8)

abbrev pub unit_inodes : Layout → ℕ → ℕ → List ℕ
unit_inodes at g u = flat_map (λ j. block_inodes at g (8 * u + j)) (numbers 0 8)

abbrev pub group_inodes : Layout → ℕ → List ℕ → List ℕ
group_inodes at g units = flat_map (unit_inodes at g) units

-- the first evidence of what a note of group g stands for: a mapping has none
abbrev pub note_bad : State → ℕ → ForkNote → Option Evidence
note_bad a g (Mapping ino f m) = None
note_bad a g (Block b) = first_of_all (map (bad_fork a) (block_inodes a.geometry g b))

-- what it claims in group h: a mapping's piece, or those of the block's inodes
abbrev pub note_pieces : State → ℕ → ℕ → ForkNote → List Piece
note_pieces a g h (Mapping ino f m) = piece_where h (mapping_piece f ino m) (split_of a.geometry m.block)
note_pieces a g h (Block b) = all_pieces a (block_inodes a.geometry g b) h

abbrev pub NotesPassed : State → ℕ → List ForkNote → List ClaimSet → List ClaimSet → Option Evidence → Type 0
NotesPassed a g = ArePassed (note_bad a g) (note_pieces a g)

abbrev pub NotesLeft : State → ℕ → List ForkNote → List ForkNote → List ClaimSet → List ClaimSet → Type 0
NotesLeft a g = AreLeft (note_bad a g) (note_pieces a g)

-- the block of a note lies in a chunk
abbrev pub IsInChunk : State → ℕ → ForkNote → Type 0
IsInChunk a g (Mapping ino f m) = ⊤
IsInChunk a g (Block b) = is_chunk a g (b / 8) ≡ true

-- the first evidence of all forks; where there is none, each group's set has what all forks claim in the group
pub record AreForkClaims (a : State) (sets : List ClaimSet) : Type 0 where
  pub none : first_bad_fork a ≡ None
  pub long : length sets ≡ a.geometry.agcount
  pub each : (g : ℕ) → pieces_at sets g ≡ fork_pieces a g

abbrev pub AreForksOf : State → ForksSeen → Type 0
AreForksOf a (Claims sets) = AreForkClaims a sets.items
AreForksOf a (GaveUp evidence) = first_bad_fork a ≡ Some evidence

-- as many sets as groups
abbrev pub HasSets : ℕ → ForksSeen → Type 0
HasSets n (Claims sets) = length sets.items ≡ n
HasSets n (GaveUp evidence) = ⊤

-- the answer is of the state that the image stands for right after it was opened, where the units that were kept are
-- its chunks, and the notes those of its cores
abbrev pub IsPass : Layout → List GroupInodes → Image → ForksSeen → Type 0
IsPass at inodes image seen = AreChunks (opened_state at image) inodes → AreNotes at image inodes → AreForksOf (opened_state at image) seen

-- the inodes of n groups from this one on
abbrev pub inodes_from : Layout → List GroupInodes → ℕ → ℕ → List ℕ
inodes_from at inodes g n = flat_map (λ h. group_inodes at h (units_at inodes h)) (numbers g n)
