-- What first events do to forks, and so to settled owners (Online Fsck Design, "Eventual Consistency").
use Rattle.std.specs.Prelude.{◌≡◌, ℕ, ◌+◌, ◌^◌, ◌-◌, ◌<◌, ◌≤◌, List, [], ◌∷◌, Option, Some, None}
use Rattle.dinode_core.specs.declared.mapping.Mapping.{Mapping}
use Rattle.fs_model.specs.declared.entry.Entry.TheVariants as entries
use Rattle.fs_model.specs.declared.entry.Extent.{Extent}
use Rattle.fs_model.specs.declared.entry.Piece.{Piece}
use Rattle.fs_model.specs.declared.entry.SharedPiece.{SharedPiece}
use Rattle.geom.specs.Apart.{HasFitting}
use Rattle.geom.specs.Layout.{Layout, group_len_of, split_of}
use Rattle.sblock.specs.declared.kind.Kind.{Kind}
use Rattle.fs_state.specs.State.{State}
use Rattle.fs_change.specs.Chains.{settled_forks}
use Rattle.fs_change.specs.Changes.{data_of, extent_of}
use Rattle.fs_change.specs.Step.{Step}

abbrev pub Each : {X : Type 0} → (X → Type 0) → List X → Type 0
Each P [] = Unit {0}
Each P (x ∷ xs) = P x × Each P xs

-- the n blocks from a place on lie in its group
abbrev pub LieFrom : Layout → Option (ℕ × ℕ) → ℕ → Type 0
LieFrom at None n = ⊥
LieFrom at (Some p) n = p.1 + n ≤ group_len_of at p.0

-- a mapping has a block, lies in one group, and its offsets are below 2 ^ 54
pub record IsPlaced (at : Layout) (m : Mapping) : Type 0 where
  pub some : 0 < m.count
  pub offsets : m.offset + m.count ≤ 2 ^ 54
  pub lies : LieFrom at (split_of at m.block) m.count

-- mappings stand in the order of their offsets, of which no two have one in common
abbrev pub AreApart : List Mapping → Type 0
AreApart [] = Unit {0}
AreApart (m ∷ ms) = Each (λ q. m.offset + m.count ≤ q.offset) ms × AreApart ms

-- What does a data fork have that can be read? And its inode's number is none of the other owners'.
pub record IsSound (a : State) (ino : ℕ) : Type 0 where
  pub number : ino < 2 ^ 64 - 9
  pub placed : Each (IsPlaced a.geometry) (data_of a ino)
  pub apart : AreApart (data_of a ino)

-- the run lies in a group, and the offsets that it is mapped at are below 2 ^ 54
pub record IsRunAt (a : State) (e : Extent) (offset : ℕ) : Type 0 where
  pub group : e.group < a.geometry.agcount
  pub ends : e.block + e.count ≤ group_len_of a.geometry e.group
  pub offsets : offset + e.count ≤ 2 ^ 54

-- A mapping that is made leaves the settled owners of all forks in every group, and so does one that is taken away.
abbrev pub MappedKeeps : Type 0
MappedKeeps = (a b : State) (left : List Kind) (m : Piece) (h : ℕ) → HasFitting a.geometry → Step a left (entries.Mapped m) b → IsSound a m.ino → IsRunAt a (extent_of m) m.offset → settled_forks b h ≡ settled_forks a h

abbrev pub UnmappedKeeps : Type 0
UnmappedKeeps = (a b : State) (left : List Kind) (m : Piece) (h : ℕ) → HasFitting a.geometry → Step a left (entries.Unmapped m) b → IsSound a m.ino → IsRunAt a (extent_of m) m.offset → settled_forks b h ≡ settled_forks a h

-- So does a piece that becomes written, and one that is mapped a second time.
abbrev pub ConvertedKeeps : Type 0
ConvertedKeeps = (a b : State) (left : List Kind) (m : Piece) (h : ℕ) → HasFitting a.geometry → Step a left (entries.Converted m) b → IsSound a m.ino → IsRunAt a (extent_of m) m.offset → settled_forks b h ≡ settled_forks a h

abbrev pub shared_extent : SharedPiece → Extent
shared_extent m = record { group = m.group; block = m.block; count = m.count }

abbrev pub SharedKeeps : Type 0
SharedKeeps = (a b : State) (left : List Kind) (m : SharedPiece) (h : ℕ) → HasFitting a.geometry → Step a left (entries.Shared m) b → IsSound a m.to → IsRunAt a (shared_extent m) m.to_offset → settled_forks b h ≡ settled_forks a h
