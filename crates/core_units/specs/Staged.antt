-- What a piece of the staging writes, and where.
use Rattle.std.specs.Prelude.{◌≡◌, ℕ, ◌+◌, ◌-◌, ◌<◌, ◌≤◌, Bool, true, false, if◌then◌else◌, List, [], ◌∷◌, length, take, drop, All, Option, Some, None}
use Rattle.blk_device.specs.Contents.{Contents, map_told, put}
use Rattle.blk_device.specs.declared.device.Region.{Region}
use Rattle.blk_device.specs.declared.device.Region.TheVariants.{Image}
use Rattle.bulk_load.specs.Loaded.{IsLoaded}
use Rattle.byte_fields.specs.declared.block.Block.{Block}
use Rattle.geom.specs.Layout.{Layout, device_block_of}
use Rattle.ino_recs.specs.Chunks.{fino_form, ino_form}
use Rattle.rmap_recs.specs.Rmap.{rmap_form}
use Rattle.sblock.specs.Blocks.{IsRising}
use Rattle.sblock.specs.Form.{Form}
use Rattle.sblock.specs.declared.block.Frame.{Frame}
use Rattle.sblock.specs.declared.kind.Kind.{Kind}
use Rattle.sblock.specs.declared.kind.Kind.TheVariants.{Bno, Cnt, Rmap, Refc, Ino, Fino}
use Rattle.span_recs.specs.Refcounts.{refc_form}
use Rattle.span_recs.specs.Spans.{bno_form, cnt_form}
use Rattle.unit_plan.specs.Need.{IsTreeOf}
use Rattle.core_units.specs.declared.lists.Lists.{Lists}
use Rattle.core_units.specs.declared.lists.Lists.TheVariants as lists
use Rattle.core_units.specs.declared.stage.Staging.{Staging}
use Rattle.core_units.specs.declared.stage.Staging.TheVariants.{First, Second, Synced}

-- the contents with these blocks of a group, whose first is the device's block `first`
abbrev pub with_blocks : ℕ → List (ℕ × Block) → Contents → Contents
with_blocks first [] c = c
with_blocks first (p ∷ ps) c = with_blocks first ps (put Image (first + p.0) p.1.bytes c)

-- they lie below this block
abbrev pub LieOn : ℕ → ℕ → List (ℕ × Block) → Type 0
LieOn first limit [] = Unit {0}
LieOn first limit (p ∷ ps) = (first + p.0 < limit) × LieOn first limit ps

-- what passes is kept
abbrev pub IsKept : (Region → ℕ → Bool) → Region → ℕ → Type 0
IsKept keep s b = keep s b ≡ true

-- none of them is kept
abbrev pub AreOut : ℕ → (Region → ℕ → Bool) → List (ℕ × Block) → Type 0
AreOut first keep [] = Unit {0}
AreOut first keep (p ∷ ps) = (keep Image (first + p.0) ≡ false) × AreOut first keep ps

-- what is kept has the bytes that it had
abbrev pub KeepsBytes : (Region → ℕ → Bool) → Contents → Contents → Type 0
KeepsBytes keep old new = (s : Region) (b : ℕ) → keep s b ≡ true → new s b ≡ old s b

-- the number is one of the blocks of a tree of so many records
abbrev pub IsUnder : Kind → ℕ → ℕ → Type 0
IsUnder kind n k = (blocks : ℕ) → IsTreeOf kind n blocks → k < blocks

-- there are at least as many blocks as such a tree has
abbrev pub HasTree : Kind → ℕ → ℕ → Type 0
HasTree kind n many = (blocks : ℕ) → IsTreeOf kind n blocks → blocks ≤ many

-- what the heads of new blocks of the group say
abbrev pub frame_at : Layout → ℕ → ℕ → Frame
frame_at at g lsn = record { group = g; first = device_block_of at g 0; uuid = at.uuid; lsn = lsn }

-- none of the blocks of the group is kept
abbrev pub NoneKept : ℕ → (Region → ℕ → Bool) → List ℕ → Type 0
NoneKept first keep blocks = All (λ b. keep Image (first + b) ≡ false) blocks

-- where a piece that answers this has ended
abbrev pub end_of : ℕ → Option ℕ → ℕ
end_of blocks None = blocks
end_of blocks (Some k) = k

-- The blocks from one number on, at most 64 of them, are those of a new tree of the list, each in that block of the
-- reserve which has its number; their bytes stand there now, and every other block of the device is as it was.
pub record IsStaged {R K : Type 0} (form : Form R K) (list : List R) (reserve : List ℕ) (frame : Frame) (from : ℕ) (next : Option ℕ) (old new : Option Contents) : Type 0 where
  pub blocks : ℕ
  pub tree : IsTreeOf form.kind (length list) blocks
  pub placed : List (ℕ × Block)
  pub loaded : IsLoaded form list (take blocks reserve) frame from (end_of blocks next) [] placed
  pub few : length placed ≤ 64
  pub written : new ≡ map_told (with_blocks frame.first placed) old

-- ---- all btrees of a unit

-- the reserve has as many blocks as the btrees, the second one's behind the first one's
abbrev pub HaveTwo : (first second : Kind) (n m : ℕ) → ℕ → Type 0
HaveTwo first second n m many = HasTree first n many × ((blocks : ℕ) → IsTreeOf first n blocks → HasTree second m (many - blocks))

abbrev pub HaveTrees : Lists → ℕ → Type 0
HaveTrees (lists.Inode ino fino) many = HaveTwo Ino Fino (length ino.items) (length fino.items) many
HaveTrees (lists.Rmap rmap) many = HasTree Rmap (length rmap.items) many
HaveTrees (lists.Free bno cnt) many = HaveTwo Bno Cnt (length bno.items) (length cnt.items) many
HaveTrees (lists.Refc refc) many = HasTree Refc (length refc.items) many

-- the number is one of the first btree's blocks, or of the second's
abbrev pub IsInFirst : Lists → ℕ → Type 0
IsInFirst (lists.Inode ino fino) k = IsUnder Ino (length ino.items) k
IsInFirst (lists.Rmap rmap) k = IsUnder Rmap (length rmap.items) k
IsInFirst (lists.Free bno cnt) k = IsUnder Bno (length bno.items) k
IsInFirst (lists.Refc refc) k = IsUnder Refc (length refc.items) k

abbrev pub IsInSecond : Lists → ℕ → Type 0
IsInSecond (lists.Inode ino fino) k = IsUnder Fino (length fino.items) k
IsInSecond (lists.Rmap rmap) k = ⊥
IsInSecond (lists.Free bno cnt) k = IsUnder Cnt (length cnt.items) k
IsInSecond (lists.Refc refc) k = ⊥

abbrev pub IsAt : Lists → Staging → Type 0
IsAt list (First k) = IsInFirst list k
IsAt list (Second k) = IsInSecond list k
IsAt list Synced = Unit {0}

abbrev pub IsFirstStaged : Lists → (reserve : List ℕ) → Frame → (from : ℕ) → Option ℕ → (old new : Option Contents) → Type 0
IsFirstStaged (lists.Inode ino fino) reserve frame from next old new = IsStaged ino_form ino.items reserve frame from next old new
IsFirstStaged (lists.Rmap rmap) reserve frame from next old new = IsStaged rmap_form rmap.items reserve frame from next old new
IsFirstStaged (lists.Free bno cnt) reserve frame from next old new = IsStaged bno_form bno.items reserve frame from next old new
IsFirstStaged (lists.Refc refc) reserve frame from next old new = IsStaged refc_form refc.items reserve frame from next old new

-- the second btree's blocks are those behind the first one's
abbrev pub IsBehind : {R K : Type 0} (form : Form R K) (list : List R) (kind : Kind) (n : ℕ) (reserve : List ℕ) → Frame → (from : ℕ) → Option ℕ → (old new : Option Contents) → Type 0
IsBehind form list kind n reserve frame from next old new = (blocks : ℕ) × IsTreeOf kind n blocks × IsStaged form list (drop blocks reserve) frame from next old new

abbrev pub IsSecondStaged : Lists → (reserve : List ℕ) → Frame → (from : ℕ) → Option ℕ → (old new : Option Contents) → Type 0
IsSecondStaged (lists.Inode ino fino) reserve frame from next old new = IsBehind fino_form fino.items Ino (length ino.items) reserve frame from next old new
IsSecondStaged (lists.Rmap rmap) reserve frame from next old new = ⊥
IsSecondStaged (lists.Free bno cnt) reserve frame from next old new = IsBehind cnt_form cnt.items Bno (length bno.items) reserve frame from next old new
IsSecondStaged (lists.Refc refc) reserve frame from next old new = ⊥

abbrev pub has_two : Lists → Bool
has_two (lists.Inode ino fino) = true
has_two (lists.Rmap rmap) = false
has_two (lists.Free bno cnt) = true
has_two (lists.Refc refc) = false

-- where the staging stands behind a piece
abbrev pub behind_first : Lists → Option ℕ → Staging
behind_first list (Some k) = First k
behind_first list None = if has_two list then Second 0 else Synced

abbrev pub behind_second : Option ℕ → Staging
behind_second (Some k) = Second k
behind_second None = Synced

-- a piece of the staging
abbrev pub IsPiece : Lists → (reserve : List ℕ) → Frame → (at now : Staging) → (old new : Option Contents) → Type 0
IsPiece list reserve frame (First k) now old new = (next : Option ℕ) × IsFirstStaged list reserve frame k next old new × (now ≡ behind_first list next)
IsPiece list reserve frame (Second k) now old new = (next : Option ℕ) × IsSecondStaged list reserve frame k next old new × (now ≡ behind_second next)
IsPiece list reserve frame Synced now old new = (now ≡ Synced) × (new ≡ old)

abbrev pub is_synced : Staging → Bool
is_synced (First k) = false
is_synced (Second k) = false
is_synced Synced = true
