-- What an entry of the journal says of the states before and after it (Online Fsck Design, "Eventual Consistency", "Live
-- Updates"; formats of entries: fs_model).
use Rattle.std.specs.Prelude.{◌≡◌, ◌⊎◌, ℕ, ◌-◌, ◌*◌, ◌/◌, ◌<◌, ◌≤◌, ◌==◌, ◌&&◌, ◌||◌, nat_lt, Bool, true, false, not, List, [], ◌∷◌, length, take, slice_get, Option, Some, None, Result, Ok, Err, is_ok, Contains, if◌then◌else◌}
use Rattle.std.specs.List.{list_any, list_all}
use Rattle.dinode_core.specs.declared.mapping.Fork.{Fork}
use Rattle.dinode_core.specs.declared.mapping.Fork.TheVariants as forks
use Rattle.dinode_core.specs.declared.mapping.ForkFault.{ForkFault}
use Rattle.fs_model.specs.declared.entry.Entry.{Entry}
use Rattle.fs_model.specs.declared.entry.Entry.TheVariants as entries
use Rattle.fs_model.specs.declared.entry.Extent.{Extent}
use Rattle.fs_model.specs.declared.entry.Piece.{Piece}
use Rattle.fs_model.specs.declared.entry.SharedPiece.{SharedPiece}
use Rattle.fs_model.specs.declared.fault.Cause.{Cause}
use Rattle.fs_model.specs.declared.fault.Cause.TheVariants as causes
use Rattle.fs_model.specs.declared.unit.Trust.TheVariants.{Good}
use Rattle.fs_model.specs.declared.unit.Unit.{Unit as ScrubUnit}
use Rattle.geom.specs.Layout.{fs_block_of}
use Rattle.ino_recs.specs.declared.chunk.InoRec.{InoRec}
use Rattle.sblock.specs.declared.kind.Kind.{Kind}
use Rattle.sblock.specs.declared.kind.Kind.TheVariants.{Bno, Rmap, Refc, Ino, Fino}
use Rattle.tree_defs.specs.Lists.{is_in}
use Rattle.fs_state.specs.Apart.{is_inode, unit_verifies}
use Rattle.fs_state.specs.Group.{is_among}
use Rattle.fs_state.specs.State.{State, Group, ForkList, blocks_in}
use Rattle.fs_state.specs.declared.intent.Intent.{Intent}
use Rattle.fs_state.specs.declared.intent.IntentKind.{IntentKind}
use Rattle.fs_state.specs.declared.intent.IntentKind.TheVariants.{RefMore, RefLess, Free}
use Rattle.fs_state.specs.Contradiction.{evidence}
use Rattle.fs_state.specs.Derive.{is_free}
use Rattle.fs_state.specs.Faults.{kind_of_fault}
use Rattle.fs_state.specs.Records.{unit_of, kinds_of}
use Rattle.fs_state.specs.Lists.{numbers}
use Rattle.fs_change.specs.Chains.{most_chains, pending, gives, takes, Quiet}
use Rattle.fs_change.specs.Changes.{extent_of, data_of, mapped, unmapped, converted, shared, rmap_done, ref_done, freed, taken, given, refilled, trimmed, marked, judged, reserved, released, owner_of_run, reaped}
use Rattle.fs_change.specs.Choice.{is_guarded, is_bit, none_sick, space_kinds, piece_kinds, inode_kinds, chosen, chosen_of, spare_block, free_inode, chunk_run, inode_of}
pub use Rattle.fs_change.specs.Edited.{group_of_inode, group_of_entry, edits_count, edits_reserve, edits_reaped, edited_kinds, is_asked, edited_in, may_leave, met_by, leaves_faults}
use Rattle.fs_change.specs.Loose.{Loosely, owners_in, lost_to, tree_blocks}
use Rattle.fs_change.specs.Parts.{sick_in, records_in}
use Rattle.fs_change.specs.Records.{count_at, most_counted, stretch, has_inode, is_piece, is_unmapped, is_unwritten_at}
use Rattle.fs_change.specs.Switch.{has_owned, owned_by, is_reserve_of, AreLaid, kind_need, need, switched}

-- ---- first events

abbrev pub is_mapping_of : ℕ → Intent → Bool
is_mapping_of ino i = (gives i.kind || takes i.kind) && (i.ino == ino)

-- an allocated inode whose data fork can be read
pub record IsFile (a : State) (ino : ℕ) : Type 0 where
  pub inode : is_inode a ino ≡ true
  pub allocated : is_free (a.core ino) ≡ false
  pub readable : is_ok (a.fork ino forks.Data) ≡ true

-- a first event: the chain owes nothing, and no chain owes a reverse mapping of the inode, which is a file
pub record IsFirst (a : State) (chain ino : ℕ) : Type 0 where
  pub file : IsFile a ino
  pub open_chain : chain < most_chains
  pub owes_nothing : a.chains chain ≡ []
  pub none_pending : list_any (is_mapping_of ino) (pending a) ≡ false

-- reverse mappings say of the run whether somebody has it
abbrev pub is_owned : State → Extent → Bool
is_owned a e = is_guarded (records_in (a.group e.group) Rmap) e.block e.count

-- for some gates and some wanted count the choice is this run
abbrev pub IsChosen : State → ℕ → Extent → Type 0
IsChosen a ino e = (gates : ℕ → Bool) × (count : ℕ) × (chosen a gates count ino ≡ Some e)

pub record MayMap (a : State) (m : Piece) : Type 0 where
  pub some : 0 < m.count
  pub first : IsFirst a m.chain m.ino
  pub unmapped : is_unmapped m.offset m.count (data_of a m.ino) ≡ true
  pub chosen : IsChosen a m.ino (extent_of m)
  pub unowned : is_owned a (extent_of m) ≡ false

-- a piece that is taken away, shared or made written has so many blocks at most
abbrev pub most_changed : ℕ
most_changed = 1024

-- the piece is one of the inode's data fork
pub record MayChange (a : State) (m : Piece) : Type 0 where
  pub some : 0 < m.count
  pub most : m.count ≤ most_changed
  pub first : IsFirst a m.chain m.ino
  pub sound : none_sick piece_kinds (a.group m.group) ≡ true
  pub piece : is_piece m.offset (fs_block_of a.geometry m.group m.block) m.count (data_of a m.ino) ≡ true

pub record MayShare (a : State) (m : SharedPiece) : Type 0 where
  pub some : 0 < m.count
  pub most : m.count ≤ most_changed
  pub from_first : IsFirst a m.chain m.from
  pub to_first : IsFirst a m.chain m.to
  pub sound : none_sick piece_kinds (a.group m.group) ≡ true
  pub below : list_all (λ b. nat_lt (count_at (records_in (a.group m.group) Refc) b) most_counted) (numbers m.block m.count) ≡ true
  pub piece : is_piece m.from_offset (fs_block_of a.geometry m.group m.block) m.count (data_of a m.from) ≡ true
  pub written : is_unwritten_at m.from_offset (data_of a m.from) ≡ false
  pub unmapped : is_unmapped m.to_offset m.count (data_of a m.to) ≡ true

-- ---- steps

-- the chain's next intent, over this run of the group
pub record IsNext (a : State) (c g b n : ℕ) (i : Intent) (rest : List Intent) : Type 0 where
  pub next : a.chains c ≡ i ∷ rest
  pub group : i.group ≡ g
  pub block : i.block ≡ b
  pub some : 0 < n
  pub count : n ≤ i.count

abbrev pub is_ref : Bool → IntentKind → Bool
is_ref true RefMore = true
is_ref false RefLess = true
is_ref more kind = false

-- the first stretch of one count, of so many blocks; all of them where counts aren't read any more
abbrev pub first_stretch : Group → ℕ → ℕ → ℕ
first_stretch p b n = if sick_in p Refc then n else stretch (records_in p Refc) b n

-- whether a run is kept: its owner is there, or can't be asked for
abbrev pub is_kept : State → Extent → Bool
is_kept a e = sick_in (a.group e.group) Rmap || is_owned a e

-- ---- inodes

-- the inode btree has the first record of free inodes
abbrev pub HasSame : List InoRec → List InoRec → Type 0
HasSame inos [] = ⊥
HasSame inos (r ∷ rs) = Contains inos r

-- the lowest free inode, all cores of its chunk verifying; or there is none, and it is the first of a new chunk
abbrev pub IsTaken : State → ℕ → ℕ → Option ℕ → Type 0
IsTaken a g i None = (gates : ℕ → Bool) × (free_inode a gates ≡ Some (g, i)) × HasSame (records_in (a.group g) Ino) (records_in (a.group g) Fino) × (unit_verifies a.geometry a.core g (i / 64) ≡ true) × (is_free (a.core (inode_of a g i)) ≡ true)
IsTaken a g i (Some b) =
    let e : Extent = record { group = g; block = b; count = 8 } in
    (gates : ℕ → Bool) × (free_inode a gates ≡ None) × (chunk_run a gates ≡ Some e) × (i ≡ 8 * b) × (is_owned a e ≡ false)

abbrev pub IsEmptyFork : Result ForkList ForkFault → Type 0
IsEmptyFork (Ok list) = list.mappings ≡ []
IsEmptyFork (Err fault) = ⊥

-- its record says so too
abbrev pub is_allocated : ℕ → List InoRec → Bool
is_allocated i rs = list_any (λ r. has_inode i r && not (is_bit r.free (i - r.startino))) rs

-- an allocated inode, both forks of which can be read and are empty
pub record MayGive (a : State) (ino : ℕ) : Type 0 where
  pub inode : is_inode a ino ≡ true
  pub allocated : is_free (a.core ino) ≡ false
  pub sound : none_sick inode_kinds (a.group (group_of_inode a ino)) ≡ true
  pub empty : (f : Fork) → IsEmptyFork (a.fork ino f)
  pub none_pending : list_any (is_mapping_of ino) (pending a) ≡ false

-- ---- the free list

-- so many blocks a short list is filled to
abbrev pub filled_list : ℕ
filled_list = 16

pub record MayRefill (a : State) (e : Extent) : Type 0 where
  pub some : 0 < e.count
  pub sound : none_sick space_kinds (a.group e.group) ≡ true
  pub short : length (a.group e.group).free_list < 12
  pub chosen : chosen_of a (filled_list - length (a.group e.group).free_list) (e.group ∷ []) ≡ Some e
  pub unowned : is_owned a e ≡ false

-- the blocks of a long list that may go: so many as it is filled to stay, its last ones
abbrev pub to_trim : List ℕ → List ℕ
to_trim list = take (length list - filled_list) list

pub record MayTrim (a : State) (e : Extent) : Type 0 where
  pub some : 0 < e.count
  pub sound : none_sick space_kinds (a.group e.group) ≡ true
  pub on_list : list_all (λ b. is_in b (to_trim (a.group e.group).free_list)) (numbers e.block e.count) ≡ true

-- ---- trust

-- what can be said of a cause by itself
abbrev pub MayMark : Cause → Type 0
MayMark (causes.Short have need) = have < need
MayMark (causes.Large n) = 160 < n
MayMark (causes.Block block fault) = Unit {0}
MayMark causes.Missing = Unit {0}
MayMark causes.Overlap = Unit {0}
MayMark causes.Owner = Unit {0}

-- ---- rebuilding

-- the list's first block while it has more than 8, else the lowest spare block, else the list's first; a spare block is
-- noted by free space or by reverse mappings at least
abbrev pub MayReserve : State → List Kind → ℕ → ScrubUnit → ℕ → Bool → Type 0
MayReserve a left g unit b true = (is_reserve_of unit (a.group g) ≡ true) × (length (a.group g).free_list ≤ 8) × (spare_block a g unit ≡ Some b) × ((is_among Bno left && is_among Rmap left) ≡ false)
MayReserve a left g unit b false = (is_reserve_of unit (a.group g) ≡ true) × (slice_get (a.group g).free_list 0 ≡ Some b) × ((8 < length (a.group g).free_list) ⊎ (spare_block a g unit ≡ None))

-- nothing is pending, nothing contradicts the derivation, and the reserve has as many blocks as are needed
pub record MaySwitch (a : State) (g : ℕ) (unit : ScrubUnit) : Type 0 where
  pub own : is_reserve_of unit (a.group g) ≡ true
  pub quiet : Quiet a g
  pub sound : evidence a g unit ≡ None
  pub enough : need a g unit ≤ length (a.group g).reserve

-- the roots are the first blocks of the new trees; a unit of one tree has the second root 0
abbrev pub AreRoots : List Kind → (Kind → List ℕ) → ℕ → ℕ → Type 0
AreRoots [] blocks root second = Unit {0}
AreRoots (k ∷ []) blocks root second = (slice_get (blocks k) 0 ≡ Some root) × (second ≡ 0)
AreRoots (k ∷ j ∷ ks) blocks root second = (slice_get (blocks k) 0 ≡ Some root) × (slice_get (blocks j) 0 ≡ Some second)

-- there is a reserve, and it is the unit's
pub record MayRelease (a : State) (g : ℕ) (unit : ScrubUnit) : Type 0 where
  pub some : 0 < length (a.group g).reserve
  pub own : is_reserve_of unit (a.group g) ≡ true

-- each block of the run is in limbo with this owner, and reverse mappings were judged
pub record MayReap (a : State) (e : Extent) (owner : ℕ) : Type 0 where
  pub some : 0 < e.count
  pub good : ((a.group e.group).tree Rmap).trust ≡ Good
  pub in_limbo : list_all (λ b. has_owned (a.group e.group).limbo (owned_by owner b)) (numbers e.block e.count) ≡ true

-- ---- all rows

-- the group is one of the image's
abbrev pub HasGroup : State → ℕ → Type 0
HasGroup a g = nat_lt g a.geometry.agcount ≡ true

-- What does an entry say, where the trees `left` were left as they were? A row for each: what must hold before, and the
-- state that it decides.
abbrev pub Row : State → List Kind → Entry → State → Type 0
Row a left (entries.Mapped m) x = MayMap a m × (x ≡ mapped m a)
Row a left (entries.Unmapped m) x = MayChange a m × (x ≡ unmapped m a)
Row a left (entries.Converted m) x = MayChange a m × (x ≡ converted m a)
Row a left (entries.Shared m) x = MayShare a m × (x ≡ shared m a)
Row a left (entries.RmapDone c ino g b n) x =
    (i : Intent) × (rest : List Intent) × IsNext a c g b n i rest × ((gives i.kind || takes i.kind) ≡ true) × (i.ino ≡ ino) × (i.count ≡ n) × (x ≡ rmap_done left c i rest a)
Row a left (entries.RefDone c g b n more) x =
    (i : Intent) × (rest : List Intent) × IsNext a c g b n i rest × (is_ref more i.kind ≡ true) × (n ≡ first_stretch (a.group g) b i.count) × (x ≡ ref_done left c more (record { group = g; block = b; count = n }) i rest a)
Row a left (entries.Freed c g b n kept) x =
    (i : Intent) × (rest : List Intent) × IsNext a c g b n i rest × (i.kind ≡ Free) × (i.count ≡ n) × (kept ≡ is_kept a (record { group = g; block = b; count = n })) × (x ≡ freed left c kept (record { group = g; block = b; count = n }) rest a)
Row a left (entries.Taken writer ino uid chunk) x =
    (i : ℕ) × IsTaken a (group_of_inode a ino) i chunk × (ino ≡ inode_of a (group_of_inode a ino) i) × (x ≡ taken (group_of_inode a ino) i ino uid chunk a)
Row a left (entries.Given writer ino) x =
    (i : ℕ) × MayGive a ino × (is_allocated i (records_in (a.group (group_of_inode a ino)) Ino) ≡ true) × (ino ≡ inode_of a (group_of_inode a ino) i) × (x ≡ given (group_of_inode a ino) i ino a)
Row a left (entries.Refilled e) x = MayRefill a e × (x ≡ refilled e a)
Row a left (entries.Trimmed e) x = MayTrim a e × (x ≡ trimmed e a)
Row a left (entries.Marked g k cause) x = HasGroup a g × MayMark cause × (x ≡ marked g k a)
Row a left (entries.Reserved g unit b spare) x = MayReserve a left g unit b spare × (x ≡ reserved left g unit b spare a)
Row a left (entries.Released g unit) x = MayRelease a g unit × (x ≡ released g a)
Row a left (entries.Fault g unit fault) x = HasGroup a g × (unit ≡ unit_of (kind_of_fault fault)) × (x ≡ marked g (kind_of_fault fault) a)
Row a left (entries.Verdict g unit verdict) x = HasGroup a g × (x ≡ judged g unit verdict a)
Row a left (entries.Switched g unit root second) x =
    (blocks : Kind → List ℕ) × MaySwitch a g unit × AreLaid (kind_need a g unit) (kinds_of unit) (blocks_in (a.group g).reserve) blocks × AreRoots (kinds_of unit) blocks root second × (x ≡ switched a g unit blocks)
Row a left (entries.Reaped e) x = MayReap a e (owner_of_run (a.group e.group) e) × (x ≡ reaped left (owner_of_run (a.group e.group) e) e a)
Row a left (entries.Reply writer line code done refused begun) x = x ≡ a

-- ---- steps of a state

-- where reverse mappings only follow, and no block got another owner, they aren't cut anew
abbrev pub AreUncut : Entry → Group → Group → Type 0
AreUncut e p q = is_asked e Rmap ≡ false → lost_to (owners_in p) (owners_in q) ≡ [] → tree_blocks q Rmap ≡ tree_blocks p Rmap

-- What does an entry say of the states before and after it? The row holds, each tree whose edit meets a fault is left, and
-- the second state is the one that the row decides, but for what is left open.
pub record Step (a : State) (left : List Kind) (e : Entry) (b : State) : Type 0 where
  pub decided : State
  pub row : Row a left e decided
  pub leaves : list_all (λ k. is_among k (may_leave a e)) left ≡ true
  pub met : leaves_faults a left e ≡ true
  pub uncut : AreUncut e (decided.group (group_of_entry a e)) (b.group (group_of_entry a e))
  pub loosely : Loosely (group_of_entry a e) left (edited_in a left e) a decided b
