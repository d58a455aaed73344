-- Why can't a unit be derived? The first evidence that what it is derived from contradicts itself (Online Fsck
-- Design, "Cross-Referencing Space Metadata").
use Rattle.std.specs.Prelude.{ℕ, ◌+◌, ◌*◌, ◌/◌, ◌==◌, ◌≡◌, Bool, true, false, not, ◌&&◌, List, [], ◌∷◌, map, filter, Option, Some, None, Result, Ok, Err, if◌then◌else◌}
use Rattle.std.specs.List.{list_any}
use Rattle.std.specs.Option.{option_or}
use Rattle.dinode_core.specs.declared.mapping.Fork.TheVariants as forks
use Rattle.dinode_core.specs.declared.mapping.ForkFault.{ForkFault}
use Rattle.fs_model.specs.declared.claim.Claim.{Claim}
use Rattle.fs_model.specs.declared.claim.Claim.TheVariants.{Heads, Log, List as FreeList, Tree, Reserve, Limbo, Chunk, Data, Attr, ForkTree, Staging}
use Rattle.fs_model.specs.declared.claim.Evidence.{Evidence}
use Rattle.fs_model.specs.declared.claim.Evidence.TheVariants.{BadFork, BadChunk, BadTree, Overlap, Later}
use Rattle.fs_model.specs.declared.unit.Unit.{Unit as ScrubUnit}
use Rattle.fs_model.specs.declared.unit.Unit.TheVariants as units
use Rattle.geom.specs.Layout.{group_len_of}
use Rattle.rmap_recs.specs.Words.{is_unwritten}
use Rattle.sblock.specs.declared.block.BlockFault.{BlockFault}
use Rattle.sblock.specs.declared.block.BlockFault.TheVariants as blocks
use Rattle.sblock.specs.declared.kind.Kind.{Kind}
use Rattle.sblock.specs.declared.kind.Kind.TheVariants.{Rmap, Ino}
use Rattle.fs_state.specs.Apart.{ino_lists, rmap_lists}
use Rattle.fs_state.specs.State.{State, CoreState, Broken, Whole, ForkList, Reading, Readable, Unreadable, is_readable}
use Rattle.fs_state.specs.Chunks.{inode_in, inodes}
use Rattle.fs_state.specs.Claims.{Claimed, claims, metadata_claims}
use Rattle.fs_state.specs.Records.{kinds_of}
use Rattle.fs_state.specs.Lists.{numbers, first_of_all}

-- ---- a tree of the unit has a form that isn't supported yet

abbrev pub later_fault : Kind → ℕ → BlockFault → Option Evidence
later_fault k b blocks.Later = Some (Later k b)
later_fault k b fault = None

abbrev pub later_in : (k : Kind) {R : Type 0} → Reading R → Option Evidence
later_in k (Readable recs blocks) = None
later_in k (Unreadable block fault claims) = later_fault k block fault

unfoldable pub first_later : State → ℕ → ScrubUnit → Option Evidence
first_later a g unit = first_of_all (map (λ k. later_in k ((a.group g).tree k).reading) (kinds_of unit))

-- ---- neither of the trees that list chunks can be read: the first bad block of Rmap is shown

abbrev pub bad_block : {R : Type 0} → Reading R → Option Evidence
bad_block (Readable recs blocks) = None
bad_block (Unreadable block fault claims) = Some (BadTree Rmap block)

unfoldable pub bad_tree : State → ℕ → Option Evidence
bad_tree a g = if is_readable ((a.group g).tree Ino).reading then None else bad_block ((a.group g).tree Rmap).reading

-- ---- both trees list a chunk, and a core of it doesn't verify: the first such core is shown

abbrev pub bad_core : ℕ → Option CoreState → Option Evidence
bad_core b None = None
bad_core b (Some (Broken fault)) = Some (BadChunk b fault)
bad_core b (Some (Whole inode)) = None

abbrev pub bad_in_unit : State → ℕ → ℕ → Option Evidence
bad_in_unit a g u = first_of_all (map (λ i. bad_core (8 * u + i / 8) (a.core (inode_in a g u i))) (numbers 0 64))

unfoldable pub bad_chunk : State → ℕ → Option Evidence
bad_chunk a g =
    first_of_all (map (bad_in_unit a g) (filter (λ u. ino_lists a g u && rmap_lists a g u) (numbers 0 (group_len_of a.geometry g / 8))))

-- ---- two claims on one block overlap, unless both are written file data

abbrev pub is_data : Claim → Bool
is_data (Data ino) = true
is_data Heads = false
is_data Log = false
is_data FreeList = false
is_data (Tree kind) = false
is_data Reserve = false
is_data Limbo = false
is_data Chunk = false
is_data (Attr ino) = false
is_data (ForkTree ino) = false
is_data Staging = false

unfoldable pub is_written_data : Claimed → Bool
is_written_data c = is_data c.claim && not (is_unwritten c.word)

-- the claims on one block, shown by the first two where some two of them overlap: where there are two at least, and
-- not all are written file data
abbrev pub overlap_in : List Claimed → Option Evidence
overlap_in [] = None
overlap_in (c ∷ []) = None
overlap_in (c ∷ d ∷ cs) =
    if list_any (λ e. not (is_written_data e)) (c ∷ d ∷ cs) then Some (Overlap c.block c.claim d.claim) else None

-- the lowest of these blocks
abbrev pub overlap_among : List Claimed → List ℕ → Option Evidence
overlap_among cs bs = first_of_all (map (λ b. overlap_in (filter (λ c. c.block == b) cs)) bs)

unfoldable pub first_overlap : State → ℕ → List Claimed → Option Evidence
first_overlap a g cs = overlap_among cs (numbers 0 (group_len_of a.geometry g))

-- ---- which evidence belongs to which unit, in its order

-- What contradicts the derivation of a unit, once everything is gathered?
unfoldable pub first_contradiction : State → ℕ → ScrubUnit → Option Evidence
first_contradiction a g units.Inode =
    first_of_all (first_later a g units.Inode ∷ bad_tree a g ∷ bad_chunk a g ∷ first_overlap a g (metadata_claims a g) ∷ [])
first_contradiction a g units.Rmap = first_of_all (first_later a g units.Rmap ∷ first_overlap a g (claims a g) ∷ [])
first_contradiction a g units.Free = first_later a g units.Free
first_contradiction a g units.Refc = first_later a g units.Refc

-- ---- a fork that can't be read, which a scan meets before: the first such inode, its data fork first

abbrev pub bad_fork_of : ℕ → Result ForkList ForkFault → Option Evidence
bad_fork_of ino (Ok list) = None
bad_fork_of ino (Err fault) = Some (BadFork ino fault)

abbrev pub bad_fork : State → ℕ → Option Evidence
bad_fork a ino = option_or (bad_fork_of ino (a.fork ino forks.Data)) (bad_fork_of ino (a.fork ino forks.Attr))

unfoldable pub first_bad_fork : State → Option Evidence
first_bad_fork a = first_of_all (map (bad_fork a) (inodes a))

-- What is shown of a unit? Of the reverse mappings a bad fork comes first.
unfoldable pub evidence : State → ℕ → ScrubUnit → Option Evidence
evidence a g units.Inode = first_contradiction a g units.Inode
evidence a g units.Rmap = option_or (first_bad_fork a) (first_contradiction a g units.Rmap)
evidence a g units.Free = first_contradiction a g units.Free
evidence a g units.Refc = first_contradiction a g units.Refc

-- evidence that belongs to the unit holds
abbrev pub Contradicts : State → ℕ → ScrubUnit → Type 0
Contradicts a g unit = (e : Evidence) × (evidence a g unit ≡ Some e)
