-- What any event of one group promises: it edits some trees, the list, the reserve and limbo, and inodes in some
-- blocks, and may make chunks.
use Rattle.std.specs.Prelude.{◌+◌, ◌*◌, ◌≡◌, ℕ, ◌/◌, ◌%◌, ◌<◌, ◌≤◌, ◌==◌, ◌⊎◌, Bool, true, false, ◌&&◌, ◌||◌, List, [], ◌∷◌, Some, None, Ok}
use Rattle.geom.specs.Apart.{Splits}
use Rattle.geom.specs.Layout.{Layout, device_block_of, split_of}
use Rattle.sblock.specs.declared.kind.Kind.{Kind}
use Rattle.sblock.specs.declared.kind.Kind.TheVariants.{Rmap, Ino}
use Rattle.dinode_core.specs.declared.mapping.Fork.{Fork}
use Rattle.tree_defs.specs.Lists.{times}
use Rattle.dinode_core.specs.Frame.{device_at}
use Rattle.fs_state.specs.Apart.{is_chunk, Part, HeadsOf, LogPart, ListOf, TreeOf, ReserveOf, LimboOf, ChunkAt, ForkTreeOf, Has, In, verifies}
use Rattle.fs_state.specs.Edits.{number_of, Among}
use Rattle.fs_state.specs.Frame.{fresh_at, IsAlien, Firm, Rest, UnitStays}
use Rattle.fs_state.specs.Inodes.{slot_in, core_in}
use Rattle.fs_state.specs.Kinds.{RecOf, Image, heads_of, root_of, level_of}
use Rattle.fs_state.specs.Pool.{Share, ShareOf, total}
use Rattle.fs_state.specs.Read.{state_of, walked}
use Rattle.fs_state.specs.State.{State, Kept, blocks_of, blocks_in, pairs_of}

abbrev pub is_among : Kind → List Kind → Bool
is_among k [] = false
is_among k (j ∷ js) = (number_of j == number_of k) || is_among k js

-- the parts that such an event touches; chunk tells the blocks of inodes
abbrev pub touched_in : ℕ → List Kind → (ℕ → Bool) → Part → Bool
touched_in g ks chunk (HeadsOf h) = h == g
touched_in g ks chunk LogPart = false
touched_in g ks chunk (ListOf h) = h == g
touched_in g ks chunk (TreeOf h k) = (h == g) && is_among k ks
touched_in g ks chunk (ReserveOf h) = h == g
touched_in g ks chunk (LimboOf h) = h == g
touched_in g ks chunk (ChunkAt d) = chunk d
touched_in g ks chunk (ForkTreeOf ino f) = false

abbrev pub tree_shares : ℕ → (Kind → List ℕ) → List Kind → List Share → List Share
tree_shares g blocks [] tail = tail
tree_shares g blocks (k ∷ ks) tail = (TreeOf g k, blocks k) ∷ tree_shares g blocks ks tail

-- the edited trees, the list, the reserve and limbo, each with its blocks
abbrev pub shares_of : State → ℕ → List Kind → List Share → List Share
shares_of a g ks extra =
    tree_shares g (λ k. blocks_of ((a.group g).tree k).reading) ks ((ListOf g, (a.group g).free_list) ∷ (ReserveOf g, blocks_in (a.group g).reserve) ∷ (LimboOf g, blocks_in (a.group g).limbo) ∷ extra)

module _ (at : Layout) (image image' : Image) (kept kept' : Kept) (g : ℕ) (ks : List Kind) (chunk edits : ℕ → Bool) (fresh : ℕ → ℕ → Bool) (made : ℕ → Bool) (extra : List Share) where
  -- no part has this block of the group
  abbrev pub IsNobodys : ℕ → Type 0
  IsNobodys p = (c : Part) → Has (state_of at image kept) c (device_block_of at g p) → ⊥

  -- the block is of an edited tree, the list, the reserve or limbo, before the event
  abbrev pub IsOwn : ℕ → Type 0
  IsOwn p = In p (total (shares_of (state_of at image kept) g ks []))

  -- a written block is block 0, one of these parts or of none, or one of inodes
  abbrev pub IsWritten : ℕ → Type 0
  IsWritten d = ((p : ℕ) × ((p ≡ 0) ⊎ (IsOwn p ⊎ IsNobodys p)) × (device_block_of at g p ≡ d)) ⊎ (chunk d ≡ true)

  -- which blocks move and are written
  pub record GroupBlocks : Type 0 where
    -- blocks move between these parts, or come from none
    pub once : (p : ℕ) → times p (total (shares_of (state_of at image' kept') g ks extra)) ≤ 1
    pub came : (p : ℕ) → In p (total (shares_of (state_of at image' kept') g ks extra)) → IsOwn p ⊎ IsNobodys p
    pub writes : (d : ℕ) → (image' d ≡ image d) ⊎ (IsWritten d × IsAlien (touched_in g ks chunk) d (image' d))
    pub chunks : (d : ℕ) → chunk d ≡ true → Has (state_of at image kept) (ChunkAt d) d ⊎ ((c : Part) → Has (state_of at image kept) c d → ⊥)

  -- which inodes are edited, and which chunks are made
  pub record GroupInodes : Type 0 where
    -- the blocks of new chunks came with them, each as a share of its own; their inodes are edited
    pub made_shares : (x d : ℕ) → made x ≡ true → Has (state_of at image' kept') (ChunkAt x) d
        → (p : ℕ) × ShareOf extra (ChunkAt x) p × (device_block_of at g p ≡ d)
    pub fresh_made : (h u j : ℕ) → fresh h u ≡ true → j < 8 → made (device_block_of at h (8 * u + j)) ≡ true
    pub fresh_inodes : (i : ℕ) → edits i ≡ false → fresh_at fresh (split_of at (i / 8)) ≡ false
    pub slots : (i d : ℕ) → device_at at (split_of at (i / 8)) ≡ Some d → chunk d ≡ true → edits i ≡ false
        → slot_in (image' d) (i % 8) ≡ slot_in (image d) (i % 8)
    pub edited : (i d : ℕ) → device_at at (split_of at (i / 8)) ≡ Some d → chunk d ≡ true → edits i ≡ true
        → verifies (Some (core_in at i (slot_in (image' d) (i % 8)))) ≡ true
    pub own_forks : (i : ℕ) (f : Fork) (d : ℕ) → edits i ≡ true → Has (state_of at image' kept') (ForkTreeOf i f) d
        → Has (state_of at image kept) (ForkTreeOf i f) d

  -- all else that is kept or named by the heads stays
  pub record GroupKeeps : Type 0 where
    pub roots : (k : Kind) → is_among k ks ≡ false
        → (root_of (heads_of at image' g) k ≡ root_of (heads_of at image g) k) × (level_of (heads_of at image' g) k ≡ level_of (heads_of at image g) k)
    pub trust : (h : ℕ) (k : Kind) → ((h == g) && is_among k ks) ≡ false → kept'.trust h k ≡ kept.trust h k
    pub bad : (h : ℕ) (k : Kind) → ((h == g) && is_among k ks) ≡ false → kept'.bad h k ≡ kept.bad h k
    pub reserve : (h : ℕ) → (h == g) ≡ false → kept'.reserve h ≡ kept.reserve h
    pub limbo : (h : ℕ) → (h == g) ≡ false → pairs_of (kept'.limbo h) ≡ pairs_of (kept.limbo h)

  -- What does an event of one group do? It edits these trees, each of which can be read afterwards, moves blocks
  -- between parts of the group, edits inodes, and leaves the rest.
  pub record GroupEvent : Type 0 where
    pub inside : g < at.agcount
    pub new : (k : Kind) → List (RecOf k) × List ℕ
    pub good : (k : Kind) → Among k ks → kept'.bad g k ≡ None
    pub after : (k : Kind) → Among k ks → walked at image' g k ≡ Ok (new k)
    pub blocks : GroupBlocks
    pub inodes : GroupInodes
    pub keeps : GroupKeeps

  abbrev pub Remains : ℕ → ℕ → Type 0
  Remains h u = UnitStays (state_of at image kept) (state_of at image' kept') (touched_in g ks chunk) h u

  -- all that isn't touched is as it was, all other groups whole, and what always holds holds again
  pub record GroupDone : Type 0 where
    pub rest : Rest at (state_of at image kept) (state_of at image' kept') image image' kept kept' (touched_in g ks chunk) edits
    pub other_groups : (h : ℕ) → h < at.agcount → (h == g) ≡ false → (state_of at image' kept').group h ≡ (state_of at image kept).group h
    -- where Ino and Rmap aren't edited, and no inode's block, the units are as before
    pub units : is_among Ino ks ≡ false → is_among Rmap ks ≡ false → ((d : ℕ) → chunk d ≡ false) → (h u : ℕ) → Remains h u
    pub firm : ((h u : ℕ) → fresh h u ≡ false → Remains h u)
        → ((h u : ℕ) → fresh h u ≡ true → is_chunk (state_of at image' kept') h u ≡ true) → Firm at image' kept'

abbrev pub GroupLaw : Type 0
GroupLaw = (at : Layout) (image image' : Image) (kept kept' : Kept) (g : ℕ) (ks : List Kind) (chunk edits : ℕ → Bool) (fresh : ℕ → ℕ → Bool) (made : ℕ → Bool) (extra : List Share)
    → Splits at → Firm at image kept → GroupEvent at image image' kept kept' g ks chunk edits fresh made extra
    → GroupDone at image image' kept kept' g ks chunk edits fresh made extra
