-- The state that an image stands for, with what is kept in memory.
use Rattle.std.specs.Prelude.{◌≡◌, ℕ, ◌/◌, ◌<◌, ◌==◌, Bool, true, false, List, [], Option, None, Some, Result, Ok, Err, is_ok, if◌then◌else◌}
use Rattle.std.specs.List.{list_any}
use Rattle.geom.specs.Layout.{Layout, split_of}
use Rattle.sblock.specs.declared.block.BlockFault.{BlockFault}
use Rattle.sblock.specs.declared.kind.Kind.{Kind}
use Rattle.fs_model.specs.declared.fault.Counter.{Counter}
use Rattle.fs_model.specs.declared.unit.Trust.{Trust}
use Rattle.fs_model.specs.declared.unit.Trust.TheVariants.{Unknown, Sick}
use Rattle.fs_model.specs.declared.fault.Counter.TheVariants as counters
use Rattle.tree_defs.specs.Claims.{claims_of}
use Rattle.tree_defs.specs.Sites.{site_of, group_blocks}
use Rattle.tree_defs.specs.Tree.{read_tree}
use Rattle.dinode_core.specs.declared.mapping.Fork.{Fork}
use Rattle.dinode_core.specs.declared.mapping.ForkFault.{ForkFault}
use Rattle.fs_state.specs.Apart.{is_inode}
use Rattle.fs_state.specs.Inodes.{bytes_at, core_in, fork_by, no_fork}
use Rattle.fs_state.specs.Kinds.{RecOf, form_of, Image, Heads, heads_of, root_of, level_of}
use Rattle.fs_state.specs.State.{Reading, Readable, Unreadable, Group, CoreState, ForkList, State, Bad, Kept, pairs_of}

abbrev pub Read : Type 0 → Type 0
Read R = Result (List R × List ℕ) (ℕ × BlockFault)

-- what a walk from the heads' root reads
unfoldable pub walked : Layout → Image → ℕ → (k : Kind) → Read (RecOf k)
walked at image g k =
    read_tree (form_of k) (site_of at g) (group_blocks (site_of at g) image) (root_of (heads_of at image g) k) (level_of (heads_of at image g) k)

unfoldable pub claimed : Layout → Image → ℕ → Kind → List ℕ
claimed at image g k =
    claims_of (form_of k) (site_of at g) (group_blocks (site_of at g) image) (root_of (heads_of at image g) k) (level_of (heads_of at image g) k)

-- the fault and the claims of the opening stand, where there are some
abbrev pub known : {R : Type 0} → Option Bad → Read R → List ℕ → Reading R
known (Some bad) read claims = Unreadable bad.block bad.fault bad.claims
known None (Ok read) claims = Readable read.0 read.1
known None (Err fault) claims = Unreadable fault.0 fault.1 claims

unfoldable pub reading_of : Layout → Image → Kept → ℕ → (k : Kind) → Reading (RecOf k)
reading_of at image kept g k = known (kept.bad g k) (walked at image g k) (claimed at image g k)

abbrev pub counter_in : Heads → Counter → ℕ
counter_in h counters.Count = h.agi.count
counter_in h counters.Freecount = h.agi.freecount
counter_in h counters.Iblocks = h.agi.iblocks
counter_in h counters.Fblocks = h.agi.fblocks
counter_in h counters.RmapBlocks = h.agf.rmap_blocks
counter_in h counters.Freeblks = h.agf.freeblks
counter_in h counters.Longest = h.agf.longest
counter_in h counters.Btreeblks = h.agf.btreeblks
counter_in h counters.RefcountBlocks = h.agf.refcount_blocks

unfoldable pub group_of : Layout → Image → Kept → ℕ → Group
group_of at image kept g = record {
  free_list = (heads_of at image g).list;
  counters = counter_in (heads_of at image g);
  tree = λ k. record { reading = reading_of at image kept g k; trust = kept.trust g k };
  reserve = kept.reserve g;
  limbo = pairs_of (kept.limbo g);
}

abbrev pub reserved : Kept → Option (ℕ × ℕ) → Bool
reserved kept None = true
reserved kept (Some p) = list_any (λ o. o.block == p.1) (kept.reserve p.0)

abbrev pub core_or : Layout → ℕ → Bool → Option (List ℕ) → Option CoreState
core_or at ino false (Some bytes) = Some (core_in at ino bytes)
core_or at ino _ _ = None

-- the bytes of an inode that has a place
abbrev pub inode_bytes : Layout → Image → ℕ → Option (List ℕ)
inode_bytes at image ino = bytes_at at image ino (split_of at (ino / 8))

unfoldable pub core_of_ino : Layout → Image → Kept → ℕ → Option CoreState
core_of_ino at image kept ino = core_or at ino (reserved kept (split_of at (ino / 8))) (inode_bytes at image ino)

-- whatever is in a reserve
unfoldable pub raw_of : Layout → Image → ℕ → Option CoreState
raw_of at image ino = core_or at ino false (inode_bytes at image ino)

-- the fork that a core's bytes lead to, wherever the core stands
unfoldable pub fork_of_ino : Layout → Image → Kept → ℕ → Fork → Result ForkList ForkFault
fork_of_ino at image kept ino f = fork_by at image ino f (core_of_ino at image kept ino) (inode_bytes at image ino)

-- all but the forks
abbrev pub without_forks : Layout → Image → Kept → State
without_forks at image kept = record {
  geometry = at;
  group = group_of at image kept;
  core = core_of_ino at image kept;
  fork = λ ino f. Ok no_fork;
  chains = kept.chains;
}

-- Which forks are there? Those of inodes, which stand in chunks: a core anywhere else has none.
unfoldable pub fork_in_chunk : Layout → Image → Kept → ℕ → Fork → Result ForkList ForkFault
fork_in_chunk at image kept ino f = if is_inode (without_forks at image kept) ino then fork_of_ino at image kept ino f else Ok no_fork

abbrev pub state_of : Layout → Image → Kept → State
state_of at image kept = record (without_forks at image kept) { fork = fork_in_chunk at image kept }

-- of a tree that can't be read, what is to be kept
abbrev pub bad_in : {R : Type 0} → Read R → List ℕ → Option Bad
bad_in (Ok read) claims = None
bad_in (Err fault) claims = Some (record { block = fault.0; fault = fault.1; claims = claims })

abbrev pub trust_in : {R : Type 0} → Read R → Trust
trust_in (Ok read) = Unknown
trust_in (Err fault) = Sick

-- What is kept right after an image was opened? The faults of the trees that can't be read, which are sick; nothing
-- is known of the others, and nothing is reserved, in limbo or pending.
unfoldable pub opened : Layout → Image → Kept
opened at image = record {
  trust = λ g k. trust_in (walked at image g k);
  bad = λ g k. bad_in (walked at image g k) (claimed at image g k);
  reserve = λ g. [];
  limbo = λ g. [];
  chains = λ c. [];
}

-- each tree that can't be read is kept as such
abbrev pub KeepsBad : Layout → Image → Kept → Type 0
KeepsBad at image kept = (g : ℕ) (k : Kind) → g < at.agcount → kept.bad g k ≡ None → is_ok (walked at image g k) ≡ true
