-- The counters that a switch sets: as the rule has them in the heads, and as a step does.
use Rattle.std.specs.Prelude.{◌≡◌, ◌<◌, ℕ, List, [], sum_by, IfSome, Option, Some, None}
use Rattle.derive_defs.specs.ByCount.{greatest, ordered_by_count}
use Rattle.derive_defs.specs.Free.{block_count}
use Rattle.fs_model.specs.declared.fault.Counter.{Counter}
use Rattle.fs_model.specs.declared.unit.Unit.{Unit as ScrubUnit}
use Rattle.fs_model.specs.declared.unit.Unit.TheVariants as units
use Rattle.root_switch.specs.Rooted.{rooted_heads}
use Rattle.root_switch.specs.Totals as totals
use Rattle.root_switch.specs.declared.heads.Heads.{Heads}
use Rattle.root_switch.specs.declared.heads.NewTree.{NewTree}
use Rattle.root_switch.specs.declared.heads.Switch.{Switch}
use Rattle.root_switch.specs.declared.heads.Switch.TheVariants.{Inode, Rmap, Free, Refc}
use Rattle.sblock.specs.declared.kind.Kind.{Kind}
use Rattle.sblock.specs.declared.kind.Kind.TheVariants as kinds
use Rattle.span_recs.specs.declared.span.SpanRec.{SpanRec}
use Rattle.fs_state.specs.Read.{counter_in}
use Rattle.fs_state.specs.State.{State}
use Rattle.fs_state.specs.Derive.{cnt_of, ino_of}
use Rattle.fs_state.specs.Faults.{blocks_counted}
use Rattle.fs_change.specs.Switch.{derived_in, moved, switched}

-- ---- totals of records

-- the blocks of free space and its longest run, of the records by count
abbrev pub SumsAlike : Type 0
SumsAlike = (free : List SpanRec) → sum_by (λ r. r.count) (ordered_by_count free) ≡ block_count free

abbrev pub LastIsGreatest : Type 0
LastIsGreatest = (free : List SpanRec) → totals.last_count (ordered_by_count free) ≡ greatest (ordered_by_count free)

-- ---- the counters of a group

abbrev pub counter_of : Heads → Counter → ℕ
counter_of h = counter_in (record { agf = h.agf; agi = h.agi; list = [] })

abbrev pub unit_of : Switch → ScrubUnit
unit_of (Inode ino fino count freecount counts) = units.Inode
unit_of (Rmap rmap btreeblks) = units.Rmap
unit_of (Free bno cnt freeblks longest btreeblks) = units.Free
unit_of (Refc refc) = units.Refc

-- how many blocks a tree has, where it can be read
abbrev pub blocks_in : State → ℕ → Kind → Option ℕ
blocks_in a g k = blocks_counted ((a.group g).tree k).reading

abbrev pub HasBlocks : State → ℕ → Kind → NewTree → Type 0
HasBlocks a g k t = blocks_in a g k ≡ Some t.blocks

-- the blocks of three trees beside their roots, where all three can be read
abbrev pub beside : Option ℕ → Option ℕ → Option ℕ → Option ℕ
beside (Some x) (Some y) (Some z) = Some (totals.beside_roots x y z)
beside (Some x) (Some y) None = None
beside (Some x) None o = None
beside None n o = None

abbrev pub AreBeside : State → ℕ → Option ℕ → Type 0
AreBeside a g btreeblks = btreeblks ≡ beside (blocks_in a g kinds.Bno) (blocks_in a g kinds.Cnt) (blocks_in a g kinds.Rmap)

-- the rule is given the blocks of the new trees, and the totals of what they hold
abbrev pub IsGiven : State → ℕ → Switch → Type 0
IsGiven a g (Inode ino fino count freecount counts) =
    HasBlocks a g kinds.Ino ino × HasBlocks a g kinds.Fino fino × (count ≡ sum_by (λ r. r.count) (ino_of a g)) × (freecount ≡ sum_by (λ r. r.freecount) (ino_of a g)) × (counts ≡ a.geometry.inobtcount)
IsGiven a g (Rmap rmap btreeblks) = HasBlocks a g kinds.Rmap rmap × AreBeside a g btreeblks
IsGiven a g (Free bno cnt freeblks longest btreeblks) =
    (freeblks ≡ sum_by (λ r. r.count) (cnt_of a g)) × (longest ≡ totals.last_count (cnt_of a g)) × AreBeside a g btreeblks
IsGiven a g (Refc refc) = HasBlocks a g kinds.Refc refc

-- a tree that can be read has a root
abbrev pub HaveRoots : State → ℕ → Type 0
HaveRoots a g = (k : Kind) → IfSome (blocks_in a g k) (λ n. 0 < n)

-- the state of a switch whose counters aren't set yet
abbrev pub uncounted : State → ℕ → ScrubUnit → (Kind → List ℕ) → State
uncounted a g unit blocks = derived_in (moved a g unit blocks) g unit

-- then each counter of the heads is the one of the state that a switch reaches
abbrev pub SwitchesAlike : Type 0
SwitchesAlike =
    (a : State) (g : ℕ) (blocks : Kind → List ℕ) (h : Heads) (s : Switch) → ((name : Counter) → counter_of h name ≡ (a.group g).counters name)
    → HaveRoots (uncounted a g (unit_of s) blocks) g → IsGiven (uncounted a g (unit_of s) blocks) g s
    → (name : Counter) → counter_of (rooted_heads s h) name ≡ ((switched a g (unit_of s) blocks).group g).counters name
