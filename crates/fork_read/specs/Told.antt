-- What the steps of a walk tell, where the device tells its content.
use Rattle.std.specs.Prelude.{◌≡◌, ℕ, ◌+◌, Bool, List, ◌∷◌, Option, Some, Result, IfOk}
use Rattle.blk_device.specs.Contents.{Contents}
use Rattle.blk_device.specs.declared.device.Region.TheVariants.{Image}
use Rattle.byte_fields.specs.declared.block.Block.{Block}
use Rattle.geom.specs.Layout.{Layout, split_of}
use Rattle.dinode_core.specs.declared.inode.Core3.{Core3}
use Rattle.dinode_core.specs.declared.mapping.Fork.{Fork}
use Rattle.dinode_core.specs.Core.{core_of}
use Rattle.dinode_core.specs.ForkTree.{Entry}
use Rattle.fork_read.specs.declared.fault.ForkPiece.{ForkPiece}
use Rattle.fork_read.specs.declared.fault.ReadFault.{ReadFault}
use Rattle.fork_read.specs.declared.seen.Seen.{Seen}
use Rattle.fork_read.specs.declared.tasks.Task.{Task}
use Rattle.fork_read.specs.declared.walk.Stop.{Stop}
use Rattle.fork_read.specs.Answers.{HasRead, IsStopped, bytes_of}
use Rattle.fork_read.specs.Counted.{HasSpent, IsOwn, IsPaid, IsSpent}
use Rattle.fork_read.specs.First.{FewRead, ended, walk_below}
use Rattle.fork_read.specs.Pieces.{inode_bytes}
use Rattle.fork_read.specs.Stuck.{HasCome, HasGone, HasSought}
use Rattle.fork_read.specs.Walk.{HasStepped, entry_of, last_in, read_at, trail_of, walk_tasks}

-- the block of a subtree, where it is sound
abbrev pub FindsBlock : Layout → Option Contents → Core3 → ℕ → Task → Seen → Result (Option Block) ReadFault → Type 0
FindsBlock at told core from task seen result = IfOk result (λ found. (c : Contents) → told ≡ Some c
    → read_at at (c Image) core from task.level (last_in seen.lasts task.level) (entry_of task) (split_of at task.block) ≡ bytes_of found)

-- the walk of these subtrees goes on with what is left, or the first one's block is bad
abbrev pub ReadsFirst : Layout → Option Contents → Core3 → ℕ → Task → List Task → Seen → Result Bool ReadFault → List Task → Seen → Type 0
ReadsFirst at told core from task tasks seen result left now = IfOk result (λ read. (c : Contents) → told ≡ Some c
    → HasRead (walk_tasks at (c Image) core from (task ∷ tasks) (trail_of seen)) read (walk_tasks at (c Image) core from left (trail_of now)) (trail_of now))

-- the first one's block is read
abbrev pub StepsOn : Layout → Option Contents → Core3 → ℕ → Task → List Task → Seen → Result Bool ReadFault → List Task → Seen → Type 0
StepsOn at told core from task tasks seen result left now = IfOk result (λ read. (c : Contents) → told ≡ Some c
    → HasStepped at (c Image) core from task tasks (trail_of seen) read left (trail_of now))

-- how the walk of these subtrees ended
abbrev pub StopsWalk : Layout → Option Contents → Core3 → ℕ → List Task → Seen → Result Stop ReadFault → List Task → Seen → Type 0
StopsWalk at told core from tasks seen result left now = IfOk result (λ stop. (c : Contents) → told ≡ Some c
    → IsStopped (walk_tasks at (c Image) core from tasks (trail_of seen)) (walk_tasks at (c Image) core from) from stop left (trail_of now))

-- how far it came: until a piece ends, behind a place where none can begin, and in sum
abbrev pub GoesOn : Layout → Option Contents → Core3 → ℕ → List Task → Seen → Result Stop ReadFault → List Task → Seen → Type 0
GoesOn at told core from tasks seen result left now = IfOk result (λ stop. (c : Contents) → told ≡ Some c
    → HasGone at (c Image) core from tasks (trail_of seen) stop left (trail_of now))

abbrev pub SeeksOn : Layout → Option Contents → Core3 → ℕ → List Task → Seen → Result Stop ReadFault → List Task → Seen → Type 0
SeeksOn at told core from tasks seen result left now = IfOk result (λ stop. (c : Contents) → told ≡ Some c
    → HasSought at (c Image) core from tasks (trail_of seen) stop left (trail_of now))

abbrev pub ComesOn : Layout → Option Contents → Core3 → ℕ → List Task → Seen → Result Stop ReadFault → List Task → Seen → Type 0
ComesOn at told core from tasks seen result left now = IfOk result (λ stop. (c : Contents) → told ≡ Some c
    → HasCome at (c Image) core from tasks (trail_of seen) stop left (trail_of now))

-- which blocks it has read, whatever ended it ..
abbrev pub Spends : Layout → Option Contents → Core3 → ℕ → List Task → Seen → ℕ → ℕ → Type 0
Spends at told core from tasks seen before after = (c : Contents) → told ≡ Some c → HasSpent at (c Image) core from tasks (trail_of seen) before after

-- .. and where no failure did
abbrev pub Pays : Layout → Option Contents → Core3 → ℕ → List Task → Seen → ℕ → ℕ → Result Stop ReadFault → List Task → Seen → Type 0
Pays at told core from tasks seen before after result left now = IfOk result (λ stop. (c : Contents) → told ≡ Some c
    → IsPaid at (c Image) core from tasks (trail_of seen) before after stop left (trail_of now))

-- the same of a piece of a fork
abbrev pub SpendsPiece : Layout → Option Contents → Core3 → Fork → ℕ → ℕ → ℕ → Type 0
SpendsPiece at told core fork from before now = (c : Contents) → told ≡ Some c → IsSpent at (c Image) core fork from before now

abbrev pub PaysPiece : Option Contents → Core3 → Fork → ℕ → Result ForkPiece ReadFault → ℕ → ℕ → Type 0
PaysPiece told core fork from result before now = IfOk result (λ piece. (c : Contents) → told ≡ Some c → IsOwn core fork from before now piece)

-- the same of a fork of the inode of this number, whose block is read first
abbrev pub SpendsInode : Layout → Option Contents → ℕ → Fork → ℕ → ℕ → ℕ → Type 0
SpendsInode at told ino fork from before now =
    (c : Contents) → told ≡ Some c → IsSpent at (c Image) (core_of (inode_bytes at (c Image) ino)) fork from (before + 1) now

abbrev pub PaysInode : Layout → Option Contents → ℕ → Fork → ℕ → Result ForkPiece ReadFault → ℕ → ℕ → Type 0
PaysInode at told ino fork from result before now = IfOk result (λ piece. (c : Contents) → told ≡ Some c
    → IsOwn (core_of (inode_bytes at (c Image) ino)) fork from (before + 1) now piece)

-- the walk of these entries to their end, or to a bad block ..
abbrev pub WalksBelow : Layout → Option Contents → Core3 → ℕ → List Entry → Seen → Result Bool ReadFault → Seen → Type 0
WalksBelow at told core level es seen result now = IfOk result (λ whole. (c : Contents) → told ≡ Some c
    → walk_below at (c Image) core level es (trail_of seen) ≡ ended whole (trail_of now))

-- .. reads each block once
abbrev pub CountsBelow : Layout → Option Contents → Core3 → ℕ → List Entry → Seen → ℕ → ℕ → Type 0
CountsBelow at told core level es seen before after =
    (c : Contents) → told ≡ Some c → FewRead before after (trail_of seen) (walk_below at (c Image) core level es (trail_of seen))
