-- What a piece of a fork is, by the walk of its btree.
use Rattle.std.specs.Prelude.{◌≡◌, ℕ, filter, ◌+◌, ◌-◌, ◌<◌, ◌≤◌, nat_le, nat_lt, Bool, true, false, ◌&&◌, if◌then◌else◌, List, [], ◌∷◌, length, Option, Some, None, Result, Ok, Err, ⊤}
use Rattle.std.specs.List.{slice_get, list_all}
use Rattle.byte_fields.specs.declared.block.Block.{Block}
use Rattle.geom.specs.Layout.{Layout}
use Rattle.dinode_core.specs.declared.mapping.Mapping.{Mapping}
use Rattle.dinode_core.specs.declared.mapping.Fork.{Fork}
use Rattle.dinode_core.specs.declared.mapping.ForkFault.{ForkFault}
use Rattle.dinode_core.specs.declared.mapping.ForkFault.TheVariants as faults
use Rattle.dinode_core.specs.Inline.{first_bad, or_else}
use Rattle.dinode_core.specs.ForkTree.{Trail, ends, block_fault}
use Rattle.fork_read.specs.declared.fault.ForkPiece.{ForkPiece}
use Rattle.fork_read.specs.declared.fault.ReadFault.{ReadFault}
use Rattle.fork_read.specs.declared.fault.ReadFault.TheVariants.{Fork as IsFork, Core as IsCore, Failed, Memory}
use Rattle.fork_read.specs.declared.tasks.Task.{Task}
use Rattle.fork_read.specs.declared.walk.Stop.{Stop}
use Rattle.fork_read.specs.declared.walk.Stop.TheVariants.{Bad, Whole, Left, Long, Fallen}

-- the device is what refused
abbrev pub is_failed : ReadFault → Bool
is_failed (IsFork fault) = false
is_failed (IsCore fault) = false
is_failed Failed = true
is_failed Memory = false

-- the fork says nothing of it
abbrev pub IsOutside : ReadFault → Type 0
IsOutside (IsFork fault) = ⊥
IsOutside (IsCore fault) = ⊥
IsOutside Failed = ⊤
IsOutside Memory = ⊤

abbrev pub bytes_of : Option Block → Option (List ℕ)
bytes_of None = None
bytes_of (Some block) = Some block.bytes

-- each level is one of a btree
abbrev pub AllLow : List Task → Type 0
AllLow [] = ⊤
AllLow (x ∷ xs) = (x.level < 9) × AllLow xs

-- the level of the first of these, or 0
abbrev pub first_level : List Task → ℕ
first_level [] = 0
first_level (x ∷ xs) = x.level

-- each level that is left is one of a btree
abbrev pub IsLow : List Task → Stop → Type 0
IsLow tasks Bad = ⊤
IsLow tasks Whole = ⊤
IsLow tasks (Left task) = AllLow (task ∷ tasks)
IsLow tasks (Long task) = AllLow (task ∷ tasks)
IsLow tasks Fallen = ⊤

-- a subtree is read with what is left then, or its block is bad
abbrev pub HasRead : Result Trail Trail → Bool → Result Trail Trail → Trail → Type 0
HasRead whole true rest trail = whole ≡ rest
HasRead whole false rest trail = whole ≡ Err trail

-- the last mapping is one of this piece, and ends before the next one begins
abbrev pub last_clears : ℕ → ℕ → Option Mapping → Bool
last_clears from key None = false
last_clears from key (Some m) = nat_le from m.offset && nat_lt m.offset key && nat_le (m.offset + m.count) key

-- a piece may end before this subtree: the next piece finds it by its offset
unfoldable pub may_stop : ℕ → List Mapping → Task → List Task → Bool
may_stop from ms task tasks = last_clears from task.key (slice_get ms (length ms - 1)) && list_all (λ t. nat_le task.key t.key) tasks

-- how many of these mappings begin at the offset or behind it
abbrev pub given_of : ℕ → List Mapping → ℕ
given_of from ms = length (filter (λ m. nat_le from m.offset) ms)

-- a piece that may not end before this subtree is stuck there
abbrev pub end_before : ℕ → List Mapping → Task → List Task → Stop
end_before from ms task tasks = if may_stop from ms task tasks then Left task else Long task

-- the subtree where no piece can begin
abbrev pub stuck_at : Stop → Option Task
stuck_at Bad = None
stuck_at Whole = None
stuck_at (Left task) = None
stuck_at (Long task) = Some task
stuck_at Fallen = None

-- how a walk ended: at a bad block, at its end, or before a subtree that is left
abbrev pub IsStopped : Result Trail Trail → (List Task → Trail → Result Trail Trail) → ℕ → Stop → List Task → Trail → Type 0
IsStopped whole walk from Bad tasks trail = whole ≡ Err trail
IsStopped whole walk from Whole tasks trail = whole ≡ Ok trail
IsStopped whole walk from (Left task) tasks trail = (whole ≡ walk (task ∷ tasks) trail) × (may_stop from trail.mappings task tasks ≡ true)
IsStopped whole walk from (Long task) tasks trail = whole ≡ walk (task ∷ tasks) trail
IsStopped whole walk from Fallen tasks trail = whole ≡ Ok trail

-- a piece has 512 mappings of its own at most, and one that leaves something may end there
abbrev pub MayLeave : ℕ → List Mapping → List Task → Stop → Type 0
MayLeave from ms tasks Bad = ⊤
MayLeave from ms tasks Whole = given_of from ms ≤ 512
MayLeave from ms tasks (Left task) = (given_of from ms ≤ 512) × (may_stop from ms task tasks ≡ true)
MayLeave from ms tasks (Long task) = ⊤
MayLeave from ms tasks Fallen = ⊤

-- the ways to what is left and to what was met
abbrev pub Way : Type 1
Way = List Task → Trail → Type 0

-- for each way to end, the way there
abbrev pub IsReached : Way → Way → Way → Way → Way → Stop → List Task → Trail → Type 0
IsReached ToBad ToEnd ToPiece ToLong ToFallen Bad tasks trail = ToBad tasks trail
IsReached ToBad ToEnd ToPiece ToLong ToFallen Whole tasks trail = ToEnd [] trail
IsReached ToBad ToEnd ToPiece ToLong ToFallen (Left task) tasks trail = ToPiece (task ∷ tasks) trail
IsReached ToBad ToEnd ToPiece ToLong ToFallen (Long task) tasks trail = ToLong (task ∷ tasks) trail
IsReached ToBad ToEnd ToPiece ToLong ToFallen Fallen tasks trail = ToFallen [] trail

-- it doesn't end so
abbrev pub Never : Way
Never tasks trail = ⊥

-- what holds where a block was read
abbrev pub IfRead : Bool → Type 0 → Type 0
IfRead true P = P
IfRead false P = ⊤

-- the fault that a way to end shows by itself
abbrev pub stop_fault : ℕ → Stop → Trail → Option ForkFault
stop_fault levels Bad trail = Some faults.Block
stop_fault levels Whole trail = block_fault (ends levels trail)
stop_fault levels (Left task) trail = None
stop_fault levels (Long task) trail = Some faults.Order
stop_fault levels Fallen trail = Some faults.Order

-- the first fault of what was met so: a bad mapping comes before a bad block
abbrev pub judged : Layout → Fork → ℕ → Stop → Trail → Option ForkFault
judged at fork levels stop trail = or_else (first_bad at fork trail.mappings) (stop_fault levels stop trail)

-- where the next piece begins
abbrev pub next_of : Stop → Option ℕ
next_of Bad = None
next_of Whole = None
next_of (Left task) = Some task.key
next_of (Long task) = None
next_of Fallen = None

-- those of these mappings that begin at the offset or behind it, and these blocks
pub record IsPiece (from : ℕ) (ms : List Mapping) (blocks : List ℕ) (left : Option ℕ) (piece : ForkPiece) : Type 0 where
  pub mappings : piece.mappings.items ≡ filter (λ m. nat_le from m.offset) ms
  pub tree_blocks : piece.tree_blocks.items ≡ blocks
  pub next : piece.next ≡ left

-- a fault that is answered is the one that was found
abbrev pub IsJudgedFault : Option ForkFault → ReadFault → Type 0
IsJudgedFault found (IsFork fault) = found ≡ Some fault
IsJudgedFault found (IsCore fault) = ⊥
IsJudgedFault found Failed = ⊥
IsJudgedFault found Memory = ⊤
