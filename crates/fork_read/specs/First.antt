-- The first fault of a whole fork, and how many blocks are read until it is known.
use Rattle.std.specs.Prelude.{◌≡◌, ℕ, ◌+◌, ◌-◌, ◌*◌, ◌≤◌, Bool, true, false, if◌then◌else◌, List, length, Option, Some, None, Result, Ok, Err, ⊤}
use Rattle.geom.specs.Layout.{Layout}
use Rattle.dinode_core.specs.declared.inode.Core3.{Core3}
use Rattle.dinode_core.specs.declared.mapping.Fork.{Fork}
use Rattle.dinode_core.specs.declared.mapping.ForkError.{ForkError}
use Rattle.dinode_core.specs.declared.mapping.ForkError.TheVariants.{Fault, Memory as NoMemory}
use Rattle.dinode_core.specs.declared.mapping.ForkFault.{ForkFault}
use Rattle.dinode_core.specs.Core.{core_fault, core_of}
use Rattle.dinode_core.specs.ForkTree.{Entry, Image, Trail, entries, is_tree, met_of, walk_each, walk_fault}
use Rattle.fork_read.specs.declared.fault.ReadFault.{ReadFault}
use Rattle.fork_read.specs.declared.fault.ReadFault.TheVariants.{Fork as IsFork, Core as IsCoreFault, Failed, Memory}
use Rattle.fork_read.specs.declared.tasks.Table.{Table}
use Rattle.fork_read.specs.declared.walk.Stop.{Stop}
use Rattle.fork_read.specs.declared.walk.Stop.TheVariants.{Bad, Whole}
use Rattle.fork_read.specs.Pieces.{inode_bytes}
use Rattle.fork_read.specs.Walk.{walk_from}

-- a walk that came to its end, or to a bad block
abbrev pub ended : Bool → Trail → Result Trail Trail
ended true trail = Ok trail
ended false trail = Err trail

-- the blocks that a walk has read: those that it passed, and the bad one
abbrev pub reads_of : Result Trail Trail → ℕ
reads_of (Ok trail) = length trail.blocks
reads_of (Err trail) = length trail.blocks + 1

-- the entries of a node or of a root, and those from one on
abbrev pub entries_in : Table → List ℕ → List Entry
entries_in table bytes = entries table.count table.keys table.pointers bytes

abbrev pub entries_from : Table → ℕ → List ℕ → List Entry
entries_from table i bytes = entries (table.count - i) (table.keys + 8 * i) (table.pointers + 8 * i) bytes

-- the whole walk of these subtrees of a level
unfoldable pub walk_below : Layout → Image → Core3 → ℕ → List Entry → Trail → Result Trail Trail
walk_below at image core level es trail = walk_each (walk_from at image core 0 level) es trail

-- no more blocks than a walk has read since this trail
abbrev pub FewRead : ℕ → ℕ → Trail → Result Trail Trail → Type 0
FewRead before now trail walk = now + length trail.blocks ≤ before + reads_of walk

-- the first fault of this fork, the number of its mappings aside
abbrev pub IsFirstOf : Layout → Image → Core3 → Fork → Result (Option ForkFault) ReadFault → Type 0
IsFirstOf at image core fork (Ok found) = found ≡ walk_fault at image core fork
IsFirstOf at image core fork (Err (IsFork fault)) = ⊥
IsFirstOf at image core fork (Err (IsCoreFault fault)) = ⊥
IsFirstOf at image core fork (Err Failed) = ⊤
IsFirstOf at image core fork (Err Memory) = ⊤

-- the same of an inode of this number, or its core's first fault
abbrev pub IsFirst : Layout → Image → ℕ → Fork → Result (Option ForkFault) ReadFault → Type 0
IsFirst at image ino fork (Ok found) =
    (core_fault (inode_bytes at image ino) ino at.uuid ≡ None) × (found ≡ walk_fault at image (core_of (inode_bytes at image ino)) fork)
IsFirst at image ino fork (Err (IsFork fault)) = ⊥
IsFirst at image ino fork (Err (IsCoreFault fault)) = core_fault (inode_bytes at image ino) ino at.uuid ≡ Some fault
IsFirst at image ino fork (Err Failed) = ⊤
IsFirst at image ino fork (Err Memory) = ⊤

-- so many blocks at most beside the inode's: those that are met of the fork's btree, and the first bad one; none where
-- it has none
abbrev pub most_met : Layout → Image → Core3 → Fork → ℕ
most_met at image core fork = if is_tree core fork then length (met_of at image core fork).blocks + 1 else 0

abbrev pub most_of : Layout → Image → ℕ → Fork → ℕ
most_of at image ino fork = 1 + most_met at image (core_of (inode_bytes at image ino)) fork

-- how a walk of a whole btree ended
abbrev pub way_of : Bool → Stop
way_of true = Whole
way_of false = Bad

-- what the inode itself shows
abbrev pub IsShown : ForkError → Result (Option ForkFault) ReadFault → Type 0
IsShown (Fault fault) result = result ≡ Ok (Some fault)
IsShown NoMemory result = result ≡ Err Memory
