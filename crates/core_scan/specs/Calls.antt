-- What the calls of a scan keep whatever the bytes of the device are, and what they refuse.
use Rattle.std.specs.Prelude.{◌≡◌, ⊤, ◌⊎◌, ℕ, ◌<◌, ◌≤◌, ◌-◌, ◌^◌, ◌/◌, Bool, true, false, is_some, Some, None, IfSome, Result, Ok, Err}
use Rattle.dinode_core.specs.Core.{core_fault}
use Rattle.dinode_core.specs.ForkTree.{Image, is_tree}
use Rattle.dinode_core.specs.declared.inode.Core3.{Core3}
use Rattle.dinode_core.specs.declared.mapping.Fork.{Fork}
use Rattle.dinode_core.specs.declared.mapping.ForkFault.{ForkFault}
use Rattle.dinode_core.specs.declared.mapping.ForkFault.TheVariants.{Count}
use Rattle.fork_read.specs.Answers.{is_failed as is_failed_read}
use Rattle.fork_read.specs.Pieces.{IsForkFault, inode_bytes}
use Rattle.fork_read.specs.declared.fault.ReadFault.TheVariants as reads
use Rattle.fs_model.specs.declared.claim.Evidence.TheVariants.{BadChunk, BadFork, BadTree, Overlap, Later}
use Rattle.geom.specs.Layout.{Layout, split_of}
use Rattle.tree_blocks.specs.Reading.{is_failed as is_failed_walk}
use Rattle.core_scan.specs.Equation.{core_at}
use Rattle.core_scan.specs.declared.held.Held.{Held}
use Rattle.core_scan.specs.declared.read.ScanStop.{ScanStop}
use Rattle.core_scan.specs.declared.read.ScanStop.TheVariants as stops
use Rattle.core_scan.specs.declared.scan.Moved.{Moved}
use Rattle.core_scan.specs.declared.scan.Moved.TheVariants.{At, End}
use Rattle.core_scan.specs.declared.scan.Scan.{Scan}
use Rattle.core_scan.specs.declared.scan.Stop.{Stop}
use Rattle.core_scan.specs.declared.scan.Stop.TheVariants.{Read, Memory as NoMemory}
use Rattle.core_scan.specs.declared.scan.Stuck.{Stuck}
use Rattle.core_scan.specs.declared.scan.Stuck.TheVariants.{Busy, Walk}

-- ---- the device failed

abbrev pub is_stuck_failed : Stuck → Bool
is_stuck_failed (Busy ino) = false
is_stuck_failed (Walk fault) = is_failed_walk fault

abbrev pub is_stop_failed : Stop → Bool
is_stop_failed (Read fault) = is_failed_read fault
is_stop_failed NoMemory = false

abbrev pub is_failed : ScanStop → Bool
is_failed (stops.Bad evidence) = false
is_failed stops.Failed = true
is_failed stops.Memory = false

-- ---- what stays, and where the scan is

-- the group stays, and the cursor never falls
pub record Stays (old new : Scan) : Type 0 where
  pub group : new.group ≡ old.group
  pub own : new.shadow.group ≡ old.shadow.group
  pub later : old.cursor ≤ new.cursor

-- it holds the inode that is answered, above its cursor; or it is at the end, and holds none
abbrev pub IsAt : Moved → Scan → Type 0
IsAt (At ino) new = (h : Held) × (new.held ≡ Some h) × (h.ino ≡ ino)
IsAt End new = (new.held ≡ None) × (new.cursor ≡ 2 ^ 64 - 1)

-- of this inode all was given, and the scan has passed it; or something is left
abbrev pub EndsAt : Held → Bool → Scan → Scan → Type 0
EndsAt h true old new = (new.held ≡ None) × (new.cursor ≡ h.ino)
EndsAt h false old new = ((next : Held) × (new.held ≡ Some next) × (next.ino ≡ h.ino)) × (new.cursor ≡ old.cursor)

abbrev pub Ends : Bool → Scan → Scan → Type 0
Ends true old new = (new.held ≡ None) × (old.cursor < new.cursor)
Ends false old new = (is_some new.held ≡ true) × (new.cursor ≡ old.cursor)

-- where a piece is refused, the hold and the cursor are as they were
pub record IsHalted (old new : Scan) : Type 0 where
  pub held : new.held ≡ old.held
  pub cursor : new.cursor ≡ old.cursor

-- ---- what is refused

-- a fault of the fork that was met from this offset on, or another number of a btree's mappings than the core says
abbrev pub IsFault : Layout → Image → Core3 → Fork → ℕ → ForkFault → Type 0
IsFault at image core fork from fault = IsForkFault at image core fork from fault ⊎ ((fault ≡ Count) × (is_tree core fork ≡ true))

abbrev pub IsRefused : Layout → Image → Core3 → Fork → ℕ → Stop → Type 0
IsRefused at image core fork from (Read (reads.Fork fault)) = IsFault at image core fork from fault
IsRefused at image core fork from (Read (reads.Core fault)) = ⊥
IsRefused at image core fork from (Read reads.Failed) = ⊤
IsRefused at image core fork from (Read reads.Memory) = ⊤
IsRefused at image core fork from NoMemory = ⊤

-- Evidence against an inode: the first fault of its core, with its block; or a fault of one of its forks, and then none of
-- its core.
abbrev pub IsAgainst : Layout → Image → ℕ → ScanStop → Type 0
IsAgainst at image ino (stops.Bad (BadChunk block fault)) = (core_fault (inode_bytes at image ino) ino at.uuid ≡ Some fault) × IfSome (split_of at (ino / 8)) (λ p. p.1 ≡ block)
IsAgainst at image ino (stops.Bad (BadFork number fault)) = (number ≡ ino) × ((fork : Fork) × (from : ℕ) × IsFault at image (core_at at image ino) fork from fault)
IsAgainst at image ino (stops.Bad (BadTree kind block)) = ⊥
IsAgainst at image ino (stops.Bad (Overlap block first second)) = ⊥
IsAgainst at image ino (stops.Bad (Later kind block)) = ⊥
IsAgainst at image ino stops.Failed = ⊤
IsAgainst at image ino stops.Memory = ⊤

-- the core of an inode, or what is against it
abbrev pub ReadsCore : Layout → Image → ℕ → Result Core3 ScanStop → Type 0
ReadsCore at image ino (Ok core) = core ≡ core_at at image ino
ReadsCore at image ino (Err stop) = IsAgainst at image ino stop
