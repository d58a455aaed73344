-- What a call that reads a piece of an inode tests, and how it names a refusal.
use Rattle.std.specs.Prelude.{◌≡◌, ℕ, ◌<◌, ◌^◌, true, Result, Ok, Err}
use Rattle.dinode_core.specs.declared.inode.Core3.{Core3}
use Rattle.dinode_core.specs.declared.inode.CoreFault.{CoreFault}
use Rattle.fork_read.specs.declared.fault.ReadFault.TheVariants as reads
use Rattle.fs_model.specs.declared.claim.Evidence.TheVariants.{BadChunk, BadFork}
use Rattle.inode_pass.specs.declared.stop.PassStop.{PassStop}
use Rattle.inode_pass.specs.declared.stop.PassStop.TheVariants as passes
use Rattle.rmap_recs.specs.Owners.{is_inode}
use Rattle.core_scan.specs.declared.held.Held.{Held}
use Rattle.core_scan.specs.declared.read.ScanStop.{ScanStop}
use Rattle.core_scan.specs.declared.read.ScanStop.TheVariants.{Bad, Failed, Memory}
use Rattle.core_scan.specs.declared.scan.Stop.{Stop}
use Rattle.core_scan.specs.declared.scan.Stop.TheVariants.{Read, Memory as NoMemory}

-- a hold of an inode number above the cursor, of which no more was given than 2^64 mappings
pub record IsFit (h : Held) (cursor : ℕ) : Type 0 where
  pub inode : is_inode h.ino ≡ true
  pub above : cursor < h.ino
  pub few : h.own < 2 ^ 64
  pub fewer : h.given < 2 ^ 64

abbrev pub comes_from : PassStop → ScanStop
comes_from passes.Failed = Failed
comes_from passes.Memory = Memory

-- a fault of a fork is evidence against its inode
abbrev pub stopped : ℕ → Stop → ScanStop
stopped ino (Read (reads.Fork fault)) = Bad (BadFork ino fault)
stopped ino (Read (reads.Core fault)) = Memory
stopped ino (Read reads.Failed) = Failed
stopped ino (Read reads.Memory) = Memory
stopped ino NoMemory = Memory

-- a core that is refused is evidence against its block
abbrev pub chunk_answer : ℕ → Result Core3 CoreFault → Result Core3 ScanStop
chunk_answer block (Ok core) = Ok core
chunk_answer block (Err fault) = Err (Bad (BadChunk block fault))
