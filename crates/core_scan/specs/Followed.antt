-- What writers' events do to the equation of a scan (Online Fsck Design, "Live Updates", "Filesystem Hooks").
use Rattle.std.specs.Prelude.{◌≡◌, ℕ, ◌<◌, ◌^◌, ◌&&◌, ◌||◌, not, false, List, ◌∷◌, Option, Some, None}
use Rattle.dinode_core.specs.ForkTree.{Image}
use Rattle.dinode_core.specs.Frame.{AreAlike}
use Rattle.fork_read.specs.Pieces.{inode_bytes}
use Rattle.fs_model.specs.declared.entry.Entry.{Entry}
use Rattle.fs_model.specs.declared.entry.Entry.TheVariants as entries
use Rattle.rmap_recs.specs.Runs.{has}
use Rattle.rmap_recs.specs.declared.tuples.Tuple.{Tuple}
use Rattle.run_edits.specs.EditLaws.{AreUntied}
use Rattle.run_edits.specs.Edits.{HasRoom}
use Rattle.sblock.specs.declared.kind.Kind.{Kind}
use Rattle.shadow_rmap.specs.Kept.{KeepsTuples, ShadowState}
use Rattle.fs_state.specs.State.{State}
use Rattle.fs_state.specs.declared.intent.Intent.{Intent}
use Rattle.fs_change.specs.Chains.{given_by, most_chains, run_of, settled_forks, taken_by, word_taken}
use Rattle.fs_change.specs.Laws.{changes_inode}
use Rattle.fs_change.specs.Step.{Step}
use Rattle.law_writers.specs.Change.Chunks.{LeavesChunks}
use Rattle.law_writers.specs.Change.Settled.{IsNextOnce, LeavesOwners}
use Rattle.core_scan.specs.Equation.{IsScan, IsUntied}
use Rattle.core_scan.specs.Moves.{Keeps}
use Rattle.core_scan.specs.Seen.{IsCalm, IsIdle}
use Rattle.core_scan.specs.declared.held.Held.{Held}
use Rattle.core_scan.specs.declared.scan.Scan.{Scan}

-- An event leaves the inode that is held: its entry doesn't change it, no chain owes a mapping of it behind the event, its
-- bytes stay, and no block becomes a fork's.
pub record LeavesHeld (a b : State) (m n : Image) (e : Entry) (h : Held) : Type 0 where
  pub entry : changes_inode a e h.ino ≡ false
  pub idle : IsIdle b h.ino
  pub bytes : inode_bytes a.geometry n h.ino ≡ inode_bytes a.geometry m h.ino

abbrev pub LeavesHold : State → State → Image → Image → Entry → Option Held → Type 0
LeavesHold a b m n e None = Unit {0}
LeavesHold a b m n e (Some h) = LeavesHeld a b m n e h

-- What is known of an event beside a scan?
pub record IsBeside (a b : State) (m n : Image) (left : List Kind) (e : Entry) (held : Option Held) : Type 0 where
  pub step : Step a left e b
  pub before : IsCalm a
  pub behind : IsCalm b
  pub alike : AreAlike m n
  pub leaves : LeavesHold a b m n e held

-- each other event of a writer leaves the shadow: it neither begins nor ends a change of mappings ..
abbrev pub OthersKeepScan : Type 0
OthersKeepScan = (a b : State) (m n : Image) (left : List Kind) (e : Entry) (g c : ℕ) (held : Option Held) (s : ShadowState) → IsBeside a b m n left e held → LeavesOwners a e → IsScan a m g c held s → IsScan b n g c held s

-- .. or it leaves the settled owners, as a first event does
abbrev pub FirstsKeepScan : Type 0
FirstsKeepScan = (a b : State) (m n : Image) (left : List Kind) (e : Entry) (g c : ℕ) (held : Option Held) (s : ShadowState) → IsBeside a b m n left e held → LeavesChunks a e → settled_forks b g ≡ settled_forks a g → IsScan a m g c held s → IsScan b n g c held s

-- ---- a finished step

-- its runs have ends
pub record HasRuns (i : Intent) : Type 0 where
  pub given : HasRoom (run_of i i.word)
  pub taken : HasRoom (run_of i (word_taken i))
  pub small : i.word < 2 ^ 63

-- the shadow loses what the intent takes in its group, and gains what it gives
abbrev pub Turns : Intent → ShadowState → ShadowState → Type 0
Turns i old new = (ts us : List Tuple) → AreUntied ts → AreUntied us → ((t : Tuple) → has us t ≡ ((has ts t && not (has (taken_by old.group i) t)) || has (given_by old.group i) t)) → KeepsTuples ts old → KeepsTuples us new

-- the step of a chain's first intent
pub record IsFinished (a b : State) (m n : Image) (left : List Kind) (chain at count : ℕ) (i : Intent) (s : Scan) : Type 0 where
  pub beside : IsBeside a b m n left (entries.RmapDone chain i.ino i.group at count) s.held
  pub below : chain < most_chains
  pub rest : List Intent
  pub next : a.chains chain ≡ i ∷ rest
  pub leaves : LeavesChunks a (entries.RmapDone chain i.ino i.group at count)
  pub once : IsNextOnce a b s.group (a.chains chain)
  pub untied_before : IsUntied a s.group
  pub untied : IsUntied b s.group

-- so the equation holds behind it
abbrev pub Follows : Intent → Scan → Scan → Type 0
Follows i old new = (a b : State) (m n : Image) (left : List Kind) (chain at count : ℕ) → IsFinished a b m n left chain at count i old → Keeps a m old → Keeps b n new

-- ---- blocks that change while the state doesn't, as those of a reserve do

abbrev pub BytesStay : State → Image → Image → Option Held → Type 0
BytesStay a m n None = Unit {0}
BytesStay a m n (Some h) = inode_bytes a.geometry n h.ino ≡ inode_bytes a.geometry m h.ino

abbrev pub ImageKeepsScan : Type 0
ImageKeepsScan = (a : State) (m n : Image) (g c : ℕ) (held : Option Held) (s : ShadowState) → AreAlike m n → BytesStay a m n held → IsScan a m g c held s → IsScan a n g c held s
