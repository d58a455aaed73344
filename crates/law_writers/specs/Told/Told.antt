-- Reverse mappings that tell settled owners do so behind each entry of a writer, since settled forks stay or follow: one
-- entry, and what an event has of it.
use Rattle.std.specs.Prelude.{ℕ, ◌<◌, List}
use Rattle.law_accounts.specs.Account.Firsts.{run_shared}
use Rattle.law_accounts.specs.Account.Steps.{IsWritten}
use Rattle.law_writers.specs.Change.Chunks.{LeavesChunks}
use Rattle.law_writers.specs.Change.Forks.{IsRunAt, IsSound}
use Rattle.law_writers.specs.Change.Settled.{IsNextOnce, LeavesOwners}
use Rattle.fs_change.specs.Chains.{most_chains}
use Rattle.fs_change.specs.Changes.{extent_of}
use Rattle.fs_change.specs.Edited.{group_of_entry}
use Rattle.fs_change.specs.Laws.{AreWords}
use Rattle.fs_model.specs.declared.entry.Entry.{Entry}
use Rattle.fs_model.specs.declared.entry.Entry.TheVariants as entries
use Rattle.fs_model.specs.declared.entry.Piece.{Piece}
use Rattle.fs_model.specs.declared.entry.SharedPiece.{SharedPiece}
use Rattle.fs_state.specs.State.{State}
use Rattle.geom.specs.Apart.{HasFitting}
use Rattle.law_accounts.specs.Owner.Kept.{IsOwedNext, LeavesMappings}
use Rattle.law_accounts.specs.Owner.Told.{AreTold}
use Rattle.sblock.specs.declared.kind.Kind.{Kind}
use Rattle.law_writers.specs.Run.Found.{IsMade}

-- an entry is made, and the heads' counters of its group are words then
pub record IsMadeInWords (a x : State) (left : List Kind) (e : Entry) : Type 0 where
  pub made : IsMade a x left e
  pub words : AreWords (x.group (group_of_entry a e))

-- ---- first events

abbrev pub MappedTold : Type 0
MappedTold = (a x : State) (left : List Kind) (m : Piece) (h : ℕ) → HasFitting a.geometry → IsMadeInWords a x left (entries.Mapped m) → IsSound a m.ino → IsRunAt a (extent_of m) m.offset → AreTold a h → AreTold x h

abbrev pub UnmappedTold : Type 0
UnmappedTold = (a x : State) (left : List Kind) (m : Piece) (h : ℕ) → HasFitting a.geometry → IsMadeInWords a x left (entries.Unmapped m) → IsSound a m.ino → IsRunAt a (extent_of m) m.offset → AreTold a h → AreTold x h

abbrev pub ConvertedTold : Type 0
ConvertedTold = (a x : State) (left : List Kind) (m : Piece) (h : ℕ) → HasFitting a.geometry → IsMadeInWords a x left (entries.Converted m) → IsSound a m.ino → IsRunAt a (extent_of m) m.offset → AreTold a h → AreTold x h

abbrev pub SharedTold : Type 0
SharedTold = (a x : State) (left : List Kind) (m : SharedPiece) (h : ℕ) → HasFitting a.geometry → IsMadeInWords a x left (entries.Shared m) → IsSound a m.to → IsRunAt a (run_shared m) m.to_offset → AreTold a h → AreTold x h

-- ---- steps of counts, freed runs, marks, verdicts and replies, which leave owners of forks and of chunks

abbrev pub OthersTold : Type 0
OthersTold = (a x : State) (left : List Kind) (e : Entry) (h : ℕ) → HasFitting a.geometry → IsMadeInWords a x left e → LeavesMappings e → LeavesOwners a e → LeavesChunks a e → AreTold a h → AreTold x h

-- ---- a finished step of reverse mappings

abbrev pub FinishedTold : Type 0
FinishedTold = (a x : State) (left : List Kind) (c ino g at n : ℕ) → HasFitting a.geometry → c < most_chains → IsMadeInWords a x left (entries.RmapDone c ino g at n) → LeavesChunks a (entries.RmapDone c ino g at n)
    → IsWritten left (a.group g) → IsNextOnce a x g (a.chains c) → IsOwedNext a x g (a.chains c) → AreTold a g → AreTold x g
