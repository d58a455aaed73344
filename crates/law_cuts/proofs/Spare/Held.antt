-- What chains hold of the state that a row decides they hold behind the entry.
use Rattle.law_cuts.proofs.Cut.Cut.{held_behind}
use Rattle.fs_change.specs.Step.{Step}
use Rattle.fs_model.specs.declared.entry.Entry.{Entry}
use Rattle.fs_model.specs.declared.entry.Entry.TheVariants as entries
use Rattle.fs_state.specs.State.{State}
use Rattle.law_writers.proofs.Held.Held.{converted_held, mapped_held, shared_held, unmapped_held}
use Rattle.law_writers.proofs.Held.Holders.{chunk_held, others_held}
use Rattle.law_writers.specs.Run.Found.{IsMade}
use Rattle.sblock.specs.declared.kind.Kind.{Kind}
use Rattle.std.specs.Prelude.{List, Some}
use Rattle.law_cuts.specs.Spare.Held.{ChunkHolds, ConvertedHolds, MappedHolds, OthersHold, SharedHolds, UnmappedHolds}

pub made_of : (a z : State) (left : List Kind) (e : Entry) → (s : Step a left e z) → IsMade a s.decided left e
made_of a z left e s = record { row = s.row; leaves = s.leaves; met = s.met }

pub mapped_holds : MappedHolds
mapped_holds a z left m held fit s sound run is hold = held_behind a z left (entries.Mapped m) held fit s (mapped_held a s.decided left m held fit s.row sound run is hold)

pub unmapped_holds : UnmappedHolds
unmapped_holds a z left m held fit s sound run is hold = held_behind a z left (entries.Unmapped m) held fit s (unmapped_held a s.decided left m held fit s.row sound run is hold)

pub converted_holds : ConvertedHolds
converted_holds a z left m held fit s sound run is hold = held_behind a z left (entries.Converted m) held fit s (converted_held a s.decided left m held fit s.row sound run is hold)

pub shared_holds : SharedHolds
shared_holds a z left m held fit s sound run sound_to run_to is is_to hold =
    held_behind a z left (entries.Shared m) held fit s (shared_held a s.decided left m held fit s.row sound run sound_to run_to is is_to hold)

pub others_hold : OthersHold
others_hold a z left e held fit s forks chunks hold = held_behind a z left e held fit s (others_held a s.decided left e held fit s.row forks chunks hold)

pub chunk_holds : ChunkHolds
chunk_holds a z left writer ino uid c held fit s words readable hold =
    held_behind a z left (entries.Taken writer ino uid (Some c)) held fit s (chunk_held a s.decided left writer ino uid c held fit (made_of a z left (entries.Taken writer ino uid (Some c)) s) words readable hold)
