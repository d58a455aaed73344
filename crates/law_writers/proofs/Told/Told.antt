-- Settled forks stay by first events, and follow a finished step.
use Rattle.std.proofs.Common.{◌≡◌, ℕ, not, List, [], ◌∷◌, ◌++◌, filter}
use Rattle.law_writers.proofs.Change.Convert.{converted_keeps}
use Rattle.law_writers.proofs.Change.Firsts.{mapped_keeps, shared_keeps, unmapped_keeps}
use Rattle.law_writers.proofs.Change.Rows as chunk_rows
use Rattle.law_writers.proofs.Change.Settled.{finished_step_moves, other_entries_keep}
use Rattle.law_writers.specs.Change.Settled.{given_next, taken_next}
use Rattle.fs_change.proofs.Stays.{decided_stands}
use Rattle.fs_change.specs.Chains.{settled_forks}
use Rattle.fs_change.specs.Step.{Step}
use Rattle.fs_state.specs.Own.{set_of}
use Rattle.fs_model.specs.declared.entry.Entry.{Entry}
use Rattle.fs_model.specs.declared.entry.Entry.TheVariants as entries
use Rattle.fs_state.specs.State.{State}
use Rattle.fs_state.specs.declared.intent.Intent.{Intent}
use Rattle.law_accounts.proofs.Owner.Finished.{finished_keeps}
use Rattle.law_accounts.proofs.Owner.Others.{others_keep}
use Rattle.law_accounts.specs.Owner.Kept.{ForksFollow, IsOwedNext}
use Rattle.rmap_recs.specs.Runs.{has}
use Rattle.sblock.specs.declared.kind.Kind.{Kind}
use Rattle.law_writers.specs.Told.Told.{ConvertedTold, FinishedTold, IsMadeInWords, MappedTold, OthersTold, SharedTold, UnmappedTold}

-- all blocks may stay where they are, so it is a step
step_of : (a x : State) (left : List Kind) (e : Entry) → IsMadeInWords a x left e → Step a left e x
step_of a x left e m = decided_stands a x left e m.made.row m.made.leaves m.made.met m.words

pub mapped_told : MappedTold
mapped_told a x left m h fit made sound run told =
    others_keep a x left (entries.Mapped m) h made.made.row tt (chunk_rows.decided a x left (entries.Mapped m) fit made.made.row tt) (mapped_keeps a x left m h fit (step_of a x left (entries.Mapped m) made) sound run) told

pub unmapped_told : UnmappedTold
unmapped_told a x left m h fit made sound run told =
    others_keep a x left (entries.Unmapped m) h made.made.row tt (chunk_rows.decided a x left (entries.Unmapped m) fit made.made.row tt) (unmapped_keeps a x left m h fit (step_of a x left (entries.Unmapped m) made) sound run) told

pub converted_told : ConvertedTold
converted_told a x left m h fit made sound run told =
    others_keep a x left (entries.Converted m) h made.made.row tt (chunk_rows.decided a x left (entries.Converted m) fit made.made.row tt) (converted_keeps a x left m h fit (step_of a x left (entries.Converted m) made) sound run) told

pub shared_told : SharedTold
shared_told a x left m h fit made sound run told =
    others_keep a x left (entries.Shared m) h made.made.row tt (chunk_rows.decided a x left (entries.Shared m) fit made.made.row tt) (shared_keeps a x left m h fit (step_of a x left (entries.Shared m) made) sound run) told

pub others_told : OthersTold
others_told a x left e h fit made leaves owners chunks told =
    others_keep a x left e h made.made.row leaves (chunk_rows.decided a x left e fit made.made.row chunks) (other_entries_keep a x left e h fit (step_of a x left e made) owners) told

follows : (a x : State) (g : ℕ) (is : List Intent) → IsOwedNext a x g is → settled_forks x g ≡ set_of (filter (λ t. not (has (taken_next g is) t)) (settled_forks a g) ++ given_next g is) → ForksFollow a x g is
follows a x g [] owed e = owed
follows a x g (i ∷ rest) owed e = e

pub finished_told : FinishedTold
finished_told a x left c ino g at n fit lt made chunks w once owed told =
    finished_keeps a x left c ino g at n made.made.row (chunk_rows.decided a x left (entries.RmapDone c ino g at n) fit made.made.row chunks) w owed
    (follows a x g (a.chains c) owed (finished_step_moves a x left c ino g at n g fit lt (step_of a x left (entries.RmapDone c ino g at n) made) chunks once)) told
