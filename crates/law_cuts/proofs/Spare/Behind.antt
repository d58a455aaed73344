-- Mappings that tell settled owners behind each entry of a writer.
use Rattle.std.proofs.Common.{◌≡◌, ℕ, not, List, [], ◌∷◌, ◌++◌, filter, None, Some, ◌∙◌}
use Rattle.law_writers.proofs.Change.Convert.{converted_keeps}
use Rattle.law_writers.proofs.Change.Firsts.{mapped_keeps, shared_keeps, unmapped_keeps}
use Rattle.law_writers.proofs.Change.Rows as chunk_rows
use Rattle.law_writers.proofs.Change.Settled.{finished_step_moves, other_entries_keep}
use Rattle.law_writers.specs.Change.Chunks.{LeavesChunks}
use Rattle.law_writers.specs.Change.Settled.{LeavesOwners, given_next, taken_next}
use Rattle.fs_change.specs.Chains.{settled_forks}
use Rattle.fs_change.specs.Step.{group_of_inode}
use Rattle.fs_state.specs.Own.{set_of}
use Rattle.fs_model.specs.declared.entry.Entry.{Entry}
use Rattle.fs_model.specs.declared.entry.Entry.TheVariants as entries
use Rattle.fs_state.specs.State.{State}
use Rattle.fs_state.specs.declared.intent.Intent.{Intent}
use Rattle.law_accounts.proofs.Owner.Finished.{finished_keeps}
use Rattle.law_accounts.proofs.Owner.Others.{others_keep}
use Rattle.law_accounts.specs.Owner.Kept.{ForksFollow, IsOwedNext, LeavesMappings}
use Rattle.rmap_recs.specs.Runs.{has}
use Rattle.law_writers.specs.Told.Listed.{ChunkListTold, GivenListTold, RefilledListTold, TakenListTold, TrimmedListTold}
use Rattle.law_cuts.specs.Spare.Behind.{ChunkTells, ConvertedTells, FinishedTells, GivenTells, MappedTells, OthersTell, RefilledTells, SharedTells, TakenTells, TrimmedTells, UnmappedTells}
use Rattle.law_cuts.proofs.Spare.Cut.{cut_told, decided_forks}
use Rattle.law_cuts.proofs.Spare.Held.{made_of}

-- ---- first events, which keep the settled owners of forks

pub mapped_tells : MappedTells
mapped_tells a z left m h fit s sound run may told =
    let e : Entry = entries.Mapped m in
    cut_told a z left e h fit s may (others_keep a s.decided left e h s.row tt (chunk_rows.decided a s.decided left e fit s.row tt) (decided_forks a z left e fit s h ∙ mapped_keeps a z left m h fit s sound run) told)

pub unmapped_tells : UnmappedTells
unmapped_tells a z left m h fit s sound run told =
    let e : Entry = entries.Unmapped m in
    cut_told a z left e h fit s tt (others_keep a s.decided left e h s.row tt (chunk_rows.decided a s.decided left e fit s.row tt) (decided_forks a z left e fit s h ∙ unmapped_keeps a z left m h fit s sound run) told)

pub converted_tells : ConvertedTells
converted_tells a z left m h fit s sound run told =
    let e : Entry = entries.Converted m in
    cut_told a z left e h fit s tt (others_keep a s.decided left e h s.row tt (chunk_rows.decided a s.decided left e fit s.row tt) (decided_forks a z left e fit s h ∙ converted_keeps a z left m h fit s sound run) told)

pub shared_tells : SharedTells
shared_tells a z left m h fit s sound run told =
    let e : Entry = entries.Shared m in
    cut_told a z left e h fit s tt (others_keep a s.decided left e h s.row tt (chunk_rows.decided a s.decided left e fit s.row tt) (decided_forks a z left e fit s h ∙ shared_keeps a z left m h fit s sound run) told)

-- ---- entries that neither begin nor end a change of mappings

chunks_left : (a : State) (e : Entry) → LeavesMappings e → LeavesOwners a e → LeavesChunks a e
chunks_left a (entries.RefDone c g b n more) maps owners = tt
chunks_left a (entries.Freed c g b n kept) maps owners = tt
chunks_left a (entries.Marked g k cause) maps owners = tt
chunks_left a (entries.Fault g unit fault) maps owners = tt
chunks_left a (entries.Verdict g unit verdict) maps owners = tt
chunks_left a (entries.Released g unit) maps owners = tt
chunks_left a (entries.Reply writer line code done refused begun) maps owners = tt
chunks_left a (entries.Mapped m) maps owners = absurd owners
chunks_left a (entries.Unmapped m) maps owners = absurd owners
chunks_left a (entries.Converted m) maps owners = absurd owners
chunks_left a (entries.Shared m) maps owners = absurd owners
chunks_left a e maps owners = absurd maps

pub others_tell : OthersTell
others_tell a z left e h fit s maps owners may told =
    cut_told a z left e h fit s may
    (others_keep a s.decided left e h s.row maps (chunk_rows.decided a s.decided left e fit s.row (chunks_left a e maps owners)) (decided_forks a z left e fit s h ∙ other_entries_keep a z left e h fit s owners) told)

-- ---- a finished step, which they follow

follows : (a x : State) (g : ℕ) (is : List Intent) → IsOwedNext a x g is → settled_forks x g ≡ set_of (filter (λ t. not (has (taken_next g is) t)) (settled_forks a g) ++ given_next g is) → ForksFollow a x g is
follows a x g [] owed e = owed
follows a x g (i ∷ rest) owed e = e

pub finished_tells : FinishedTells
finished_tells a z left c ino g at n fit lt s chunks written once owed may told =
    let e : Entry = entries.RmapDone c ino g at n in
    cut_told a z left e g fit s may
    (finished_keeps a s.decided left c ino g at n s.row (chunk_rows.decided a s.decided left e fit s.row chunks) written owed
    (follows a s.decided g (a.chains c) owed (decided_forks a z left e fit s g ∙ finished_step_moves a z left c ino g at n g fit lt s chunks once)) told)

-- ---- inodes and runs of the list, of which another law tells it of the state that the row decides

pub taken_tells : TakenListTold → TakenTells
taken_tells law a z left writer ino uid h fit s may told = cut_told a z left (entries.Taken writer ino uid None) h fit s may (law a s.decided left writer ino uid h fit s.row told)

pub given_tells : GivenListTold → GivenTells
given_tells law a z left writer ino h fit s may told = cut_told a z left (entries.Given writer ino) h fit s may (law a s.decided left writer ino h fit s.row told)

pub refilled_tells : RefilledListTold → RefilledTells
refilled_tells law a z left e fit s run may told = cut_told a z left (entries.Refilled e) e.group fit s may (law a s.decided left e fit s.row run told)

pub trimmed_tells : TrimmedListTold → TrimmedTells
trimmed_tells law a z left e fit s run alien sound may told = cut_told a z left (entries.Trimmed e) e.group fit s may (law a s.decided left e fit s.row run alien sound told)

pub chunk_tells : ChunkListTold → ChunkTells
chunk_tells law a z left writer ino uid c fit s words readable run may told =
    let e : Entry = entries.Taken writer ino uid (Some c) in
    cut_told a z left e (group_of_inode a ino) fit s may (law a s.decided left writer ino uid c fit (made_of a z left e s) words readable run told)
