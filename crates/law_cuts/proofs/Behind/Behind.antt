-- What a row keeps sound is sound behind the entry.
use Rattle.law_writers.proofs.Beside.Elsewhere.{elsewhere_kept}
use Rattle.fs_change.specs.Step.{Step, group_of_inode}
use Rattle.fs_model.specs.declared.entry.Entry.{Entry}
use Rattle.fs_model.specs.declared.entry.Entry.TheVariants as entries
use Rattle.fs_state.specs.State.{State}
use Rattle.sblock.specs.declared.kind.Kind.{Kind}
use Rattle.std.specs.Prelude.{List, None, Some}
use Rattle.law_writers.proofs.Held.Kept.{chunk_kept, converted_kept, freed_kept, given_kept, mapped_kept, ref_done_kept, refilled_kept, rmap_done_kept, shared_kept, taken_kept, trimmed_kept, unmapped_kept}
use Rattle.law_writers.specs.Run.Found.{IsMade}
use Rattle.law_cuts.specs.Behind.Behind.{ChunkBehind, ConvertedBehind, ElsewhereBehind, FreedBehind, GivenBehind, MappedBehind, RefDoneBehind, RefilledBehind, RmapDoneBehind, SharedBehind, TakenBehind, TrimmedBehind, UnmappedBehind}
use Rattle.law_cuts.proofs.Cut.Cut.{sound_behind}

made_of : (a z : State) (left : List Kind) (e : Entry) → (s : Step a left e z) → IsMade a s.decided left e
made_of a z left e s = record { row = s.row; leaves = s.leaves; met = s.met }

pub mapped_behind : MappedBehind
mapped_behind a z left m b fit s p2 p3 p4 p5 = sound_behind a z left (entries.Mapped m) m.group b fit s (mapped_kept a s.decided left m b fit (made_of a z left (entries.Mapped m) s) p2 p3 p4 p5)

pub unmapped_behind : UnmappedBehind
unmapped_behind a z left m held g b fit s p2 p3 p4 p5 p6 = sound_behind a z left (entries.Unmapped m) g b fit s (unmapped_kept a s.decided left m held g b fit s.row p2 p3 p4 p5 p6)

pub converted_behind : ConvertedBehind
converted_behind a z left m g b fit s p2 p3 p4 = sound_behind a z left (entries.Converted m) g b fit s (converted_kept a s.decided left m g b fit s.row p2 p3 p4)

pub shared_behind : SharedBehind
shared_behind a z left m held g b fit s p2 p3 p4 p5 p6 p7 p8 p9 = sound_behind a z left (entries.Shared m) g b fit s (shared_kept a s.decided left m held g b fit s.row p2 p3 p4 p5 p6 p7 p8 p9)

pub refilled_behind : RefilledBehind
refilled_behind a z left e b fit s p2 p3 = sound_behind a z left (entries.Refilled e) e.group b fit s (refilled_kept a s.decided left e b fit (made_of a z left (entries.Refilled e) s) p2 p3)

pub trimmed_behind : TrimmedBehind
trimmed_behind a z left e b fit s p2 p3 = sound_behind a z left (entries.Trimmed e) e.group b fit s (trimmed_kept a s.decided left e b fit (made_of a z left (entries.Trimmed e) s) p2 p3)

pub chunk_behind : ChunkBehind
chunk_behind a z left writer ino uid c b fit s p2 p3 p4 p5 = sound_behind a z left (entries.Taken writer ino uid (Some c)) (group_of_inode a ino) b fit s (chunk_kept a s.decided left writer ino uid c b fit (made_of a z left (entries.Taken writer ino uid (Some c)) s) p2 p3 p4 p5)

pub taken_behind : TakenBehind
taken_behind a z left writer ino uid b fit s p2 = sound_behind a z left (entries.Taken writer ino uid None) (group_of_inode a ino) b fit s (taken_kept a s.decided left writer ino uid b fit s.row p2)

pub given_behind : GivenBehind
given_behind a z left writer ino b fit s p2 = sound_behind a z left (entries.Given writer ino) (group_of_inode a ino) b fit s (given_kept a s.decided left writer ino b fit s.row p2)

pub rmap_done_behind : RmapDoneBehind
rmap_done_behind a z left c ino g at n b fit p1 s p3 p4 p5 = sound_behind a z left (entries.RmapDone c ino g at n) g b fit s (rmap_done_kept a s.decided left c ino g at n b fit p1 (made_of a z left (entries.RmapDone c ino g at n) s) p3 p4 p5)

pub ref_done_behind : RefDoneBehind
ref_done_behind a z left c g at n more b fit p1 p2 p3 s p5 = sound_behind a z left (entries.RefDone c g at n more) g b fit s (ref_done_kept a s.decided left c g at n more b fit p1 p2 p3 s.row p5)

pub freed_behind : FreedBehind
freed_behind a z left c g at n kept b fit p1 p2 p3 p4 s p6 = sound_behind a z left (entries.Freed c g at n kept) g b fit s (freed_kept a s.decided left c g at n kept b fit p1 p2 p3 p4 s.row p6)

pub elsewhere_behind : ElsewhereBehind
elsewhere_behind a z left e h b fit s p2 p3 p4 = sound_behind a z left e h b fit s (elsewhere_kept a s.decided left e h b fit (made_of a z left e s) p2 p3 p4)
