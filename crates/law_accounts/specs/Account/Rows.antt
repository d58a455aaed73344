-- Rows that compute: why first events ask for held inodes, and which record a run joins.
use Rattle.std.specs.Prelude.{◌≡◌, ◌==◌, ℕ, true, false, List, [], ◌∷◌, Ok, Some, if◌then◌else◌}
use Rattle.dinode_core.specs.declared.mapping.Fork.{Fork}
use Rattle.dinode_core.specs.declared.mapping.Fork.TheVariants as forks
use Rattle.dinode_core.specs.declared.mapping.Mapping.{Mapping}
use Rattle.fs_change.specs.Changes.{freed, intent, ref_done, rmap_done, shared, unmapped}
use Rattle.fs_change.specs.Parts.{records_in}
use Rattle.fs_change.specs.Records.{give_mapping}
use Rattle.fs_change.specs.Step.{Row}
use Rattle.fs_change.specs.Chains.{is_quiet}
use Rattle.fs_state.specs.Worked.{chunk, layout, written}
use Rattle.fs_model.specs.declared.entry.Entry.TheVariants as entries
use Rattle.fs_model.specs.declared.entry.Extent.{Extent}
use Rattle.fs_model.specs.declared.entry.Piece.{Piece}
use Rattle.fs_model.specs.declared.entry.SharedPiece.{SharedPiece}
use Rattle.fs_model.specs.declared.unit.Trust.TheVariants.{Unknown}
use Rattle.fs_state.specs.Kinds.{RecOf}
use Rattle.fs_state.specs.State.{State, Readable, Reading, Whole}
use Rattle.fs_state.specs.declared.intent.IntentKind.TheVariants.{RmapAdd, RmapRemove, RefMore, RefLess}
use Rattle.rmap_recs.specs.Owners.{number_of}
use Rattle.rmap_recs.specs.declared.owner.Owner.TheVariants.{Ag, Inodes}
use Rattle.rmap_recs.specs.declared.records.RmapRec.{RmapRec}
use Rattle.sblock.specs.declared.kind.Kind.{Kind}
use Rattle.sblock.specs.declared.kind.Kind.TheVariants.{Bno, Cnt, Rmap, Refc, Ino, Fino}
use Rattle.law_accounts.specs.Account.Accounts.{covers_at}

-- ---- files 64 and 65; file 64 maps block 20, written, and reverse mappings say so

abbrev pub one_block : RmapRec
one_block = record { start = 20; count = 1; owner = 64; word = 0 }

abbrev pub of_inodes : RmapRec
of_inodes = record { start = 8; count = 8; owner = number_of Inodes; word = 0 }

abbrev pub tree : (k : Kind) → Reading (RecOf k)
tree Bno = Readable [] (1 ∷ [])
tree Cnt = Readable [] (2 ∷ [])
tree Rmap = Readable (of_inodes ∷ one_block ∷ []) (5 ∷ [])
tree Refc = Readable [] (6 ∷ [])
tree Ino = Readable (chunk ∷ []) (3 ∷ [])
tree Fino = Readable [] (4 ∷ [])

abbrev pub mapped_in : ℕ → Fork → List Mapping
mapped_in ino forks.Data = if ino == 64 then written 0 20 ∷ [] else []
mapped_in ino forks.Attr = []

abbrev pub two_files : State
two_files = record {
  geometry = layout;
  group = λ g. record { free_list = []; counters = λ name. 0; tree = λ k. record { reading = tree k; trust = Unknown }; reserve = []; limbo = [] };
  core = λ ino. Some (Whole (record { mode = 0x8000; uid = 0; reflink = false }));
  fork = λ ino f. Ok (record { mappings = mapped_in ino f; blocks = [] });
  chains = λ c. [];
}

-- ---- chain 0 shares the block with file 65. Before its steps chain 1, which doesn't hold file 64, unmaps it there, counts
-- down and frees it.

abbrev pub run : Extent
run = record { group = 0; block = 20; count = 1 }

abbrev pub sharing : SharedPiece
sharing = record { writer = 1; chain = 0; from = 64; from_offset = 0; to = 65; to_offset = 0; group = 0; block = 20; count = 1 }

abbrev pub leaving : Piece
leaving = record { writer = 2; chain = 1; ino = 64; offset = 0; group = 0; block = 20; count = 1 }

abbrev pub once_shared : State
once_shared = shared sharing two_files

abbrev pub once_unmapped : State
once_unmapped = unmapped leaving once_shared

abbrev pub taken_out : State
taken_out = rmap_done [] 1 (intent RmapRemove 64 0 run) (intent RefLess 0 0 run ∷ []) once_unmapped

abbrev pub counted_down : State
counted_down = ref_done [] 1 false run (intent RefLess 0 0 run) [] taken_out

abbrev pub set_free : State
set_free = freed [] 1 false run [] counted_down

abbrev pub put_in : State
put_in = rmap_done [] 0 (intent RmapAdd 65 0 run) (intent RefMore 0 0 run ∷ []) set_free

abbrev pub counted_up : State
counted_up = ref_done [] 0 true run (intent RefMore 0 0 run) [] put_in

-- each entry may stand where it does, nothing is owed at the end, and two indexes are wrong: the block has a count of two,
-- and is free, and file 65 has it
pub record HoldsNeeded : Type 0 where
  pub first : Row two_files [] (entries.Shared sharing) once_shared
  pub second : Row once_shared [] (entries.Unmapped leaving) once_unmapped
  pub third : Row once_unmapped [] (entries.RmapDone 1 64 0 20 1) taken_out
  pub fourth : Row taken_out [] (entries.RefDone 1 0 20 1 false) counted_down
  pub fifth : Row counted_down [] (entries.Freed 1 0 20 1 false) set_free
  pub sixth : Row set_free [] (entries.RmapDone 0 65 0 20 1) put_in
  pub seventh : Row put_in [] (entries.RefDone 0 0 20 1 true) counted_up
  pub counted : records_in (counted_up.group 0) Refc ≡ record { start = 20; count = 1; refcount = 2 } ∷ []
  pub owned_once : covers_at (records_in (counted_up.group 0) Rmap) 20 ≡ 1
  pub quiet : is_quiet counted_up 0 ≡ true
  pub free : records_in (counted_up.group 0) Bno ≡ record { start = 20; count = 1 } ∷ []

-- ---- the record that a run joins needn't be the list's neighbour

abbrev pub of_group : ℕ → ℕ → RmapRec
of_group b n = record { start = b; count = n; owner = number_of Ag; word = 0 }

abbrev pub between : RmapRec
between = record { start = 1; count = 1; owner = 64; word = 0 }

pub record Rows : Type 0 where
  pub holds : HoldsNeeded
  pub joins : give_mapping (of_group 4 2) (of_group 0 4 ∷ between ∷ []) ≡ of_group 0 6 ∷ between ∷ []
