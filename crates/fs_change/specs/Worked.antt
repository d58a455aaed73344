-- Edits of records, worked: they pin what the definitions mean where no law does.
use Rattle.std.specs.Prelude.{◌≡◌, ℕ, ◌^◌, ◌+◌, ◌-◌, true, false, List, [], ◌∷◌, Bool}
use Rattle.dinode_core.specs.declared.mapping.Mapping.{Mapping}
use Rattle.ino_recs.specs.declared.chunk.InoRec.{InoRec}
use Rattle.rmap_recs.specs.declared.records.RmapRec.{RmapRec}
use Rattle.sblock.specs.declared.kind.Kind.TheVariants.{Bno, Rmap, Refc}
use Rattle.span_recs.specs.declared.refcount.RefcRec.{RefcRec}
use Rattle.span_recs.specs.declared.span.SpanRec.{SpanRec}
use Rattle.fs_change.specs.Choice.{is_guarded}
use Rattle.fs_change.specs.Changes.{follow, by_count}
use Rattle.fs_change.specs.Records.{span, by_start, take_span, give_span, give_mapping, take_mapping, counted, count_at, stretch, set_count, turn_inode, follow_inode, add_mapping, take_piece}
use Rattle.fs_change.specs.Met.{Met, nothing, met_taking, met_taking_count, met_giving, met_giving_count, met_losing, met_gaining, met_turning, met_counting, met_following}
use Rattle.fs_change.specs.Switch.{need_of, join_limbo, owned_by}

-- ---- free space

abbrev pub spans : List SpanRec
spans = span 4 4 ∷ span 10 2 ∷ span 20 8 ∷ []

pub record WorkedSpans : Type 0 where
  pub front : take_span by_start spans (span 20 3) spans ≡ span 4 4 ∷ span 10 2 ∷ span 23 5 ∷ []
  pub middle : take_span by_start spans (span 22 2) spans ≡ span 4 4 ∷ span 10 2 ∷ span 20 2 ∷ span 24 4 ∷ []
  pub whole : take_span by_start spans (span 10 2) spans ≡ span 4 4 ∷ span 20 8 ∷ []
  -- a run that isn't free as a whole leaves the records
  pub beyond : take_span by_start spans (span 11 2) spans ≡ spans
  pub between : give_span by_start spans (span 8 2) spans ≡ span 4 8 ∷ span 20 8 ∷ []
  pub alone : give_span by_start spans (span 14 2) spans ≡ span 4 4 ∷ span 10 2 ∷ span 14 2 ∷ span 20 8 ∷ []
  pub behind : give_span by_start spans (span 12 1) spans ≡ span 4 4 ∷ span 10 3 ∷ span 20 8 ∷ []
  -- the same in the order of counts
  pub counted : give_span by_count spans (span 8 2) (span 10 2 ∷ span 4 4 ∷ span 20 8 ∷ []) ≡ span 4 8 ∷ span 20 8 ∷ []
  pub cut : take_span by_count spans (span 20 7) (span 10 2 ∷ span 4 4 ∷ span 20 8 ∷ []) ≡ span 27 1 ∷ span 10 2 ∷ span 4 4 ∷ []
  -- counters are numbers of 32 bits
  pub more : follow (2 ^ 32 - 1) 5 7 ≡ 1
  pub less : follow 1 (2 ^ 33 + 7) 5 ≡ 2 ^ 32 - 1

-- ---- reverse mappings

abbrev pub run : ℕ → ℕ → ℕ → ℕ → RmapRec
run start count owner word = record { start = start; count = count; owner = owner; word = word }

abbrev pub group_own : ℕ
group_own = 2 ^ 64 - 5

abbrev pub runs : List RmapRec
runs = run 4 4 group_own 0 ∷ run 10 4 133 7 ∷ run 11 1 134 0 ∷ run 16 2 group_own 0 ∷ []

pub record WorkedMappings : Type 0 where
  pub joined : give_mapping (run 8 8 group_own 0) runs ≡ run 4 14 group_own 0 ∷ run 10 4 133 7 ∷ run 11 1 134 0 ∷ []
  pub offset : give_mapping (run 14 1 133 11) runs ≡ run 4 4 group_own 0 ∷ run 10 5 133 7 ∷ run 11 1 134 0 ∷ run 16 2 group_own 0 ∷ []
  pub other : give_mapping (run 14 1 133 12) runs ≡ run 4 4 group_own 0 ∷ run 10 4 133 7 ∷ run 11 1 134 0 ∷ run 14 1 133 12 ∷ run 16 2 group_own 0 ∷ []
  pub middle : take_mapping (run 11 2 133 8) runs ≡ run 4 4 group_own 0 ∷ run 10 1 133 7 ∷ run 11 1 134 0 ∷ run 13 1 133 10 ∷ run 16 2 group_own 0 ∷ []
  -- of two that hold it, the first is cut
  pub first : take_mapping (run 5 1 group_own 0) (run 4 4 group_own 0 ∷ run 5 1 group_own 0 ∷ []) ≡ run 4 1 group_own 0 ∷ run 5 1 group_own 0 ∷ run 6 2 group_own 0 ∷ []
  pub guarded : is_guarded runs 13 3 ≡ true
  pub unguarded : is_guarded runs 14 2 ≡ false

-- ---- reference counts

abbrev pub counts : List RefcRec
counts = counted 4 4 2 ∷ counted 8 4 3 ∷ counted 20 2 2 ∷ []

pub record WorkedCounts : Type 0 where
  pub there : count_at counts 11 ≡ 3
  pub none : count_at counts 12 ≡ 1
  pub reach : stretch counts 9 3 ≡ 3
  pub beyond : stretch counts 9 4 ≡ 3
  pub empty : stretch counts 12 8 ≡ 8
  pub meets : stretch counts 12 9 ≡ 8
  pub last : stretch counts 22 5 ≡ 5
  -- of records that overlap the last that begins decides
  pub hidden : stretch (counted 4 8 2 ∷ counted 6 2 3 ∷ []) 4 8 ≡ 2
  pub risen : set_count 6 2 3 counts ≡ counted 4 2 2 ∷ counted 6 6 3 ∷ counted 20 2 2 ∷ []
  pub gone : set_count 5 1 1 counts ≡ counted 4 1 2 ∷ counted 6 2 2 ∷ counted 8 4 3 ∷ counted 20 2 2 ∷ []
  pub begun : set_count 18 2 2 counts ≡ counted 4 4 2 ∷ counted 8 4 3 ∷ counted 18 4 2 ∷ []

-- ---- inodes

abbrev pub chunk : ℕ → ℕ → ℕ → InoRec
chunk startino freecount free = record { startino = startino; holemask = 0; count = 64; freecount = freecount; free = free }

pub record WorkedInodes : Type 0 where
  pub taken : turn_inode false 65 (chunk 64 2 3 ∷ chunk 128 0 0 ∷ []) ≡ chunk 64 1 1 ∷ chunk 128 0 0 ∷ []
  pub given : turn_inode true 130 (chunk 64 2 3 ∷ chunk 128 0 0 ∷ []) ≡ chunk 64 2 3 ∷ chunk 128 1 4 ∷ []
  pub listed : follow_inode 130 (chunk 64 2 3 ∷ chunk 128 1 4 ∷ []) (chunk 64 2 3 ∷ []) ≡ chunk 64 2 3 ∷ chunk 128 1 4 ∷ []
  pub unlisted : follow_inode 64 (chunk 64 0 0 ∷ []) (chunk 64 1 1 ∷ []) ≡ []

-- ---- forks, of groups of 64 blocks

abbrev pub mapping : ℕ → ℕ → ℕ → Bool → Mapping
mapping offset block count unwritten = record { offset = offset; block = block; count = count; unwritten = unwritten }

abbrev pub fork : List Mapping
fork = mapping 0 20 4 false ∷ mapping 8 24 4 false ∷ mapping 20 60 4 true ∷ []

pub record WorkedForks : Type 0 where
  pub before : add_mapping 6 (mapping 4 24 2 false) fork ≡ mapping 0 20 6 false ∷ mapping 8 24 4 false ∷ mapping 20 60 4 true ∷ []
  pub beside : add_mapping 6 (mapping 4 24 2 true) fork ≡ mapping 0 20 4 false ∷ mapping 4 24 2 true ∷ mapping 8 24 4 false ∷ mapping 20 60 4 true ∷ []
  -- blocks of two groups never meet
  pub groups : add_mapping 6 (mapping 24 64 2 true) fork ≡ mapping 0 20 4 false ∷ mapping 8 24 4 false ∷ mapping 20 60 4 true ∷ mapping 24 64 2 true ∷ []
  pub both : add_mapping 6 (mapping 4 24 4 false) (mapping 0 20 4 false ∷ mapping 8 28 4 false ∷ []) ≡ mapping 0 20 12 false ∷ []
  pub most : add_mapping 6 (mapping 4 24 4 false) (mapping 0 20 4 false ∷ mapping 8 28 (2 ^ 21 - 8) false ∷ []) ≡ mapping 0 20 8 false ∷ mapping 8 28 (2 ^ 21 - 8) false ∷ []
  pub cut : take_piece 9 2 fork ≡ mapping 0 20 4 false ∷ mapping 8 24 1 false ∷ mapping 11 27 1 false ∷ mapping 20 60 4 true ∷ []

-- ---- new trees and limbo

pub record WorkedTrees : Type 0 where
  pub empty : need_of Bno 0 ≡ 1
  pub leaf : need_of Bno 505 ≡ 1
  pub root : need_of Bno 506 ≡ 3
  pub mapped : need_of Rmap 169 ≡ 3
  pub nodes : need_of Refc 169681 ≡ 509
  pub pairs : join_limbo (owned_by 2 7 ∷ owned_by 1 7 ∷ []) (owned_by 1 3 ∷ owned_by 1 7 ∷ []) ≡ owned_by 1 3 ∷ owned_by 1 7 ∷ owned_by 2 7 ∷ []

-- ---- what edits meet

abbrev pub lacking : Met
lacking = record { lacks = true; meets = false; far = false }

abbrev pub meeting : Met
meeting = record { lacks = false; meets = true; far = false }

abbrev pub overlapping : Met
overlapping = record { lacks = false; meets = true; far = true }

-- a record meets, and hides behind a later one: no search has to find it
abbrev pub hiding : Met
hiding = record { lacks = false; meets = false; far = true }

abbrev pub overlaid : List SpanRec
overlaid = span 10 100 ∷ span 12 1 ∷ span 50 10 ∷ []

pub record WorkedFaults : Type 0 where
  pub sound : met_taking spans (span 20 3) ≡ nothing
  pub not_free : met_taking spans (span 11 2) ≡ lacking
  -- what is left of the record has a block of another one
  pub left_over : met_taking (span 4 8 ∷ span 10 4 ∷ []) (span 4 2) ≡ overlapping
  -- only the last that begins there or before is asked
  pub hidden : met_taking (span 4 8 ∷ span 6 2 ∷ []) (span 9 1) ≡ lacking
  pub behind : met_taking overlaid (span 50 2) ≡ hiding
  pub given_behind : met_giving overlaid (span 30 1) ≡ hiding
  pub taken_before : met_taking (span 9 3 ∷ span 10 10 ∷ []) (span 18 2) ≡ overlapping
  pub counted_behind : met_counting 50 2 3 (counted 10 100 2 ∷ counted 12 1 2 ∷ counted 50 4 3 ∷ []) ≡ hiding
  pub listed : met_taking_count spans (span 20 3) (span 10 2 ∷ span 4 4 ∷ span 20 8 ∷ []) ≡ nothing
  pub unlisted : met_taking_count spans (span 20 3) (span 10 2 ∷ span 4 4 ∷ []) ≡ lacking
  pub twice_free : met_giving spans (span 8 3) ≡ overlapping
  pub neighbour : met_giving_count spans (span 8 2) (span 4 4 ∷ span 20 8 ∷ []) ≡ lacking
  pub lost : met_losing (run 5 1 group_own 0) runs ≡ nothing
  pub not_owned : met_losing (run 20 1 group_own 0) runs ≡ lacking
  pub gained : met_gaining (run 8 8 group_own 0) runs ≡ nothing
  pub same_key : met_gaining (run 4 1 group_own 0) runs ≡ meeting
  -- what is left behind a run has the key of a record that the run joins, which goes; one that stays has it too
  pub turned : met_turning (run 12 3 133 (2 ^ 61 + 2)) (run 12 3 133 2) (run 10 10 133 (2 ^ 61) ∷ run 15 2 133 5 ∷ []) ≡ nothing
  pub not_turned : met_turning (run 12 3 133 (2 ^ 61 + 2)) (run 12 3 133 2) (run 10 10 133 (2 ^ 61) ∷ run 15 2 133 (2 ^ 61 + 5) ∷ []) ≡ meeting
  pub nothing_to_turn : met_turning (run 12 3 133 (2 ^ 61 + 2)) (run 12 3 133 2) [] ≡ lacking
  pub risen : met_counting 6 2 3 counts ≡ nothing
  pub beyond : met_counting 6 4 5 counts ≡ overlapping
  -- no record has a greater count than 2 ^ 32 - 1
  pub greatest : met_counting 40 1 (2 ^ 32 - 1) (counted 30 20 (2 ^ 32 - 2) ∷ []) ≡ nothing
  pub too_great : met_counting 40 1 (2 ^ 32) (counted 30 20 (2 ^ 32 - 1) ∷ []) ≡ lacking
  pub freed : met_following 130 (chunk 64 2 3 ∷ chunk 128 0 0 ∷ []) (chunk 64 2 3 ∷ []) ≡ nothing
  pub not_listed : met_following 65 (chunk 64 2 3 ∷ []) [] ≡ lacking
  pub listed_full : met_following 130 (chunk 128 0 0 ∷ []) (chunk 128 1 1 ∷ []) ≡ meeting

pub record Worked : Type 0 where
  pub space : WorkedSpans
  pub mappings : WorkedMappings
  pub counts : WorkedCounts
  pub inodes : WorkedInodes
  pub forks : WorkedForks
  pub trees : WorkedTrees
  pub faults : WorkedFaults
