-- Who owns which block, tuple by tuple, and the maximal runs of that.
use Rattle.std.specs.Prelude.{◌≡◌, ℕ, zero, suc, ◌+◌, ◌-◌, ◌^◌, ◌<◌, ◌==◌, Bool, true, false, not, ◌&&◌, List, map, filter, find, Contains, All, if◌then◌else◌}
use Rattle.std.specs.List.{list_any}
use Rattle.std.specs.Option.{option_map_or}
use Rattle.sblock.specs.Lists.{Rises}
use Rattle.rmap_recs.specs.Rmap.{key_of, is_key_before}
use Rattle.rmap_recs.specs.Words.{is_fork_data, word_goes_on}
use Rattle.rmap_recs.specs.declared.records.RmapRec.{RmapRec}
use Rattle.rmap_recs.specs.declared.records.Key.{Key}
use Rattle.rmap_recs.specs.declared.tuples.Tuple.{Tuple}

-- what a tuple is ordered by
abbrev pub tuple_key : Tuple → Key
tuple_key t = record { start = t.block; owner = t.owner; word = t.word }

abbrev pub is_tuple_before : Tuple → Tuple → Bool
is_tuple_before t u = is_key_before (tuple_key t) (tuple_key u)

-- in rising order of their keys, so that none comes twice
abbrev pub AreTuples : List Tuple → Type 0
AreTuples ts = Rises is_tuple_before ts

-- a block behind each of them has a number too
abbrev pub HaveNext : List Tuple → Type 0
HaveNext ts = All (λ t. t.block < 2 ^ 32 - 1) ts

-- the second tuple goes on where the first one ends: at the block behind, with equal owner and
-- flags, and for fork data at the offset behind
unfoldable pub goes_on : Tuple → Tuple → Bool
goes_on t u = (u.block == t.block + 1) && (u.owner == t.owner) && word_goes_on t.owner t.word 1 u.word

-- ---- the runs of a record

-- the tuple of block i of a record
abbrev pub tuple_at : RmapRec → ℕ → Tuple
tuple_at r i = record { block = r.start + i; owner = r.owner; word = if is_fork_data r.owner r.word then r.word + i else r.word }

-- The record stands for tuples of these that go on one from the other, and no other of these
-- goes on to its first or from its last.
pub record IsRun (ts : List Tuple) (r : RmapRec) : Type 0 where
  pub some : 0 < r.count
  pub within : (i : ℕ) → i < r.count → Contains ts (tuple_at r i)
  pub consecutive : (i : ℕ) → i + 1 < r.count → goes_on (tuple_at r i) (tuple_at r (i + 1)) ≡ true
  pub first : (t : Tuple) → Contains ts t → goes_on t (tuple_at r 0) ≡ false
  pub last : (t : Tuple) → Contains ts t → goes_on (tuple_at r (r.count - 1)) t ≡ false

-- The records are the maximal runs of these tuples: each is one, each tuple lies in one, and they
-- rise in the order of reverse mappings.
pub record AreRuns (ts : List Tuple) (recs : List RmapRec) : Type 0 where
  pub maximal : (r : RmapRec) → Contains recs r → IsRun ts r
  pub all : (t : Tuple) → Contains ts t → (r : RmapRec) × (i : ℕ) × Contains recs r × (i < r.count) × (tuple_at r i ≡ t)
  pub rising : Rises (λ r s. is_key_before (key_of r) (key_of s)) recs

-- only one list is that
abbrev pub OneList : Type 0
OneList = (ts : List Tuple) (recs others : List RmapRec) → AreRuns ts recs → AreRuns ts others → recs ≡ others

-- ---- the same as a function of the tuples

-- how many tuples follow on this one, one on the other, at most n
unfoldable pub followers : ℕ → List Tuple → Tuple → ℕ
followers zero ts t = 0
followers (suc n) ts t = option_map_or (λ u. 1 + followers n ts u) (find (goes_on t) ts) 0

-- a tuple with its followers
abbrev pub run_from : List Tuple → Tuple → RmapRec
run_from ts t = record { start = t.block; count = 1 + followers (2 ^ 32 - t.block) ts t; owner = t.owner; word = t.word }

-- none of these goes on to the tuple
abbrev pub begins_run : List Tuple → Tuple → Bool
begins_run ts t = not (list_any (λ u. goes_on u t) ts)

-- each tuple that nothing goes on to, with its followers
unfoldable pub runs_of : List Tuple → List RmapRec
runs_of ts = map (run_from ts) (filter (begins_run ts) ts)

-- ---- tests

-- the same tuple
abbrev pub is_same : Tuple → Tuple → Bool
is_same t u = (t.block == u.block) && (t.owner == u.owner) && (t.word == u.word)

-- it is one of them
abbrev pub has : List Tuple → Tuple → Bool
has ts t = list_any (is_same t) ts
