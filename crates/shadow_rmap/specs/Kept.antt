-- What a shadow keeps: a set of tuples of one group, shown as its maximal runs in order.
use Rattle.std.specs.Prelude.{◌≡◌, ℕ, Bool, true, false, List, Option, Some, None, find, MatchOption}
use Rattle.rmap_recs.specs.Rmap.{key_of, is_key_before}
use Rattle.rmap_recs.specs.Runs.{AreRuns, IsRun}
use Rattle.rmap_recs.specs.declared.records.Key.{Key}
use Rattle.rmap_recs.specs.declared.records.RmapRec.{RmapRec}
use Rattle.rmap_recs.specs.declared.tuples.Tuple.{Tuple}

-- beside it stands for how many changes there is room
pub record ShadowState : Type 0 where
  pub group : ℕ
  pub runs : List RmapRec
  pub room : ℕ

-- these tuples are kept, and no others
abbrev pub KeepsTuples : List Tuple → ShadowState → Type 0
KeepsTuples ts s = AreRuns ts s.runs

-- the record comes behind the key; each does where there is no key
abbrev pub is_behind : Option Key → RmapRec → Bool
is_behind None r = true
is_behind (Some key) r = is_key_before key (key_of r)

-- the first of the records that does
abbrev pub first_behind : Option Key → List RmapRec → Option RmapRec
first_behind after recs = find (is_behind after) recs

-- of the maximal runs of these tuples behind the key, it is the one that comes first
pub record IsFirstRun (ts : List Tuple) (after : Option Key) (r : RmapRec) : Type 0 where
  pub run : IsRun ts r
  pub behind : is_behind after r ≡ true
  pub first : (s : RmapRec) → IsRun ts s → is_behind after s ≡ true → is_key_before (key_of s) (key_of r) ≡ false

-- and where there is no answer, there is none
abbrev pub NextRun : List Tuple → Option Key → Option RmapRec → Type 0
NextRun ts after result = MatchOption result ((s : RmapRec) → IsRun ts s → is_behind after s ≡ false) (λ r. IsFirstRun ts after r)
