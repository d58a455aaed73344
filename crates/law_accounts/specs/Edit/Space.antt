-- Free space that is what reverse mappings leave, in both orders, where a run leaves it or joins it.
use Rattle.std.specs.Prelude.{ℕ, ◌≡◌, ◌+◌, ◌<◌, ◌≤◌, true, List, is_some}
use Rattle.law_accounts.specs.Account.Accounts.{at_span, covers_at, in_span}
use Rattle.derive_defs.specs.ByCount.{greatest, ordered_by_count}
use Rattle.derive_defs.specs.Free.{free_space}
use Rattle.fs_change.specs.Changes.{by_count, last_count}
use Rattle.fs_change.specs.Records.{by_start, give_span, holder_of, take_span}
use Rattle.rmap_recs.specs.declared.records.RmapRec.{RmapRec}
use Rattle.span_recs.specs.declared.span.SpanRec.{SpanRec}

-- the second mappings cover each block of the run once more than the first, and all others alike
abbrev pub CoverMore : SpanRec → List RmapRec → List RmapRec → Type 0
CoverMore run ms ns = (b : ℕ) → covers_at ns b ≡ covers_at ms b + at_span run.start run.count b

-- a run leaves the free space that mappings leave: then it is that which the others leave, which cover it
abbrev pub FreeTaken : Type 0
FreeTaken = (len : ℕ) (ms ns : List RmapRec) (run : SpanRec) → 0 < run.count → CoverMore run ms ns → is_some (holder_of (free_space len ms) run) ≡ true
    → take_span by_start (free_space len ms) run (free_space len ms) ≡ free_space len ns

-- no mapping covers a block of the run
abbrev pub AreBare : SpanRec → List RmapRec → Type 0
AreBare run ms = (b : ℕ) → in_span run.start run.count b ≡ true → covers_at ms b ≡ 0

-- a run of blocks that no mapping covers any more joins it
abbrev pub FreeGiven : Type 0
FreeGiven = (len : ℕ) (ms ns : List RmapRec) (run : SpanRec) → 0 < run.count → run.start + run.count ≤ len → CoverMore run ns ms → AreBare run ns
    → give_span by_start (free_space len ms) run (free_space len ms) ≡ free_space len ns

-- mappings that cover the same blocks as often leave the same free space
abbrev pub SameFree : Type 0
SameFree = (len : ℕ) (ms ns : List RmapRec) → ((b : ℕ) → covers_at ns b ≡ covers_at ms b) → free_space len ns ≡ free_space len ms

-- ---- the order by count follows that by start

abbrev pub CountTaken : Type 0
CountTaken = (len : ℕ) (ms : List RmapRec) (run : SpanRec)
    → take_span by_count (free_space len ms) run (ordered_by_count (free_space len ms)) ≡ ordered_by_count (take_span by_start (free_space len ms) run (free_space len ms))

abbrev pub CountGiven : Type 0
CountGiven = (len : ℕ) (ms : List RmapRec) (run : SpanRec)
    → give_span by_count (free_space len ms) run (ordered_by_count (free_space len ms)) ≡ ordered_by_count (give_span by_start (free_space len ms) run (free_space len ms))

-- its last record is the longest run
abbrev pub LastIsLongest : Type 0
LastIsLongest = (rs : List SpanRec) → last_count (ordered_by_count rs) ≡ greatest (ordered_by_count rs)
