-- What edits of an index meet: a record that one would take out or change isn't there, or one that stays meets one that it
-- puts in. Two records of free space by start, or of reference counts, meet where they have a block in common; of the
-- other btrees where their keys are equal.
use Rattle.std.specs.Prelude.{ℕ, ◌+◌, ◌==◌, ◌&&◌, ◌||◌, nat_lt, Bool, false, not, List, [], ◌∷◌, ◌++◌, filter, find, Option, Some, None, is_some, option_to_list, if◌then◌else◌}
use Rattle.std.specs.List.{list_any, list_all}
use Rattle.std.specs.Option.{option_map_or}
use Rattle.ino_recs.specs.declared.chunk.InoRec.{InoRec}
use Rattle.rmap_recs.specs.Rmap.{can_join}
use Rattle.rmap_recs.specs.declared.records.RmapRec.{RmapRec}
use Rattle.run_edits.specs.Edits.{is_before, grown, holds, front_of, back_of}
use Rattle.span_recs.specs.declared.refcount.RefcRec.{RefcRec}
use Rattle.span_recs.specs.declared.span.SpanRec.{SpanRec}
use Rattle.fs_state.specs.State.{Owned}
use Rattle.fs_state.specs.declared.intent.Intent.{Intent}
use Rattle.fs_state.specs.declared.intent.IntentKind.{IntentKind}
use Rattle.fs_state.specs.declared.intent.IntentKind.TheVariants.{RmapAdd, RmapRemove, RmapChange, RefMore, RefLess, Free}
use Rattle.fs_state.specs.Lists.{only_if}
use Rattle.fs_change.specs.Chains.{run_of, word_taken}
use Rattle.fs_change.specs.Records.{without_first, last_at, end_of, is_same_span, has_span, holder_of, rest_of, beside_run, joined_run, take_mapping, give_mapping, greatest_count, refc_end, counter_of, is_same_count, count_rest, cut_counts, count_before, count_behind, joined_counts, has_inode}

-- What one edit meets, or several. Where records are sought by their first blocks, one that meets another may hide behind
-- records that begin later: a search may pass it over. `far` says of these two btrees whether any record meets.
pub record Met : Type 0 where
  pub lacks : Bool
  pub meets : Bool
  pub far : Bool

abbrev pub nothing : Met
nothing = record { lacks = false; meets = false; far = false }

abbrev pub and_then : Met → Met → Met
and_then m n = record { lacks = m.lacks || n.lacks; meets = m.meets || n.meets; far = m.far || n.far }

-- what every search finds
abbrev pub is_fault : Met → Bool
is_fault m = m.lacks || m.meets

-- a record that isn't one of those that go meets one of those that come
abbrev pub any_meets : {R : Type 0} → (R → R → Bool) → (R → R → Bool) → List R → List R → List R → Bool
any_meets same meets out new recs = list_any (λ r. not (list_any (same r) out) && list_any (meets r) new) recs

-- a search looks at the last record that begins at the first block of s or before it, and at those that begin in s
abbrev pub is_met_near : {R : Type 0} → (R → ℕ) → (R → R → Bool) → List R → R → Bool
is_met_near start meets recs s = option_map_or (λ r. meets r s) (last_at start (start s) recs) false || list_any (λ r. nat_lt (start s) (start r) && meets r s) recs

abbrev pub any_near : {R : Type 0} → (R → ℕ) → (R → R → Bool) → (R → R → Bool) → List R → List R → List R → Bool
any_near start same meets out new recs = list_any (is_met_near start meets (filter (λ r. not (list_any (same r) out)) recs)) new

-- records that go and records that come, where they are sought so
abbrev pub met_by_start : {R : Type 0} → (R → ℕ) → (R → R → Bool) → (R → R → Bool) → Bool → List R → List R → List R → Met
met_by_start start same meets lacks out new recs = record { lacks = lacks; meets = any_near start same meets out new recs; far = any_meets same meets out new recs }

-- ---- free space

abbrev pub do_overlap : SpanRec → SpanRec → Bool
do_overlap r s = nat_lt r.start (end_of s) && nat_lt s.start (end_of r)

abbrev pub rests : List SpanRec → SpanRec → List SpanRec
rests rs run = option_map_or (rest_of run) (holder_of rs run) []

abbrev pub met_spans : Bool → List SpanRec → List SpanRec → List SpanRec → Met
met_spans lacks out new rs = met_by_start (λ r. r.start) is_same_span do_overlap lacks out new rs

abbrev pub met_spans_count : Bool → List SpanRec → List SpanRec → List SpanRec → Met
met_spans_count lacks out new recs = record { lacks = lacks; meets = any_meets is_same_span is_same_span out new recs; far = false }

-- a run that leaves the records by start, or those by count, and one that joins them
abbrev pub met_taking : List SpanRec → SpanRec → Met
met_taking rs run = met_spans (not (is_some (holder_of rs run))) (option_to_list (holder_of rs run)) (rests rs run) rs

abbrev pub met_taking_count : List SpanRec → SpanRec → List SpanRec → Met
met_taking_count rs run recs = met_spans_count (not (option_map_or (has_span recs) (holder_of rs run) false)) (option_to_list (holder_of rs run)) (rests rs run) recs

abbrev pub met_giving : List SpanRec → SpanRec → Met
met_giving rs run = met_spans false (beside_run rs run) (joined_run rs run ∷ []) rs

abbrev pub met_giving_count : List SpanRec → SpanRec → List SpanRec → Met
met_giving_count rs run recs = met_spans_count (not (list_all (has_span recs) (beside_run rs run))) (beside_run rs run) (joined_run rs run ∷ []) recs

-- ---- reverse mappings

abbrev pub is_same_key : RmapRec → RmapRec → Bool
is_same_key r s = not (is_before r s || is_before s r)

-- what is left of the record that holds the run
abbrev pub left_of : Option RmapRec → RmapRec → List RmapRec
left_of None r = []
left_of (Some p) r = only_if (nat_lt p.start r.start) (front_of p r) ++ only_if (nat_lt (r.start + r.count) (p.start + p.count)) (back_of p r)

-- a run that loses its owner, and one that gets one
abbrev pub met_losing : RmapRec → List RmapRec → Met
met_losing r rs = record { lacks = not (is_some (find (λ p. holds p r) rs)); meets = list_any (λ s. list_any (is_same_key s) (left_of (find (λ p. holds p r) rs) r)) (without_first (λ p. holds p r) rs); far = false }

abbrev pub met_gaining : RmapRec → List RmapRec → Met
met_gaining r rs = record { lacks = false; meets = list_any (is_same_key (grown r rs)) (without_first (λ p. can_join p r) (without_first (can_join r) rs)); far = false }

-- One owner in place of another is one edit: the record that holds the run goes, with those that the run then joins, and
-- what is left of it and the joined run come. Nothing that is left joins the run: its owner or its flag differs.
abbrev pub met_turning : RmapRec → RmapRec → List RmapRec → Met
met_turning old new rs =
    let holder = find (λ p. holds p old) rs in
    let others = without_first (λ p. holds p old) rs in
    record {
      lacks = not (is_some holder);
      meets = list_any (λ s. list_any (is_same_key s) (grown new others ∷ left_of holder old)) (without_first (λ p. can_join p new) (without_first (can_join new) others));
      far = false;
    }

abbrev pub met_mapping : IntentKind → Intent → List RmapRec → Met
met_mapping RmapAdd i rs = met_gaining (run_of i i.word) rs
met_mapping RmapRemove i rs = met_losing (run_of i i.word) rs
met_mapping RmapChange i rs = met_turning (run_of i (word_taken i)) (run_of i i.word) rs
met_mapping RefMore i rs = nothing
met_mapping RefLess i rs = nothing
met_mapping Free i rs = nothing

-- blocks that change their owner, one after the other, the last of the list first: all lose the old one before any gets
-- the new one
abbrev pub one_block : Owned → RmapRec
one_block o = record { start = o.block; count = 1; owner = o.owner; word = 0 }

abbrev pub take_each : List Owned → List RmapRec → List RmapRec
take_each [] recs = recs
take_each (o ∷ os) recs = take_mapping (one_block o) (take_each os recs)

abbrev pub give_each : List Owned → List RmapRec → List RmapRec
give_each [] recs = recs
give_each (o ∷ os) recs = give_mapping (one_block o) (give_each os recs)

abbrev pub met_losing_each : List Owned → List RmapRec → Met
met_losing_each [] recs = nothing
met_losing_each (o ∷ os) recs = and_then (met_losing_each os recs) (met_losing (one_block o) (take_each os recs))

abbrev pub met_gaining_each : List Owned → List RmapRec → Met
met_gaining_each [] recs = nothing
met_gaining_each (o ∷ os) recs = and_then (met_gaining_each os recs) (met_gaining (one_block o) (give_each os recs))

abbrev pub met_moving : List Owned → List Owned → List RmapRec → Met
met_moving old new recs = and_then (met_losing_each old recs) (met_gaining_each new (take_each old recs))

-- ---- reference counts

abbrev pub do_count_overlap : RefcRec → RefcRec → Bool
do_count_overlap r s = nat_lt r.start (refc_end s) && nat_lt s.start (refc_end r)

abbrev pub met_counts : List RefcRec → List RefcRec → List RefcRec → Met
met_counts out new rs = met_by_start (λ r. r.start) is_same_count do_count_overlap false out new rs

abbrev pub met_cutting : List RefcRec → ℕ → ℕ → Met
met_cutting rs b n = met_counts (option_to_list (counter_of rs b)) (option_map_or (count_rest b n) (counter_of rs b) []) rs

abbrev pub met_joining : List RefcRec → ℕ → ℕ → ℕ → Met
met_joining rs b n v = met_counts (option_to_list (count_before rs b v) ++ option_to_list (count_behind rs (b + n) v)) (joined_counts rs b n v ∷ []) rs

-- a count that is greater than any record has lacks its record
abbrev pub met_rising : ℕ → Met
met_rising v = record { lacks = nat_lt greatest_count v; meets = false; far = false }

-- a stretch that gets a new count
abbrev pub met_counting : ℕ → ℕ → ℕ → List RefcRec → Met
met_counting b n v rs = and_then (met_rising v) (and_then (met_cutting rs b n) (if nat_lt v 2 then nothing else met_joining (cut_counts rs b n) b n v))

-- ---- inodes

-- an inode of this number in its group that becomes free: its chunk's record, and that in the free inode btree, where the
-- chunk had a free inode before
abbrev pub met_freeing : ℕ → List InoRec → Met
met_freeing i rs = record { lacks = not (list_any (has_inode i) rs); meets = false; far = false }

abbrev pub had_free : ℕ → List InoRec → Bool
had_free i rs = list_any (λ r. has_inode i r && nat_lt 0 r.freecount) rs

abbrev pub met_following : ℕ → List InoRec → List InoRec → Met
met_following i rs finos = record { lacks = had_free i rs && not (list_any (has_inode i) finos); meets = not (had_free i rs) && list_any (has_inode i) finos; far = false }

-- a new chunk's record
abbrev pub met_listing : InoRec → List InoRec → Met
met_listing r rs = record { lacks = false; meets = list_any (λ s. s.startino == r.startino) rs; far = false }
