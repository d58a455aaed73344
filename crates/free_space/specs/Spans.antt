-- Records of free space and runs of their blocks ("AG Free Space B+trees").
use Rattle.std.specs.Prelude.{◌≡◌, ℕ, ◌+◌, ◌-◌, ◌%◌, ◌≤◌, min, nat_lt, Option, Some, None, if◌then◌else◌}
use Rattle.std.specs.Option.{option_map_or}
use Rattle.span_recs.specs.declared.span.SpanRec.{SpanRec}

abbrev pub end_of : SpanRec → ℕ
end_of r = r.start + r.count

-- the first blocks of a record, as many as are wanted
abbrev pub front_of : SpanRec → ℕ → SpanRec
front_of r wanted = record { start = r.start; count = min r.count wanted }

-- all blocks of the run are the record's
pub record IsInside (run r : SpanRec) : Type 0 where
  pub starts : r.start ≤ run.start
  pub ends : run.start + run.count ≤ r.start + r.count

-- what of the record lies before the run, and behind it
abbrev pub before_in : SpanRec → SpanRec → Option SpanRec
before_in r run = if nat_lt r.start run.start then Some (record { start = r.start; count = run.start - r.start }) else None

abbrev pub behind_in : SpanRec → SpanRec → Option SpanRec
behind_in r run = if nat_lt (end_of run) (end_of r) then Some (record { start = end_of run; count = end_of r - end_of run }) else None

-- the record before the run ends where it begins, and the one behind it begins where it ends
abbrev pub does_meet : Option SpanRec → SpanRec → Option SpanRec → Type 0
does_meet before run behind =
    (option_map_or end_of before run.start ≡ run.start) × (option_map_or (λ r. r.start) behind (end_of run) ≡ end_of run)

-- where a run begins together with a record before it, and how many blocks a record has that may be none
abbrev pub start_in : Option SpanRec → SpanRec → ℕ
start_in before run = option_map_or (λ r. r.start) before run.start

abbrev pub count_in : Option SpanRec → ℕ
count_in o = option_map_or (λ r. r.count) o 0

-- a chunk of inodes fits at the block: a multiple of 8, and 8 blocks of the record
pub record IsAlignedIn (r : SpanRec) (b : ℕ) : Type 0 where
  pub aligned : b % 8 ≡ 0
  pub starts : r.start ≤ b
  pub ends : b + 8 ≤ r.start + r.count
