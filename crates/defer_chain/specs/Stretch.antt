-- The stretch of equal counts that a step takes ("Reference Count B+tree").
use Rattle.std.specs.Prelude.{◌≡◌, ◌≤◌, ◌<◌, ℕ, ◌+◌, ◌-◌, ◌^◌, ◌⊎◌, nat_le, nat_lt, min, List, [], ◌∷◌, Option, Some, None, if◌then◌else◌}
use Rattle.std.specs.Option.{option_or, option_map_or}
use Rattle.span_recs.specs.declared.refcount.RefcRec.{RefcRec}

abbrev pub refc_end : RefcRec → ℕ
refc_end r = r.start + r.count

-- the record has the block, and an end
pub record Reaches (r : RefcRec) (b : ℕ) : Type 0 where
  pub starts : r.start ≤ b
  pub ends : b < r.start + r.count
  pub fits : r.start + r.count < 2 ^ 32

-- the last of the records that begins at the block or before it
abbrev pub last_at : ℕ → List RefcRec → Option RefcRec
last_at b [] = None
last_at b (r ∷ rs) = option_or (last_at b rs) (if nat_le r.start b then Some r else None)

abbrev pub reaching : ℕ → Option RefcRec → Option RefcRec
reaching b None = None
reaching b (Some r) = if nat_lt b (refc_end r) then Some r else None

-- which record counts the block
abbrev pub counter_of : List RefcRec → ℕ → Option RefcRec
counter_of rs b = reaching b (last_at b rs)

-- the blocks that are left of a run up to the end of the record over its first one, and up to the next record
abbrev pub up_to_end : ℕ → ℕ → Option RefcRec → ℕ
up_to_end b n None = n
up_to_end b n (Some r) = min n (refc_end r - b)

abbrev pub up_to_next : ℕ → ℕ → Option ℕ → ℕ
up_to_next b n None = n
up_to_next b n (Some s) = min n (s - b)

-- How many blocks have the count of the first one? Those up to the end of its record and up to the next.
abbrev pub stretch_count : ℕ → ℕ → Option RefcRec → Option ℕ → ℕ
stretch_count b n over next = up_to_next b (up_to_end b n over) next

abbrev pub owners_of : Option RefcRec → ℕ
owners_of over = option_map_or (λ r. r.refcount) over 1

-- no record begins between the block and this one's start
abbrev pub IsAhead : ℕ → Option ℕ → List RefcRec → Type 0
IsAhead b next [] = Unit {0}
IsAhead b None (r ∷ rs) = (r.start ≤ b) × IsAhead b None rs
IsAhead b (Some s) (r ∷ rs) = ((r.start ≤ b) ⊎ (s ≤ r.start)) × IsAhead b (Some s) rs

abbrev pub StretchLaw : Type 0
StretchLaw = (rs : List RefcRec) (b n : ℕ) (next : Option ℕ) → IsAhead b next rs → (x : ℕ) → b ≤ x → x < b + stretch_count b n (counter_of rs b) next → counter_of rs x ≡ counter_of rs b
