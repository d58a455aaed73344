-- Limbo: a set of blocks with owners, kept as runs ("Reaping After Repairing Ondisk Metadata").
use Rattle.std.specs.Prelude.{◌≡◌, ◌≤◌, ◌<◌, ◌⊎◌, ℕ, ◌+◌, ◌-◌, ◌^◌, ◌==◌, ◌&&◌, ◌||◌, nat_lt, nat_le, min, max, Bool, true, false, not, List, [], ◌∷◌, Option, Some, None, if◌then◌else◌}
use Rattle.std.specs.List.{list_any}
use Rattle.fs_model.specs.declared.unit.Unit.{Unit as ScrubUnit}
use Rattle.fs_model.specs.declared.unit.Unit.TheVariants as units
use Rattle.rmap_recs.specs.declared.owner.Owner.{Owner}
use Rattle.rmap_recs.specs.declared.owner.Owner.TheVariants.{Ag, Inobt, Refc}
use Rattle.block_reap.specs.declared.runs.LimboRun.{LimboRun}

abbrev pub owner_of_unit : ScrubUnit → Owner
owner_of_unit units.Inode = Inobt
owner_of_unit units.Rmap = Ag
owner_of_unit units.Free = Ag
owner_of_unit units.Refc = Refc

abbrev pub end_of : LimboRun → ℕ
end_of r = r.start + r.count

-- the run has this block with this owner
abbrev pub covers : LimboRun → ℕ → ℕ → Bool
covers r b o = (r.owner == o) && (nat_le r.start b && nat_lt b (end_of r))

-- Is the block in limbo with this owner?
abbrev pub has : List LimboRun → ℕ → ℕ → Bool
has runs b o = list_any (λ r. covers r b o) runs

-- some blocks, with a number behind them
pub record HasRun (r : LimboRun) : Type 0 where
  pub some : 0 < r.count
  pub end : r.start + r.count < 2 ^ 32

abbrev pub AllHaveRuns : List LimboRun → Type 0
AllHaveRuns [] = Unit {0}
AllHaveRuns (r ∷ rs) = HasRun r × AllHaveRuns rs

-- by start, and those of one start by owner
abbrev pub comes_first : ℕ → ℕ → ℕ → ℕ → Bool
comes_first b o c p = nat_lt b c || ((b == c) && nat_lt o p)

abbrev pub before : LimboRun → LimboRun → Bool
before r s = comes_first r.start r.owner s.start s.owner

-- runs of one owner that have a block in common, or of which one ends where the other begins
abbrev pub touches : LimboRun → LimboRun → Bool
touches r s = (r.owner == s.owner) && (nat_le r.start (end_of s) && nat_le s.start (end_of r))

pub record Follows (r s : LimboRun) : Type 0 where
  pub later : before r s ≡ true
  pub apart : touches r s ≡ false

abbrev pub AllFollow : LimboRun → List LimboRun → Type 0
AllFollow r [] = Unit {0}
AllFollow r (s ∷ ss) = Follows r s × AllFollow r ss

-- the runs rise, and two of one owner have a gap: they are the maximal runs of the set
abbrev pub IsLimbo : List LimboRun → Type 0
IsLimbo [] = Unit {0}
IsLimbo (r ∷ rs) = HasRun r × AllFollow r rs × IsLimbo rs

-- ---- the next run

abbrev pub next_of : List LimboRun → Option LimboRun
next_of [] = None
next_of (r ∷ rs) = Some (record r { count = min r.count 64 })

-- the run is in limbo, no pair of a block and an owner comes before its first one, and it ends where no block
-- follows, or after 64
pub record IsNext (runs : List LimboRun) (r : LimboRun) : Type 0 where
  pub some : 0 < r.count
  pub few : r.count ≤ 64
  pub there : (b o : ℕ) → covers r b o ≡ true → has runs b o ≡ true
  pub lowest : (b o : ℕ) → has runs b o ≡ true → comes_first b o r.start r.owner ≡ false
  pub whole : (r.count ≡ 64) ⊎ (has runs (r.start + r.count) r.owner ≡ false)

-- ---- how the list is edited

-- two runs as one
abbrev pub union : LimboRun → LimboRun → LimboRun
union r s = record r { start = min r.start s.start; count = max (end_of r) (end_of s) - min r.start s.start }

-- a run so far, with those of the list that touch the first
abbrev pub hull_of : LimboRun → LimboRun → List LimboRun → LimboRun
hull_of run whole [] = whole
hull_of run whole (r ∷ rs) = hull_of run (if touches run r then union whole r else whole) rs

abbrev pub is_beside : LimboRun → LimboRun → Bool
is_beside run r = not (touches run r)

abbrev pub place_in : LimboRun → List LimboRun → ℕ
place_in m [] = 0
place_in m (r ∷ rs) = if before r m then 1 + place_in m rs else 0

unfoldable pub put_run : LimboRun → List LimboRun → List LimboRun
put_run m [] = m ∷ []
put_run m (r ∷ rs) = if before r m then r ∷ put_run m rs else m ∷ r ∷ rs
