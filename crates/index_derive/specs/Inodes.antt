-- Records of chunks, from the cores of the units that are listed.
use Rattle.std.specs.Prelude.{◌≡◌, ℕ, ◌*◌, ◌/◌, ◌^◌, ◌<◌, ◌==◌, Bool, false, List, [], ◌∷◌, All, length, map, filter, sum_by, slice_index_or, ◌++◌, zero, suc, Option, Some, None, count_ones, if◌then◌else◌}
use Rattle.std.specs.List.{list_all}
use Rattle.std.specs.Option.{is_some}
use Rattle.geom.specs.Layout.{group_len_of}
use Rattle.ino_recs.specs.declared.chunk.InoRec.{InoRec}
use Rattle.fs_state.specs.Apart.{is_listed, unit_verifies}
use Rattle.fs_state.specs.State.{State, CoreState, Broken, Whole}
use Rattle.fs_state.specs.Chunks.{inode_in}
use Rattle.fs_state.specs.Derive.{over_free}
use Rattle.fs_state.specs.Lists.{numbers}
use Rattle.index_derive.specs.declared.inodes.UnitCores.{UnitCores}

-- ---- the free inodes of a unit

-- a core that verifies, of a free inode
abbrev pub is_zero : Option ℕ → Bool
is_zero None = false
is_zero (Some mode) = mode == 0

-- the inode with this number in its unit is free
abbrev pub is_free_at : List (Option ℕ) → ℕ → Bool
is_free_at [] i = false
is_free_at (m ∷ ms) zero = is_zero m
is_free_at (m ∷ ms) (suc i) = is_free_at ms i

-- a bit for each of the first n inodes that is free
unfoldable pub free_bits : ℕ → List (Option ℕ) → ℕ
free_bits n modes = sum_by (λ i. if is_free_at modes i then 2 ^ i else 0) (numbers 0 n)

-- Which of the unit's inodes are free? None where a core doesn't verify.
unfoldable pub mask_of : List (Option ℕ) → Option ℕ
mask_of modes = if list_all is_some modes then Some (free_bits 64 modes) else None

-- what a core says of its inode's mode
abbrev pub mode_of : Option CoreState → Option ℕ
mode_of None = None
mode_of (Some (Broken fault)) = None
mode_of (Some (Whole inode)) = Some inode.mode

-- the modes are those that the cores of this unit say
pub record AreModes (a : State) (g u : ℕ) (modes : List (Option ℕ)) : Type 0 where
  pub whole : length modes ≡ 64
  pub each : (i : ℕ) (d : Option ℕ) → i < 64 → slice_index_or modes i d ≡ mode_of (a.core (inode_in a g u i))

-- the mask of a unit of the state
abbrev pub mask_in : State → ℕ → ℕ → Option ℕ
mask_in a g u = if unit_verifies a.geometry a.core g u then Some (over_free a g u (λ i. 2 ^ i)) else None

-- ---- records

abbrev pub record_of : ℕ → ℕ → InoRec
record_of u free = record { startino = 64 * u; holemask = 0; count = 64; freecount = count_ones free; free = free }

-- the record of a unit, where it is a chunk
abbrev pub records_from : ℕ → Option ℕ → List InoRec
records_from u None = []
records_from u (Some free) = record_of u free ∷ []

unfoldable pub records_of : List UnitCores → List InoRec
records_of [] = []
records_of (c ∷ cs) = records_from c.unit c.free ++ records_of cs

-- these are the units of the group that one of the two trees lists, each with the mask of its cores
pub record AreUnits (a : State) (g : ℕ) (units : List UnitCores) : Type 0 where
  pub listed : map (λ c. c.unit) units ≡ filter (is_listed a g) (numbers 0 (group_len_of a.geometry g / 8))
  pub masks : All (λ c. c.free ≡ mask_in a g c.unit) units
