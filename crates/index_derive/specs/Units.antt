-- Which units of 64 inodes two btrees list.
use Rattle.std.specs.Prelude.{◌≡◌, ℕ, ◌+◌, ◌-◌, ◌*◌, ◌/◌, ◌%◌, ◌<◌, ◌++◌, ◌==◌, min, nat_le, nat_lt, Bool, ◌&&◌, ◌||◌, List, map, filter}
use Rattle.std.specs.List.{list_any}
use Rattle.byte_fields.specs.Below.{all_below}
use Rattle.geom.specs.Layout.{group_len_of}
use Rattle.ino_recs.specs.declared.chunk.InoRec.{InoRec}
use Rattle.rmap_recs.specs.declared.records.RmapRec.{RmapRec}
use Rattle.run_sets.specs.declared.run.Run.{Run}
use Rattle.sblock.specs.declared.kind.Kind.TheVariants.{Rmap, Ino}
use Rattle.run_sets.specs.Runs.{runs_below}
use Rattle.fs_state.specs.Apart.{is_listed}
use Rattle.fs_state.specs.State.{State, recs_of}

-- a record of the inode btree lists the unit, or each of its blocks lies in a reverse mapping of chunks
unfoldable pub is_listed_by : List InoRec → List RmapRec → ℕ → Bool
is_listed_by ino mappings u =
    list_any (λ r. r.startino == 64 * u) ino
    || all_below 8 (λ j. list_any (λ r. (r.owner == 0xffff_ffff_ffff_fff9) && nat_le r.start (8 * u + j) && nat_lt (8 * u + j) (r.start + r.count)) mappings)

-- the length of a group, and the records of its two btrees; one that can't be read has none
pub record AreListings (a : State) (g length : ℕ) (ino : List InoRec) (mappings : List RmapRec) : Type 0 where
  pub group : g < a.geometry.agcount
  pub whole : length ≡ group_len_of a.geometry g
  pub chunks : recs_of ((a.group g).tree Ino).reading ≡ ino
  pub owners : recs_of ((a.group g).tree Rmap).reading ≡ mappings

abbrev pub has_inodes : RmapRec → Bool
has_inodes r = r.owner == 0xffff_ffff_ffff_fff9

-- the units below n of which each block lies in the run
unfoldable pub units_in : ℕ → Run → Run
units_in n r =
    let end = min ((r.start + r.count) / 8) n in
    let start = min ((r.start + 7) / 8) end in
    record { start = start; count = end - start }

-- the record begins with a unit below n
abbrev pub is_unit_below : ℕ → InoRec → Bool
is_unit_below n r = (r.startino % 64 == 0) && nat_lt (r.startino / 64) n

abbrev pub unit_listed : InoRec → Run
unit_listed r = record { start = r.startino / 64; count = 1 }

-- the block lies in a reverse mapping of chunks
abbrev pub has_chunks : List RmapRec → ℕ → Bool
has_chunks mappings b = list_any (λ r. (r.owner == 0xffff_ffff_ffff_fff9) && nat_le r.start b && nat_lt b (r.start + r.count)) mappings

-- the units below n that either lists, of the second by the runs of its blocks
abbrev pub listing_runs : ℕ → List InoRec → List Run → List Run
listing_runs n ino blocks = map unit_listed (filter (is_unit_below n) ino) ++ map (units_in n) blocks

-- they are the maximal runs of the units that the group of the state lists
abbrev pub AreListedUnits : State → ℕ → ℕ → List Run → Type 0
AreListedUnits a g length units = units ≡ runs_below (is_listed a g) (length / 8)
