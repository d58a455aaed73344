-- What holds of the list in which a shadow keeps its runs, whatever was put in.
use Rattle.std.specs.Prelude.{ℕ, ◌-◌, List, All, Vec, vec_len, vec_capacity}
use Rattle.rmap_recs.specs.declared.records.RmapRec.{RmapRec}
use Rattle.run_edits.specs.Edits.{AreSorted, HasRoom}

-- so many more records fit besides one
abbrev pub spare : {X Z : Type 0} → Vec X Z → ℕ
spare list = vec_capacity list - 1 - vec_len list

-- the list can be edited
pub record CanEdit (recs : List RmapRec) : Type 0 where
  pub sorted : AreSorted recs
  pub rooms : All HasRoom recs
