-- A scan that ends by what one pass has found.
use Rattle.std.specs.Prelude.{◌≡◌}
use Rattle.std.specs.Global.{Vec}
use Rattle.core_parts.specs.declared.units.Work.{Work}
use Rattle.core_parts.specs.declared.units.Work.TheVariants as works
use Rattle.rmap_recs.specs.declared.records.RmapRec.{RmapRec}

-- the unit is open, with these runs of owners
abbrev pub HasOwners : Vec RmapRec → Work → Type 0
HasOwners owners work = work ≡ works.Open owners
