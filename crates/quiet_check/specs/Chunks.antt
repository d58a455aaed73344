-- Chunks among the units that were seen, and bad cores among them.
use Rattle.std.specs.Prelude.{ℕ, ◌&&◌, List, [], ◌∷◌, flat_map, Option, None, if◌then◌else◌}
use Rattle.std.specs.Option.{is_some}
use Rattle.fs_model.specs.declared.claim.Evidence.{Evidence}
use Rattle.inode_pass.specs.declared.unit.UnitSeen.{UnitSeen}
use Rattle.run_sets.specs.Runs.{holds}
use Rattle.run_sets.specs.declared.run.Run.{Run}

-- the unit, where its cores all verify
abbrev pub chunk_from : UnitSeen → List ℕ
chunk_from s = if is_some s.cores.free then s.cores.unit ∷ [] else []

-- the units whose cores all verify
abbrev pub chunk_numbers : List UnitSeen → List ℕ
chunk_numbers seen = flat_map chunk_from seen

-- the first core of a unit that doesn't verify, where both list the unit
unfoldable pub bad_where : List Run → List Run → UnitSeen → Option Evidence
bad_where by_inodes by_owners s =
    if (is_some s.broken && holds by_inodes s.cores.unit) && holds by_owners s.cores.unit then s.broken else None
