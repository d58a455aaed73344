-- What a unit has reserved and not switched to.
use Rattle.std.specs.Prelude.{ℕ, Bool, false, List, []}
use Rattle.block_reap.specs.Limbo.{has}
use Rattle.core_parts.specs.declared.units.Work.{Work}
use Rattle.core_parts.specs.declared.units.Work.TheVariants as works
use Rattle.core_units.specs.Released.{block_runs, owner_in}
use Rattle.core_units.specs.declared.rebuild.Rebuild.{Rebuild}

-- the block is in the reserve, and the owner is the unit's
abbrev pub has_reserve : Rebuild → ℕ → ℕ → Bool
has_reserve r b o = has (block_runs (owner_in r) r.building.reserve.items) b o

abbrev pub is_reserved : Work → ℕ → ℕ → Bool
is_reserved (works.Building r) b o = has_reserve r b o
is_reserved (works.Reserved r s) b o = has_reserve r b o
is_reserved (works.Staged r s) b o = has_reserve r b o
is_reserved (works.Spent r) b o = has_reserve r b o
is_reserved work b o = false

-- the blocks of the reserve
abbrev pub reserve_in : Work → List ℕ
reserve_in (works.Building r) = r.building.reserve.items
reserve_in (works.Reserved r s) = r.building.reserve.items
reserve_in (works.Staged r s) = r.building.reserve.items
reserve_in (works.Spent r) = r.building.reserve.items
reserve_in work = []
