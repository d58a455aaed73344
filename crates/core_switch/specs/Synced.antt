-- Which new blocks a crash may still lose, until the work on their unit ends ("Writing the New Tree").
use Rattle.std.specs.Prelude.{ℕ, nat_lt, Bool, true, false}
use Rattle.core_parts.specs.declared.units.Work.{Work}
use Rattle.core_parts.specs.declared.units.Work.TheVariants as works
use Rattle.core_units.specs.declared.stage.Staging.{Staging}
use Rattle.core_units.specs.declared.stage.Staging.TheVariants as stagings

-- new blocks were written
abbrev pub has_staged : Staging → Bool
has_staged (stagings.First k) = nat_lt 0 k
has_staged (stagings.Second k) = true
has_staged stagings.Synced = false

-- new blocks were written, and not synced since
abbrev pub is_unsynced : Work → Bool
is_unsynced (works.Reserved r s) = has_staged s
is_unsynced work = false
