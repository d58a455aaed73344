-- What all forks claim, by one pass over them ("Inode Scans").
use Rattle.std.specs.Prelude.{◌≡◌, Option, Some, None}
use Rattle.std.specs.Global.{Vec}
use Rattle.check_phases.specs.Session.{inode_fallen}
use Rattle.fork_pass.specs.Passed.{AreForkClaims}
use Rattle.fs_state.specs.Contradiction.{first_bad_fork}
use Rattle.fs_model.specs.declared.claim.Evidence.{Evidence}
use Rattle.fs_state.specs.State.{State}
use Rattle.unit_plan.specs.declared.claims.ClaimSet.{ClaimSet}

-- a set for each group, with the claims of all forks in it; none only where the inodes of a group don't pass, or a fork
-- can't be read
abbrev pub HasOwners : State → Option (Vec ClaimSet) → Type 0
HasOwners a (Some sets) = AreForkClaims a sets.items
HasOwners a None = inode_fallen a ≡ None → (e : Evidence) × (first_bad_fork a ≡ Some e)
