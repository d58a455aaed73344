use Rattle.law_cuts.proofs.Rebuild.Switched.{inodes_switched_told, made_told, quiet_told, space_switched_told}
use Rattle.law_cuts.proofs.rebuild_laws.switched_is_told.Goals as goal

pub returns-clause-quiet : goal.returns-clause-quiet
returns-clause-quiet c = quiet_told

pub returns-clause-made : goal.returns-clause-made
returns-clause-made c = made_told

pub returns-clause-space : goal.returns-clause-space
returns-clause-space c = space_switched_told

pub returns-clause-inodes : goal.returns-clause-inodes
returns-clause-inodes c = inodes_switched_told
