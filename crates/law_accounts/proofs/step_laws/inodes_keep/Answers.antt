use Rattle.law_accounts.proofs.Step.Inodes.{chunk_taken_sound, given_sound, taken_sound}
use Rattle.law_accounts.proofs.step_laws.inodes_keep.Goals as goal

pub returns-clause-made : goal.returns-clause-made
returns-clause-made c = chunk_taken_sound

pub returns-clause-taken : goal.returns-clause-taken
returns-clause-taken c = taken_sound

pub returns-clause-given : goal.returns-clause-given
returns-clause-given c = given_sound
