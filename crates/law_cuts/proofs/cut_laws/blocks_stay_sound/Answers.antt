use Rattle.law_cuts.proofs.Cut.Cut.{held_behind, sound_behind}
use Rattle.law_cuts.proofs.cut_laws.blocks_stay_sound.Goals as goal

pub returns-clause-sound : goal.returns-clause-sound
returns-clause-sound c = sound_behind

pub returns-clause-held : goal.returns-clause-held
returns-clause-held c = held_behind
