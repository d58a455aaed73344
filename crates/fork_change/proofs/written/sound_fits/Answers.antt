use Rattle.fork_change.proofs.SoundLemmas.{sound_fits}
use Rattle.fork_change.proofs.written.sound_fits.Goals as goal

pub returns : goal.returns
returns c = sound_fits
