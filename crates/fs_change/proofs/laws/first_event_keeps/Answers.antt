use Rattle.fs_change.proofs.Owed as lemmas
use Rattle.fs_change.proofs.laws.first_event_keeps.Goals as goal

pub returns : goal.returns
returns c = lemmas.first_event_keeps
