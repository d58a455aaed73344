use Rattle.fs_change.proofs.Compose as lemmas
use Rattle.fs_change.proofs.laws.sessions_begin.Goals as goal

pub returns : goal.returns
returns c = lemmas.sessions_begin
