use Rattle.fs_said.proofs.Journals as lemmas
use Rattle.fs_said.proofs.laws.truly_leads.Goals as goal

pub returns : goal.returns
returns c = lemmas.truly_leads
