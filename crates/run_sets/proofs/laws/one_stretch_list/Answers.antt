use Rattle.run_sets.proofs.OnlyStretchesLemmas as lemmas
use Rattle.run_sets.proofs.laws.one_stretch_list.Goals as goal

pub returns : goal.returns
returns g c f length ss others left right = lemmas.one_stretch_list f length ss others left right
