use Rattle.sblock.proofs.MeetLemmas.{shares}
use Rattle.sblock.proofs.laws.shares_a_block.Goals as goal

pub returns : goal.returns
returns g c = shares g.K.RecKind.form
