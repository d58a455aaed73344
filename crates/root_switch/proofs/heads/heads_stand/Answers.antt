use Rattle.root_switch.proofs.Standing.{heads_stand}
use Rattle.root_switch.proofs.heads.heads_stand.Goals as goal

pub returns : goal.returns
returns c = heads_stand
