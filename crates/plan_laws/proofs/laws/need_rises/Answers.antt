use Rattle.plan_laws.proofs.Needs.{need_rises_lem}
use Rattle.plan_laws.proofs.laws.need_rises.Goals as goal

pub returns : goal.returns
returns c = need_rises_lem
