use Rattle.law_accounts.proofs.Step.Freed.{freed_keeps}
use Rattle.law_accounts.proofs.step_laws.freed_keeps.Goals as goal

pub returns : goal.returns
returns c = freed_keeps
