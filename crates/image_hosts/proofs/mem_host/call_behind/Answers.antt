use Rattle.std.proofs.Common.{arith, ◌∙◌}
use Rattle.image_hosts.proofs.RedoFileLemmas.{raised_by}
use Rattle.image_hosts.proofs.mem_host.call_behind.Goals as goal

pub returns : goal.returns
returns c = c.saturating_add.ensures ∙ raised_by c.args.call c.args.others (omega arith)
