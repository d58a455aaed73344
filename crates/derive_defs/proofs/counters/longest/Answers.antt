use Rattle.std.proofs.Common.{arith}
use Rattle.derive_defs.proofs.ByCountLemmas.{last_is_greatest}
use Rattle.derive_defs.proofs.counters.longest.Goals as goal

pub returns-in-len1-up : goal.returns-in-len1-up
returns-in-len1-up c = last_is_greatest c.args.by_count.now (record { start = 0; count = 0 }) c.requires (omega arith)
