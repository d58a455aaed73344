use Rattle.std.proofs.Common.{◌∙◌, sym}
use Rattle.ag_headers.proofs.AgfLemmas.{agf_is_of_group}
use Rattle.ag_headers.proofs.agf.decode_agf.Goals as goal

pub returns-in-None-clause-of_group : goal.returns-in-None-clause-of_group
returns-in-None-clause-of_group c = agf_is_of_group _ c.args.g c.agf_at.result c.sector_in-agf.result.now (sym c.first_fault.ensures ∙ c.in-None.is) c.agf_at.ensures
