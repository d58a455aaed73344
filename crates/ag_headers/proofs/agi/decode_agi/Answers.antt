use Rattle.std.proofs.Common.{◌∙◌, sym}
use Rattle.ag_headers.proofs.AgiLemmas.{agi_is_of_group}
use Rattle.ag_headers.proofs.agi.decode_agi.Goals as goal

pub returns-in-None-clause-of_group : goal.returns-in-None-clause-of_group
returns-in-None-clause-of_group c = agi_is_of_group _ c.args.g c.agi_at.result c.sector_in-agi.result.now (sym c.first_fault.ensures ∙ c.in-None.is) c.agi_at.ensures
