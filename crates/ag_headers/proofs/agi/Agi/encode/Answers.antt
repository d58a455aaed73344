use Rattle.std.proofs.Common.{ap, ◌∙◌}
use Rattle.ag_headers.specs.Agi.{agi_form, agi_in}
use Rattle.ag_headers.specs.Tests.{head_fault}
use Rattle.ag_headers.proofs.agi.Agi.encode.Goals as goal

pub returns-clause-again : goal.returns-clause-again
returns-clause-again c = ap agi_in c.put_sector.ensures.there ∙ c.put_agi.ensures.again

pub returns-clause-accepted : goal.returns-clause-accepted
returns-clause-accepted c = λ at g of_group. ap (head_fault agi_form at g) c.put_sector.ensures.there ∙ c.put_agi.ensures.accepted at g of_group
