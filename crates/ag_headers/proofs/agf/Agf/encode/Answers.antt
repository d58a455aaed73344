use Rattle.std.proofs.Common.{ap, ◌∙◌}
use Rattle.ag_headers.specs.Agf.{agf_form, agf_in}
use Rattle.ag_headers.specs.Tests.{head_fault}
use Rattle.ag_headers.proofs.agf.Agf.encode.Goals as goal

pub returns-clause-again : goal.returns-clause-again
returns-clause-again c = ap agf_in c.put_sector.ensures.there ∙ c.put_agf.ensures.again

pub returns-clause-accepted : goal.returns-clause-accepted
returns-clause-accepted c = λ at g of_group. ap (head_fault agf_form at g) c.put_sector.ensures.there ∙ c.put_agf.ensures.accepted at g of_group
