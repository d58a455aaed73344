use Rattle.std.proofs.Common.{◌∙◌, ap, arith}
use Rattle.ag_headers.specs.Agf.{agf_in, agf_form}
use Rattle.ag_headers.specs.Agi.{agi_written}
use Rattle.ag_headers.specs.Fields.{sector, with_sector}
use Rattle.ag_headers.specs.Tests.{head_fault}
use Rattle.root_switch.proofs.heads.put_heads.Goals as goal

pub returns-clause-agf : goal.returns-clause-agf
returns-clause-agf c = ap agf_in (c.encode-2.ensures.elsewhere 1 (omega arith)) ∙ c.encode.ensures.again

pub returns-clause-agf_accepted : goal.returns-clause-agf_accepted
returns-clause-agf_accepted c = λ at g fits. ap (head_fault agf_form at g) (c.encode-2.ensures.elsewhere 1 (omega arith)) ∙ c.encode.ensures.accepted at g fits

-- the first write leaves the second one's sector
pub returns-clause-bytes : goal.returns-clause-bytes
returns-clause-bytes c =
    c.encode-2.ensures.bytes
    ∙ ap (λ bytes. with_sector 2 c.encode.new.block.bytes (agi_written c.args.heads.now.agi bytes)) (c.encode.ensures.elsewhere 2 (omega arith))
    ∙ ap (λ block. with_sector 2 block (agi_written c.args.heads.now.agi (sector 2 c.args.block.now.bytes))) c.encode.ensures.bytes
