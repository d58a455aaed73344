use Rattle.std.proofs.Common.{ℕ, List, ap, ◌∙◌}
use Rattle.ag_headers.specs.Agfl.{own_fault, ring_in}
use Rattle.ag_headers.specs.Fields.{sector}
use Rattle.ag_headers.proofs.ListLemmas.{states_ring, list_accepted}
use Rattle.ag_headers.proofs.agfl.Agfl.encode.Goals as goal

pub returns-clause-again : goal.returns-clause-again
returns-clause-again c = λ names.
    ap (λ (agf : List ℕ). ring_in agf (sector 3 c.put_sector.new.block.bytes)) (c.put_sector.ensures.elsewhere 1 (λ same. cc))
    ∙ (ap (ring_in (sector 1 c.args.block.now.bytes)) c.put_sector.ensures.there ∙ c.put_agfl.ensures.again (sector 1 c.args.block.now.bytes) (states_ring (sector 1 c.args.block.now.bytes) c.args.self.now names))

pub returns-clause-accepted : goal.returns-clause-accepted
returns-clause-accepted c = λ at g names list.
    list_accepted at g c.put_sector.new.block.bytes c.args.self.now
    (ap (own_fault at g) c.put_sector.ensures.there ∙ c.put_agfl.ensures.accepted at g list.group list.image)
    (returns-clause-again c names)
    c.put_agfl.ensures.ring
    list
