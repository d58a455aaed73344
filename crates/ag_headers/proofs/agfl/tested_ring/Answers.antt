use Rattle.std.proofs.Common.{sym, ap, ◌∙◌}
use Rattle.ag_headers.specs.Agfl.{ring_in, entry_fault}
use Rattle.ag_headers.proofs.AgflLemmas.{ring_fails, ring_passes, tested_by}
use Rattle.ag_headers.proofs.agfl.tested_ring.Goals as goal

pub returns-in-None : goal.returns-in-None
unfolding ring_in
returns-in-None c = ring_fails c.args.blocks (ring_in c.args.agf.now c.args.agfl.now) c.in-None.ensures

pub returns-in-Some : goal.returns-in-Some
unfolding ring_in
returns-in-Some c =
    let ring = ring_in c.args.agf.now c.args.agfl.now in
    tested_by c.tested_entries.result _ _ _ _ (ring_passes c.args.blocks ring c.in-Some.ensures.0 ∙ ap (entry_fault c.args.blocks) (sym c.in-Some.ensures.1)) c.in-Some.ensures.1 c.tested_entries.ensures
