use Rattle.std.proofs.Common.{◌≡◌, None, refl, sym, ap, ◌∙◌}
use Rattle.geom.specs.Places.{layout}
use Rattle.ag_headers.specs.Agfl.{own_fault}
use Rattle.ag_headers.specs.Fields.{sector}
use Rattle.ag_headers.proofs.AgflLemmas.{own_fault_first, ring_fault_next, tested_by, ok_is_list_of}
use Rattle.ag_headers.proofs.ListLemmas.{ok_is_named}
use Rattle.ag_headers.proofs.agfl.decode_agfl.Goals as goal

pub returns-in-Some-clause-exact : goal.returns-in-Some-clause-exact
returns-in-Some-clause-exact c =
    let at = layout c.args.geo.now in
    own_fault_first at c.args.g c.args.block.now.bytes c.in-Some.fault
    (ap (own_fault at c.args.g) (sym c.sector_in-agfl.ensures.bytes) ∙ (sym c.first_own_fault.ensures ∙ c.in-Some.is))

pub returns-in-None-clause-exact : goal.returns-in-None-clause-exact
returns-in-None-clause-exact c =
    let at = layout c.args.geo.now in
    let own : own_fault at c.args.g (sector 3 c.args.block.now.bytes) ≡ None = ap (own_fault at c.args.g) (sym c.sector_in-agfl.ensures.bytes) ∙ (sym c.first_own_fault.ensures ∙ c.in-None.is) in
    tested_by c.tested_ring.result _ _ _ _ (ring_fault_next at c.args.g c.args.block.now.bytes own) refl
    (rw (c.sector_in.ensures.bytes, c.sector_in-agfl.ensures.bytes, c.group_len.ensures) at c.tested_ring.ensures)

pub returns-in-None-clause-of_group : goal.returns-in-None-clause-of_group
returns-in-None-clause-of_group c =
    let at = layout c.args.geo.now in
    let own : own_fault at c.args.g (sector 3 c.args.block.now.bytes) ≡ None = ap (own_fault at c.args.g) (sym c.sector_in-agfl.ensures.bytes) ∙ (sym c.first_own_fault.ensures ∙ c.in-None.is) in
    ok_is_list_of c.tested_ring.result at c.args.g c.args.block.now.bytes own
    (rw (c.sector_in.ensures.bytes, c.sector_in-agfl.ensures.bytes, c.group_len.ensures) at c.tested_ring.ensures)

pub returns-in-None-clause-named : goal.returns-in-None-clause-named
returns-in-None-clause-named c =
    ok_is_named c.tested_ring.result (sector 1 c.args.block.now.bytes) (sector 3 c.args.block.now.bytes) _ _
    (rw (c.sector_in.ensures.bytes, c.sector_in-agfl.ensures.bytes, c.group_len.ensures) at c.tested_ring.ensures)
