use Rattle.std.proofs.Common.{◌∙◌, [], List, Option, map, ap, sym, subst}
use Rattle.std.specs.List.{filter}
use Rattle.fs_model.specs.declared.claim.Evidence.{Evidence}
use Rattle.unit_plan.specs.declared.piece.Piece.{Piece}
use Rattle.unit_plan.specs.Firsts.{firsts_from}
use Rattle.unit_plan.specs.Pieces.{has_block}
use Rattle.unit_plan.specs.Sets.{IsFirstOverlap}
use Rattle.unit_plan.specs.Sweep.{swept}
use Rattle.unit_plan.proofs.FoundLemmas.{none_found, one_found}
use Rattle.unit_plan.proofs.claims.ClaimSet.first_overlap.Goals as goal

pub returns-in-None-clause-exact : goal.returns-in-None-clause-exact
returns-in-None-clause-exact c =
    none_found c.args.among c.args.self.now.pieces.items c.sort_by_start.new.pieces.items c.sort_by_start.ensures.kept c.sort_by_start.ensures.rising
    (ap (λ (ps : List Piece). swept c.args.among 0 0 ps) (sym c.as_slice-pieces.ensures.value) ∙ sym c.in-None.ensures)

pub returns-in-Some-clause-exact : goal.returns-in-Some-clause-exact
returns-in-Some-clause-exact c =
    subst (λ (e : Option Evidence). IsFirstOverlap c.args.among c.args.self.now.pieces.items e) (sym c.shown.ensures)
    (one_found c.args.among c.args.self.now.pieces.items c.sort_by_start.new.pieces.items c.in-Some.block c.firsts_on.result c.sort_by_start.ensures.kept c.sort_by_start.ensures.rising
    (ap (λ (ps : List Piece). swept c.args.among 0 0 ps) (sym c.as_slice-pieces.ensures.value) ∙ sym c.in-Some.ensures)
    (c.firsts_on.ensures ∙ ap (λ (ps : List Piece). firsts_from [] (map (λ p. p.claim) (filter (has_block c.args.among c.in-Some.block) ps))) c.as_slice-pieces.ensures.value))
