use Rattle.std.proofs.Common.{List, map, subst, sym}
use Rattle.unit_plan.specs.declared.piece.Piece.{Piece}
use Rattle.unit_plan.specs.Spans.{RunsRise, looked_run}
use Rattle.unit_plan.specs.Spare.{IsLowest, is_free_for}
use Rattle.unit_plan.proofs.SpanLemmas.{none_spare, pieces_rise, spare_found}
use Rattle.unit_plan.proofs.claims.ClaimSet.lowest_spare.Goals as goal

pub returns-then-not-may_spare-clause-exact : goal.returns-then-not-may_spare-clause-exact
returns-then-not-may_spare-clause-exact c = none_spare c.args.unit c.args.trust c.args.free.now c.args.mappings.now c.args.self.now.pieces.items (sym c.if-not-may_spare.ensures)

pub lowest_for-requires-clause-pieces : goal.lowest_for-requires-clause-pieces
lowest_for-requires-clause-pieces c among =
    subst (λ (ps : List Piece). RunsRise (map (looked_run among) ps)) (sym c.as_slice.ensures.value) (pieces_rise among c.sort_by_start.new.pieces.items c.sort_by_start.ensures.rising)

pub returns-clause-exact : goal.returns-clause-exact
returns-clause-exact c =
    spare_found c.args.unit c.args.trust c.args.free.now c.args.mappings.now c.args.self.now.pieces.items c.sort_by_start.new.pieces.items c.lowest_for.result c.sort_by_start.ensures.kept (sym c.if-not-may_spare.ensures)
    (subst (λ (ps : List Piece). IsLowest (is_free_for c.args.unit c.args.free.now c.args.mappings.now ps) c.lowest_for.result) c.as_slice.ensures.value c.lowest_for.ensures)
