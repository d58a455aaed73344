use Rattle.std.proofs.Common.{◌≡◌, ◌∙◌, All, List, drop, filter, length, map, ap, sym, subst, rules, arith}
use Rattle.std.specs.Prelude.{nat_lt}
use Rattle.std.proofs.lemmas.Fn.{filter_same}
use Rattle.rmap_recs.proofs.RisingLemmas.{filter_rises}
use Rattle.rmap_recs.specs.declared.records.RmapRec.{RmapRec}
use Rattle.run_edits.specs.Edits.{is_before}
use Rattle.run_edits.specs.Pieces.{ArePieces}
use Rattle.run_edits.proofs.PieceLemmas.{along}
use Rattle.sblock.specs.Lists.{Rises}
use Rattle.unit_plan.specs.declared.piece.Piece.{Piece}
use Rattle.unit_plan.specs.Joined.{AreJoinedFrom, Fits}
use Rattle.unit_plan.specs.Lost.{of_piece}
use Rattle.unit_plan.proofs.InOrder.{kept, whole_taken}
use Rattle.unit_plan.proofs.JoinLemmas.{all_joined}
use Rattle.unit_plan.proofs.RowLemmas.{row_fits, row_rises}
use Rattle.unit_plan.proofs.runs.joined.Goals as goal

pub join_all-requires-clause-sorted : goal.join_all-requires-clause-sorted
join_all-requires-clause-sorted c = subst (λ (ps : List Piece). Rises is_before (map of_piece ps)) (sym c.deref_mut.ensures.value) (row_rises (map of_piece c.args.pieces.items) c.requires)

pub join_all-requires-clause-rooms : goal.join_all-requires-clause-rooms
join_all-requires-clause-rooms c = subst (λ (ps : List Piece). All Fits (map of_piece ps)) (sym c.deref_mut.ensures.value) (row_fits (map of_piece c.args.pieces.items) c.requires)

pub returns-clause-rising : goal.returns-clause-rising
returns-clause-rising c =
    let left : c.retain.new.self.items ≡ filter (λ (p : Piece). nat_lt 0 p.run.count) c.join_all.new.pieces =
    (let long = c.join_all.ensures.long in
    let all = c.deref_mut.ensures.len in
    filter_same _ (λ (p : Piece). nat_lt 0 p.run.count) _ (λ x b f' k. search rules) _ _ c.retain.ensures.filtered
    ∙ ap (λ (ps : List Piece). filter (λ (p : Piece). nat_lt 0 p.run.count) ps)
    (whole_taken c.args.pieces.len c.join_all.new.pieces (drop (length c.join_all.new.pieces) c.args.pieces.items) (omega (arith, long, all)))) in
    subst (Rises is_before) (sym (ap (map of_piece) left ∙ kept c.join_all.new.pieces))
    (filter_rises is_before along (λ (r : RmapRec). nat_lt 0 r.count) (map of_piece c.join_all.new.pieces) c.join_all.ensures.sorted)

pub returns-clause-exact : goal.returns-clause-exact
returns-clause-exact c = λ are.
    let left : c.retain.new.self.items ≡ filter (λ (p : Piece). nat_lt 0 p.run.count) c.join_all.new.pieces =
    (let long = c.join_all.ensures.long in
    let all = c.deref_mut.ensures.len in
    filter_same _ (λ (p : Piece). nat_lt 0 p.run.count) _ (λ x b f' k. search rules) _ _ c.retain.ensures.filtered
    ∙ ap (λ (ps : List Piece). filter (λ (p : Piece). nat_lt 0 p.run.count) ps)
    (whole_taken c.args.pieces.len c.join_all.new.pieces (drop (length c.join_all.new.pieces) c.args.pieces.items) (omega (arith, long, all)))) in
    let there : ArePieces (map of_piece c.deref_mut.result.now) = subst (λ (ps : List Piece). ArePieces (map of_piece ps)) (sym c.deref_mut.ensures.value) are in
    let done : AreJoinedFrom (map of_piece c.args.pieces.items) 0 (map of_piece c.join_all.new.pieces) =
    subst (λ (ps : List Piece). AreJoinedFrom (map of_piece ps) 0 (map of_piece c.join_all.new.pieces)) c.deref_mut.ensures.value (c.join_all.ensures.joined there) in
    ap (map of_piece) left ∙ (kept c.join_all.new.pieces ∙ all_joined (map of_piece c.args.pieces.items) are (map of_piece c.join_all.new.pieces) done)
