use Rattle.std.proofs.Common.{◌≡◌, true, List, Err, sym, subst, ◌∙◌, arith}
use Rattle.std.specs.Prelude.{All}
use Rattle.blk_device.specs.declared.device.Region.TheVariants.{Image}
use Rattle.dinode_core.specs.Inline.{in_range}
use Rattle.dinode_core.specs.declared.mapping.Mapping.{Mapping}
use Rattle.fork_read.specs.Pieces.{IsForkAnswer}
use Rattle.fork_read.specs.declared.fault.ReadFault.{ReadFault}
use Rattle.geom.specs.Places.{layout}
use Rattle.fork_pass.specs.Pieces.{mapping_pieces}
use Rattle.fork_pass.specs.Sets.{Adds}
use Rattle.fork_pass.proofs.ForkLemmas.{come_more, pieces_begun, refused_cause, refused_none, refused_so, taken_bad}
use Rattle.fork_pass.proofs.fork.take_piece.Goals as goal

pub returns-in-Err-clause-come : goal.returns-in-Err-clause-come
returns-in-Err-clause-come g c =
    refused_so _ c.in-Err.fault c.refused.result c.refused.ensures
    (λ f is m e first before there come. taken_bad (layout c.args.geo.now) (m Image) c.args.core.now c.args.fork first c.args.sets.now c.args.met.now c.args.from before c.args.steps.now.reads f c.first_fault_tells.ensures there come (subst (λ (x : ReadFault). IsForkAnswer (layout c.args.geo.now) (m Image) c.args.core.now c.args.fork c.args.from (Err x)) is (c.in-Err.ensures.exact m e)))
    (λ f is m e first before there come. absurd (subst (λ (x : ReadFault). IsForkAnswer (layout c.args.geo.now) (m Image) c.args.core.now c.args.fork c.args.from (Err x)) is (c.in-Err.ensures.exact m e)))

pub returns-in-Err-clause-behind : goal.returns-in-Err-clause-behind
returns-in-Err-clause-behind g c = refused_none _ c.in-Err.fault c.refused.result c.refused.ensures

pub returns-in-Err-clause-few : goal.returns-in-Err-clause-few
returns-in-Err-clause-few g c = refused_none _ c.in-Err.fault c.refused.result c.refused.ensures

pub returns-in-Err-clause-cause : goal.returns-in-Err-clause-cause
returns-in-Err-clause-cause g c = refused_cause (g.D.Device.faults c.args.dev.now) (g.D.Device.faults c.piece_of_core.new.dev) c.in-Err.fault c.refused.result c.refused.ensures c.in-Err.ensures.cause

pub put_mappings-requires-clause-range : goal.put_mappings-requires-clause-range
put_mappings-requires-clause-range g c = subst (λ (xs : List Mapping). All (λ m. in_range (layout c.args.geo.now) c.args.fork m ≡ true) xs) (sym c.as_slice.ensures.value) c.in-Ok.ensures.range

pub returns-clause-come : goal.returns-clause-come
returns-clause-come g c = λ m e first before there come.
    come_more (layout c.args.geo.now) (m Image) c.args.core.now c.args.fork first c.args.sets.now c.put_mappings.new.sets c.args.met.now c.note_piece.new.met c.args.from before c.args.steps.now.reads c.piece_of_core.new.steps.reads c.in-Ok.piece there come (c.in-Ok.ensures.paid m e) (c.in-Ok.ensures.exact m e)
    (subst (λ (xs : List Mapping). Adds c.args.sets.now c.put_mappings.new.sets (mapping_pieces (layout c.args.geo.now) c.args.fork c.args.core.now.ino xs)) c.as_slice.ensures.value c.in_ok-put_mappings.ensures.put)
    c.in_ok-note_piece.ensures.next c.in_ok-note_piece.ensures.count c.in_ok-note_piece.ensures.blocks

pub returns-clause-behind : goal.returns-clause-behind
returns-clause-behind g c = λ _ n h. c.in-Ok.ensures.size.behind n (sym c.in_ok-note_piece.ensures.next ∙ h)

pub returns-clause-few : goal.returns-clause-few
returns-clause-few g c = λ _ n h.
    let behind = c.in-Ok.ensures.size.behind n (sym c.in_ok-note_piece.ensures.next ∙ h) in
    omega (arith, behind, c.in-Ok.ensures.size.most, c.in_ok-note_piece.ensures.count, c.requires.few)

pub returns-in-Err-clause-each : goal.returns-in-Err-clause-each
returns-in-Err-clause-each g c = λ m e first before there come.
    pieces_begun (layout c.args.geo.now) (m Image) c.args.core.now c.args.fork first c.args.sets.now c.args.met.now c.args.from before c.args.steps.now.reads c.piece_of_core.new.steps.reads c.pieces_are_few.ensures there come (c.piece_of_core.ensures.spent m e)

pub returns-in_err-put_mappings-clause-each : goal.returns-in_err-put_mappings-clause-each
returns-in_err-put_mappings-clause-each g c = λ m e first before there come.
    pieces_begun (layout c.args.geo.now) (m Image) c.args.core.now c.args.fork first c.args.sets.now c.args.met.now c.args.from before c.args.steps.now.reads c.piece_of_core.new.steps.reads c.pieces_are_few.ensures there come (c.piece_of_core.ensures.spent m e)

pub returns-in_err-note_piece-clause-each : goal.returns-in_err-note_piece-clause-each
returns-in_err-note_piece-clause-each g c = λ m e first before there come.
    pieces_begun (layout c.args.geo.now) (m Image) c.args.core.now c.args.fork first c.args.sets.now c.args.met.now c.args.from before c.args.steps.now.reads c.piece_of_core.new.steps.reads c.pieces_are_few.ensures there come (c.piece_of_core.ensures.spent m e)

pub returns-clause-each : goal.returns-clause-each
returns-clause-each g c = λ m e first before there come.
    pieces_begun (layout c.args.geo.now) (m Image) c.args.core.now c.args.fork first c.args.sets.now c.args.met.now c.args.from before c.args.steps.now.reads c.piece_of_core.new.steps.reads c.pieces_are_few.ensures there come (c.piece_of_core.ensures.spent m e)
