use Rattle.std.proofs.Common.{◌++◌, List, ap, ◌∙◌, take, arith, Option}
use Rattle.fs_model.specs.declared.fault.Fault.{Fault}
use Rattle.xref_scrub.specs.Cursors.{shown_from}
use Rattle.xref_scrub.specs.Differences.{piece}
use Rattle.xref_scrub.proofs.ShowingLemmas.{faults_in, piece_more}
use Rattle.xref_scrub.proofs.pieces.compare_piece.Goals as goal

pub piece-init : goal.piece-init
unfolding piece
piece-init g c = record {
  parted = c.seek-at.ensures.parted;
  found = ap (λ (fs : List Fault). fs ++ faults_in (take 512 (shown_from g.K.RecKind.form g.K.Indexed.shown c.args.index.now c.args.derived.now c.seek-at.result.derived c.seek-at.result.index))) c.new-faults.ensures.items
      ∙ ap (λ (records : List (Option Fault)). faults_in (take 512 records)) c.seek-at.ensures.shown;
}

pub piece-preserved : goal.piece-preserved
piece-preserved g c = record {
  parted = c.pass-fault.ensures.parted;
  found = piece_more c.piece.faults.items _ _ c.piece.left c.pass-fault.result (shown_from g.K.RecKind.form g.K.Indexed.shown c.args.index.now c.args.derived.now c.pass-fault.new.at.derived c.pass-fault.new.at.index)
      (shown_from g.K.RecKind.form g.K.Indexed.shown c.args.index.now c.args.derived.now c.piece.at.derived c.piece.at.index) (omega arith) c.pass-fault.ensures.shown c.piece.invariant.found c.in_ok-keep.ensures;
}
