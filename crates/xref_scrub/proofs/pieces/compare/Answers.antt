use Rattle.std.proofs.Common.{◌++◌, List, ap, ◌∙◌}
use Rattle.fs_model.specs.declared.fault.Fault.{Fault}
use Rattle.xref_scrub.specs.Cursors.{shown_from}
use Rattle.xref_scrub.specs.Differences.{comes_before}
use Rattle.xref_scrub.proofs.CursorLemmas.{parted_start}
use Rattle.xref_scrub.proofs.DifferenceLemmas.{all_shown}
use Rattle.xref_scrub.proofs.ShowingLemmas.{faults_in, kept_more, kept_all, shown_start}
use Rattle.xref_scrub.proofs.pieces.compare.Goals as goal

pub records-init : goal.records-init
records-init g c = record {
  parted = parted_start (comes_before g.K.RecKind.form) c.args.derived.now c.args.index.now;
  found = ap (λ (fs : List Fault). fs ++ faults_in (shown_from g.K.RecKind.form g.K.Indexed.shown c.args.index.now c.args.derived.now 0 0)) c.new-faults.ensures.items
      ∙ ap faults_in (shown_start g.K.RecKind.form g.K.Indexed.shown c.args.index.now c.args.derived.now);
}

pub records-preserved : goal.records-preserved
records-preserved g c = record {
  parted = c.pass-fault.ensures.parted;
  found = kept_more c.records.faults.items _ _ c.pass-fault.result (shown_from g.K.RecKind.form g.K.Indexed.shown c.args.index.now c.args.derived.now c.pass-fault.new.at.derived c.pass-fault.new.at.index)
      (shown_from g.K.RecKind.form g.K.Indexed.shown c.args.index.now c.args.derived.now c.records.at.derived c.records.at.index) c.pass-fault.ensures.shown c.records.invariant.found c.in_ok-keep.ensures;
}

pub returns : goal.returns
returns g c =
    kept_all c.records.faults.items _ (shown_from g.K.RecKind.form g.K.Indexed.shown c.args.index.now c.args.derived.now c.records.at.derived c.records.at.index) (c.is_some_left.ensures.none c.records-test.false) c.records.invariant.found
    ∙ all_shown g.K.RecKind.form g.met.K.RecKind.lawful g.K.Indexed.shown c.args.index.now c.args.derived.now c.requires.index c.requires.derived
