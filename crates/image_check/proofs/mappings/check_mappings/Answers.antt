use Rattle.std.proofs.Common.{[], ◌∷◌, None}
use Rattle.blk_device.specs.declared.device.Region.TheVariants.{Image}
use Rattle.fs_model.specs.declared.unit.Unit.TheVariants as units
use Rattle.geom.specs.Places.{layout}
use Rattle.inode_pass.specs.Units.{opened_state}
use Rattle.check_phases.specs.Checks.{ChecksUnit}
use Rattle.check_phases.proofs.UnitLemmas.{unit_added, unit_cut, unit_full}
use Rattle.space_check.proofs.EventLemmas.{with_err}
use Rattle.check_phases.proofs.AddedLemmas as added
use Rattle.check_phases.specs.Parts.{AddsPart}
use Rattle.image_check.specs.Units.{IsMappingPart}
use Rattle.check_phases.proofs.KeptLemmas.{none_begun}
use Rattle.check_phases.proofs.KeptToldLemmas as kept
use Rattle.check_phases.specs.Kept.{come}
use Rattle.group_trees.specs.Counted.{trees_most}
use Rattle.image_check.specs.Kept.{KeepsClaims, mapping_kept}
use Rattle.image_check.proofs.mappings.check_mappings.Goals as goal

pub returns-in_err-begin-clause-exact : goal.returns-in_err-begin-clause-exact
returns-in_err-begin-clause-exact g c = λ m e forks.
    let a = opened_state (layout c.args.geo.now) (m Image) in
    with_err {T = Unit {0}} (λ r. ChecksUnit a None c.args.g units.Rmap c.args.tally.now c.args.tally.now r) c.in_err-begin.field-0.0 c.from_residual.result c.from_residual.ensures
    (unit_full a None c.args.g (Unit {0}) (Unit {0}) units.Rmap c.args.tally.now c.in_err-begin.field-0.0 c.in_err-begin.ensures)

pub returns-in_err-judged-clause-exact : goal.returns-in_err-judged-clause-exact
returns-in_err-judged-clause-exact g c = λ m e forks.
    let a = opened_state (layout c.args.geo.now) (m Image) in
    with_err {T = Unit {0}} (λ r. ChecksUnit a None c.args.g units.Rmap c.args.tally.now c.args.tally.now r) c.in_err-judged.field-0.0 c.from_residual-in_err-judged.result c.from_residual-in_err-judged.ensures
    (unit_cut a None c.args.g (Unit {0}) units.Rmap c.args.tally.now c.in_err-judged.field-0.0 c.in_ok-begin.ensures c.in_err-judged.ensures.outside)

pub returns-clause-exact : goal.returns-clause-exact
returns-clause-exact g c = λ m e forks.
    unit_added (opened_state (layout c.args.geo.now) (m Image)) c.args.g units.Rmap c.args.tally.now c.add.new.self c.add.result c.in_ok-judged.judged (c.in_ok-judged.ensures.exact m e forks) c.in_ok-begin.ensures c.add.ensures.added c.add.ensures.passed

pub returns-in_err-begin-clause-added : goal.returns-in_err-begin-clause-added
returns-in_err-begin-clause-added g c =
    with_err {T = Unit {0}} (λ r. AddsPart (IsMappingPart c.args.g) c.args.tally.now c.args.tally.now r) c.in_err-begin.field-0.0 c.from_residual.result c.from_residual.ensures
    (added.unit_full c.args.g units.Rmap (Unit {0}) (Unit {0}) c.args.tally.now c.in_err-begin.field-0.0 c.in_err-begin.ensures)

pub returns-in_err-judged-clause-added : goal.returns-in_err-judged-clause-added
returns-in_err-judged-clause-added g c =
    with_err {T = Unit {0}} (λ r. AddsPart (IsMappingPart c.args.g) c.args.tally.now c.args.tally.now r) c.in_err-judged.field-0.0 c.from_residual-in_err-judged.result c.from_residual-in_err-judged.ensures
    (added.unit_cut c.args.g units.Rmap (Unit {0}) c.args.tally.now c.in_err-judged.field-0.0 c.in_ok-begin.ensures c.in_err-judged.ensures.outside)

pub returns-clause-added : goal.returns-clause-added
returns-clause-added g c = added.unit_added c.args.g units.Rmap c.in_ok-judged.judged c.args.tally.now c.add.new.self c.add.result c.in_ok-begin.ensures c.add.ensures.added

pub returns-in_err-begin-clause-kept : goal.returns-in_err-begin-clause-kept
returns-in_err-begin-clause-kept g c =
    with_err {T = Unit {0}} (λ r. KeepsClaims (layout c.args.geo.now) (g.D.Device.content c.args.dev.now) c.args.g c.args.chunks.now c.args.set c.args.tally.now c.args.steps.now.reads c.args.tally.now c.args.steps.now.reads r) c.in_err-begin.field-0.0 c.from_residual.result c.from_residual.ensures
    (λ m e forks. none_begun (mapping_kept (layout c.args.geo.now) (m Image) c.args.g ∷ []) (come c.args.tally.now c.args.steps.now.reads))

pub returns-in_err-judged-clause-kept : goal.returns-in_err-judged-clause-kept
returns-in_err-judged-clause-kept g c =
    with_err {T = Unit {0}} (λ r. KeepsClaims (layout c.args.geo.now) (g.D.Device.content c.args.dev.now) c.args.g c.args.chunks.now c.args.set c.args.tally.now c.args.steps.now.reads c.args.tally.now c.judge_unit.new.steps.reads r) c.in_err-judged.field-0.0 c.from_residual-in_err-judged.result c.from_residual-in_err-judged.ensures
    (λ m e forks. kept.unit_cut (opened_state (layout c.args.geo.now) (m Image)) c.args.g units.Rmap (trees_most (layout c.args.geo.now) (m Image) c.args.g) [] c.args.tally.now c.args.steps.now.reads c.judge_unit.new.steps.reads c.in_ok-begin.ensures (c.in_err-judged.ensures.counted m e))

pub returns-clause-kept : goal.returns-clause-kept
returns-clause-kept g c =
    λ m e forks. kept.unit_keeps (opened_state (layout c.args.geo.now) (m Image)) c.args.g units.Rmap (trees_most (layout c.args.geo.now) (m Image) c.args.g) c.args.tally.now c.add.new.self c.args.steps.now.reads c.judge_unit.new.steps.reads c.add.result c.in_ok-judged.judged (c.in_ok-judged.ensures.exact m e forks) c.in_ok-begin.ensures c.add.ensures.added (c.in_ok-judged.ensures.counted m e)
