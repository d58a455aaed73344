use Rattle.std.proofs.Common.{◌≡◌, [], ◌∷◌, ◌++◌, None}
use Rattle.std.proofs.lemmas.Result.{on_ok_weaker}
use Rattle.blk_device.specs.declared.device.Region.TheVariants.{Image}
use Rattle.fs_model.specs.declared.unit.Unit.TheVariants as units
use Rattle.geom.specs.Places.{layout}
use Rattle.inode_pass.specs.Units.{opened_state}
use Rattle.check_phases.specs.Checks.{ChecksUnit}
use Rattle.check_phases.proofs.UnitLemmas.{unit_added, unit_cut, unit_full}
use Rattle.space_check.proofs.EventLemmas.{with_err}
use Rattle.check_phases.proofs.InodeLemmas.{puts_one}
use Rattle.check_phases.proofs.AddedLemmas as added
use Rattle.check_phases.specs.Parts.{AddsPart, IsInodePart}
use Rattle.check_phases.proofs.KeptToldLemmas as kept
use Rattle.check_phases.specs.Kept.{KeepsGroup}
use Rattle.check_phases.specs.Phases.{Inodes, lacks_nothing}
use Rattle.check_phases.proofs.inodes.check_inodes.Goals as goal

pub returns-in_err-begin-clause-exact : goal.returns-in_err-begin-clause-exact
returns-in_err-begin-clause-exact g c = λ m e.
    let a = opened_state (layout c.args.geo.now) (m Image) in
    with_err {T = Unit {0}} (λ r. ChecksUnit a None c.args.g units.Inode c.args.tally.now c.args.tally.now r) c.in_err-begin.field-0.0 c.from_residual.result c.from_residual.ensures
    (unit_full a None c.args.g (Unit {0}) (Unit {0}) units.Inode c.args.tally.now c.in_err-begin.field-0.0 c.in_err-begin.ensures)

pub returns-in_err-found-clause-exact : goal.returns-in_err-found-clause-exact
returns-in_err-found-clause-exact g c = λ m e.
    let a = opened_state (layout c.args.geo.now) (m Image) in
    with_err {T = Unit {0}} (λ r. ChecksUnit a None c.args.g units.Inode c.args.tally.now c.args.tally.now r) c.in_err-found.field-0.0 c.from_residual-in_err-found.result c.from_residual-in_err-found.ensures
    (unit_cut a None c.args.g (Unit {0}) units.Inode c.args.tally.now c.in_err-found.field-0.0 c.in_ok-begin.ensures c.in_err-found.ensures.outside)

pub returns-clause-exact : goal.returns-clause-exact
returns-clause-exact g c = λ m e.
    unit_added (opened_state (layout c.args.geo.now) (m Image)) c.args.g units.Inode c.args.tally.now c.add_inodes.new.self c.add_inodes.result c.in_ok-found.found.judged (c.in_ok-found.ensures.exact m e) c.in_ok-begin.ensures c.add_inodes.ensures.added c.add_inodes.ensures.passed

pub returns-in_err-begin-clause-added : goal.returns-in_err-begin-clause-added
returns-in_err-begin-clause-added g c =
    with_err {T = Unit {0}} (λ r. AddsPart (IsInodePart c.args.g) c.args.tally.now c.args.tally.now r) c.in_err-begin.field-0.0 c.from_residual.result c.from_residual.ensures
    (added.unit_full c.args.g units.Inode (Unit {0}) (Unit {0}) c.args.tally.now c.in_err-begin.field-0.0 c.in_err-begin.ensures)

pub returns-in_err-found-clause-added : goal.returns-in_err-found-clause-added
returns-in_err-found-clause-added g c =
    with_err {T = Unit {0}} (λ r. AddsPart (IsInodePart c.args.g) c.args.tally.now c.args.tally.now r) c.in_err-found.field-0.0 c.from_residual-in_err-found.result c.from_residual-in_err-found.ensures
    (added.unit_cut c.args.g units.Inode (Unit {0}) c.args.tally.now c.in_err-found.field-0.0 c.in_ok-begin.ensures c.in_err-found.ensures.outside)

pub returns-clause-added : goal.returns-clause-added
returns-clause-added g c = added.unit_added c.args.g units.Inode c.in_ok-found.found.judged c.args.tally.now c.add_inodes.new.self c.add_inodes.result c.in_ok-begin.ensures c.add_inodes.ensures.added

pub returns-in_err-begin-clause-kept : goal.returns-in_err-begin-clause-kept
returns-in_err-begin-clause-kept g c =
    with_err {T = Unit {0}} (λ r. KeepsGroup (layout c.args.geo.now) (g.D.Device.content c.args.dev.now) Inodes lacks_nothing c.args.g c.args.tally.now c.args.steps.now.reads c.args.tally.now c.args.steps.now.reads r) c.in_err-begin.field-0.0 c.from_residual.result c.from_residual.ensures
    (kept.group_none (layout c.args.geo.now) (g.D.Device.content c.args.dev.now) (Unit {0}) Inodes lacks_nothing c.args.g c.args.tally.now c.args.steps.now.reads c.in_err-begin.field-0.0)

pub returns-in_err-found-clause-kept : goal.returns-in_err-found-clause-kept
returns-in_err-found-clause-kept g c =
    with_err {T = Unit {0}} (λ r. KeepsGroup (layout c.args.geo.now) (g.D.Device.content c.args.dev.now) Inodes lacks_nothing c.args.g c.args.tally.now c.args.steps.now.reads c.args.tally.now c.judge_unit.new.steps.reads r) c.in_err-found.field-0.0 c.from_residual-in_err-found.result c.from_residual-in_err-found.ensures
    (kept.inode_cut (layout c.args.geo.now) (g.D.Device.content c.args.dev.now) (Unit {0}) c.args.g c.args.tally.now c.args.steps.now.reads c.judge_unit.new.steps.reads c.in_err-found.field-0.0 c.in_ok-begin.ensures c.in_err-found.ensures.counted)

pub returns-clause-kept : goal.returns-clause-kept
returns-clause-kept g c =
    kept.inode_keeps (layout c.args.geo.now) (g.D.Device.content c.args.dev.now) c.args.g c.args.tally.now c.add_inodes.new.self c.args.steps.now.reads c.judge_unit.new.steps.reads c.add_inodes.result c.in_ok-found.found.judged c.in_ok-found.ensures.exact c.in_ok-begin.ensures c.add_inodes.ensures.added c.in_ok-found.ensures.counted

pub returns-clause-inodes : goal.returns-clause-inodes
returns-clause-inodes g c =
    on_ok_weaker c.add_inodes.result
    (λ (is : c.add_inodes.new.self.inodes.items ≡ c.args.tally.now.inodes.items ++ c.in_ok-found.found.inodes ∷ []).
    puts_one (layout c.args.geo.now) (g.D.Device.content c.args.dev.now) c.args.g c.in_ok-found.found.inodes c.args.tally.now.inodes.items c.add_inodes.new.self.inodes.items is c.in_ok-found.ensures.inside c.in_ok-found.ensures.inodes)
    c.add_inodes.ensures.kept
