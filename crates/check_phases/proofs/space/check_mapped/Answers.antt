use Rattle.std.proofs.Common.{◌≡◌, ◌+◌, ◌≤◌, ◌∙◌, None, Ok, ap, arith, subst}
use Rattle.blk_device.specs.ReadingLaws.{read_on}
use Rattle.blk_device.specs.declared.device.Region.TheVariants.{Image}
use Rattle.geom.specs.Places.{layout}
use Rattle.inode_pass.specs.Units.{opened_state}
use Rattle.rmap_recs.specs.Rmap.{rmap_form}
use Rattle.space_check.proofs.EventLemmas.{with_err}
use Rattle.space_check.specs.Groups.{blocks_read, tree_of}
use Rattle.space_check.specs.Reads.{IsReading, reading_of}
use Rattle.space_check.specs.declared.halt.Halt.TheVariants.{Memory}
use Rattle.tree_blocks.specs.declared.tree.TreeAt.{TreeAt}
use Rattle.check_phases.specs.Checks.{ChecksSpace}
use Rattle.check_phases.proofs.SpaceLemmas.{never_bad}
use Rattle.check_phases.proofs.UnitLemmas.{both_cut, both_full}
use Rattle.check_phases.proofs.AddedLemmas as added
use Rattle.check_phases.specs.Parts.{AddsPart, IsSpacePart}
use Rattle.check_phases.proofs.KeptToldLemmas as kept
use Rattle.check_phases.specs.Kept.{KeepsGroup}
use Rattle.check_phases.specs.Phases.{Space, lacks_nothing}
use Rattle.check_phases.proofs.space.check_mapped.Goals as goal

pub returns-in_err-begin-clause-exact : goal.returns-in_err-begin-clause-exact
returns-in_err-begin-clause-exact g c = λ m e.
    let a = opened_state (layout c.args.geo.now) (m Image) in
    with_err {T = Unit {0}} (λ r. ChecksSpace a None c.args.g c.args.tally.now c.args.tally.now r) c.in_err-begin.field-0.0 c.from_residual.result c.from_residual.ensures
    (both_full a None c.args.g (Unit {0}) (Unit {0}) c.args.tally.now c.in_err-begin.field-0.0 c.in_err-begin.ensures)

pub returns-in_err-cache-clause-exact : goal.returns-in_err-cache-clause-exact
returns-in_err-cache-clause-exact g c = λ m e.
    let a = opened_state (layout c.args.geo.now) (m Image) in
    with_err {T = Unit {0}} (λ r. ChecksSpace a None c.args.g c.args.tally.now c.args.tally.now r) _ c.from_residual-in_err-cache.result c.from_residual-in_err-cache.ensures
    (both_cut a None c.args.g (Unit {0}) c.args.tally.now _ c.in_ok-begin.ensures tt)

pub returns-in_err-mapped-clause-exact : goal.returns-in_err-mapped-clause-exact
returns-in_err-mapped-clause-exact g c = λ m e.
    let a = opened_state (layout c.args.geo.now) (m Image) in
    with_err {T = Unit {0}} (λ r. ChecksSpace a None c.args.g c.args.tally.now c.args.tally.now r) c.in_err-mapped.field-0.0 c.from_residual-in_err-mapped.result c.from_residual-in_err-mapped.ensures
    (both_cut a None c.args.g (Unit {0}) c.args.tally.now c.in_err-mapped.field-0.0 c.in_ok-begin.ensures c.in_err-mapped.ensures.outside)

pub returns-in-Whole-clause-exact : goal.returns-in-Whole-clause-exact
returns-in-Whole-clause-exact g c = λ m e.
    c.check_both.ensures.exact m (c.in_ok-mapped.ensures.reading.same ∙ e) (record {
      named = c.requires.head m e;
      mapped_is = subst (λ (t : TreeAt). IsReading (tree_of (layout c.args.geo.now) (m Image) t.group rmap_form t.root t.levels) (Ok c.in_ok-mapped.field-0)) c.rmap_tree-tree.ensures (c.in_ok-mapped.ensures.exact m e) ∙ ap reading_of c.in-Whole.is;
    })

pub returns-in-Whole-clause-reading : goal.returns-in-Whole-clause-reading
returns-in-Whole-clause-reading g c =
    read_on g.D.Device g.met.D.Device.only_now g.met.D.Device.counts_now c.args.dev.now c.read_index.new.dev c.check_both.new.dev c.args.steps.now c.read_index.new.steps c.check_both.new.steps c.in_ok-mapped.ensures.reading c.check_both.ensures.reading

pub returns-clause-exact : goal.returns-clause-exact
returns-clause-exact g c = λ m e.
    absurd (never_bad (layout c.args.geo.now) (m Image) c.args.g c.args.agf.now c.in_ok-mapped.field-0 c.in-Bad.block c.in-Bad.fault (c.requires.head m e)
    (subst (λ (t : TreeAt). IsReading (tree_of (layout c.args.geo.now) (m Image) t.group rmap_form t.root t.levels) (Ok c.in_ok-mapped.field-0)) c.rmap_tree-tree.ensures (c.in_ok-mapped.ensures.exact m e))
    c.in-Bad.is (c.requires.readable m e))

pub returns-in_err-begin-clause-added : goal.returns-in_err-begin-clause-added
returns-in_err-begin-clause-added g c =
    with_err {T = Unit {0}} (λ r. AddsPart (IsSpacePart c.args.g) c.args.tally.now c.args.tally.now r) c.in_err-begin.field-0.0 c.from_residual.result c.from_residual.ensures
    (added.space_full c.args.g (Unit {0}) (Unit {0}) c.args.tally.now c.in_err-begin.field-0.0 c.in_err-begin.ensures)

pub returns-in_err-cache-clause-added : goal.returns-in_err-cache-clause-added
returns-in_err-cache-clause-added g c =
    with_err {T = Unit {0}} (λ r. AddsPart (IsSpacePart c.args.g) c.args.tally.now c.args.tally.now r) _ c.from_residual-in_err-cache.result c.from_residual-in_err-cache.ensures
    (added.space_cut c.args.g (Unit {0}) c.args.tally.now _ c.in_ok-begin.ensures tt)

pub returns-in_err-mapped-clause-added : goal.returns-in_err-mapped-clause-added
returns-in_err-mapped-clause-added g c =
    with_err {T = Unit {0}} (λ r. AddsPart (IsSpacePart c.args.g) c.args.tally.now c.args.tally.now r) c.in_err-mapped.field-0.0 c.from_residual-in_err-mapped.result c.from_residual-in_err-mapped.ensures
    (added.space_cut c.args.g (Unit {0}) c.args.tally.now c.in_err-mapped.field-0.0 c.in_ok-begin.ensures c.in_err-mapped.ensures.outside)

pub returns-in_err-begin-clause-kept : goal.returns-in_err-begin-clause-kept
returns-in_err-begin-clause-kept g c =
    with_err {T = Unit {0}} (λ r. KeepsGroup (layout c.args.geo.now) (g.D.Device.content c.args.dev.now) Space lacks_nothing c.args.g c.args.tally.now c.args.steps.now.reads c.args.tally.now c.args.steps.now.reads r) c.in_err-begin.field-0.0 c.from_residual.result c.from_residual.ensures
    (kept.group_none (layout c.args.geo.now) (g.D.Device.content c.args.dev.now) (Unit {0}) Space lacks_nothing c.args.g c.args.tally.now c.args.steps.now.reads c.in_err-begin.field-0.0)

pub returns-in_err-cache-clause-kept : goal.returns-in_err-cache-clause-kept
returns-in_err-cache-clause-kept g c =
    with_err {T = Unit {0}} (λ r. KeepsGroup (layout c.args.geo.now) (g.D.Device.content c.args.dev.now) Space lacks_nothing c.args.g c.args.tally.now c.args.steps.now.reads c.args.tally.now c.args.steps.now.reads r) Memory c.from_residual-in_err-cache.result c.from_residual-in_err-cache.ensures
    (kept.mapped_cut (layout c.args.geo.now) (g.D.Device.content c.args.dev.now) (Unit {0}) c.args.g c.args.agf.now c.args.tally.now c.args.steps.now.reads c.args.steps.now.reads Memory c.requires.head c.in_ok-begin.ensures (λ m e. omega arith))

pub returns-in_err-mapped-clause-kept : goal.returns-in_err-mapped-clause-kept
returns-in_err-mapped-clause-kept g c =
    with_err {T = Unit {0}} (λ r. KeepsGroup (layout c.args.geo.now) (g.D.Device.content c.args.dev.now) Space lacks_nothing c.args.g c.args.tally.now c.args.steps.now.reads c.args.tally.now c.read_index.new.steps.reads r) c.in_err-mapped.field-0.0 c.from_residual-in_err-mapped.result c.from_residual-in_err-mapped.ensures
    (kept.mapped_cut (layout c.args.geo.now) (g.D.Device.content c.args.dev.now) (Unit {0}) c.args.g c.args.agf.now c.args.tally.now c.args.steps.now.reads c.read_index.new.steps.reads c.in_err-mapped.field-0.0 c.requires.head c.in_ok-begin.ensures
    (λ m e. subst (λ (t : TreeAt). c.read_index.new.steps.reads ≤ c.args.steps.now.reads + blocks_read (layout c.args.geo.now) (m Image) t.group rmap_form t.root t.levels) c.rmap_tree-tree.ensures (c.in_err-mapped.ensures.counted m e)))

pub returns-in-Whole-clause-kept : goal.returns-in-Whole-clause-kept
returns-in-Whole-clause-kept g c = λ m e.
    let counted = subst (λ (t : TreeAt). c.read_index.new.steps.reads ≡ c.args.steps.now.reads + blocks_read (layout c.args.geo.now) (m Image) t.group rmap_form t.root t.levels) c.rmap_tree-tree.ensures (c.in_ok-mapped.ensures.counted m e) in
    c.check_both.ensures.kept m (c.in_ok-mapped.ensures.reading.same ∙ e) (record {
      named = c.requires.head m e;
      mapped_is = subst (λ (t : TreeAt). IsReading (tree_of (layout c.args.geo.now) (m Image) t.group rmap_form t.root t.levels) (Ok c.in_ok-mapped.field-0)) c.rmap_tree-tree.ensures (c.in_ok-mapped.ensures.exact m e) ∙ ap reading_of c.in-Whole.is;
    }) c.args.steps.now.reads (omega (arith, counted))

pub returns-clause-kept : goal.returns-clause-kept
returns-clause-kept g c = λ m e.
    absurd (never_bad (layout c.args.geo.now) (m Image) c.args.g c.args.agf.now c.in_ok-mapped.field-0 c.in-Bad.block c.in-Bad.fault (c.requires.head m e)
    (subst (λ (t : TreeAt). IsReading (tree_of (layout c.args.geo.now) (m Image) t.group rmap_form t.root t.levels) (Ok c.in_ok-mapped.field-0)) c.rmap_tree-tree.ensures (c.in_ok-mapped.ensures.exact m e))
    c.in-Bad.is (c.requires.readable m e))

pub returns-clause-added : goal.returns-clause-added
returns-clause-added g c = added.as_given_up c.args.g c.in-Bad.block c.args.tally.now c.give_up_both.new.tally c.give_up_both.result c.give_up_both.ensures.added
