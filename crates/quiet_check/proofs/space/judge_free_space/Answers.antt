use Rattle.std.proofs.Common.{ℕ, ◌∙◌, subst, sym, Ok}
use Rattle.blk_device.specs.ReadingLaws.{read_on}
use Rattle.blk_device.specs.declared.device.Region.TheVariants.{Image}
use Rattle.derive_defs.specs.Mappings.{EndWithin}
use Rattle.derive_defs.proofs.ConditionLemmas.{starts_rise, end_within}
use Rattle.geom.specs.Places.{layout}
use Rattle.space_check.specs.Groups.{tree_of}
use Rattle.space_check.specs.Reads.{IsReading}
use Rattle.span_recs.specs.Spans.{bno_form, cnt_form}
use Rattle.tree_blocks.specs.declared.tree.TreeAt.{TreeAt}
use Rattle.tree_defs.specs.Sites.{bounds_of}
use Rattle.quiet_check.proofs.SpaceLemmas.{free_judged}
use Rattle.quiet_check.specs.Space.{IsFreeDecided}
use Rattle.quiet_check.proofs.space.judge_free_space.Goals as goal

pub judge_free_trees-requires-clause-rising : goal.judge_free_trees-requires-clause-rising
judge_free_trees-requires-clause-rising g c = starts_rise c.args.mapped.now.recs.items c.requires.sound.rising

pub judge_free_trees-requires-clause-within : goal.judge_free_trees-requires-clause-within
judge_free_trees-requires-clause-within g c =
    subst (λ (n : ℕ). EndWithin n c.args.mapped.now.recs.items) (sym c.group_len.ensures) (end_within (bounds_of (layout c.args.geo.now) c.args.g) c.args.mapped.now.recs.items c.requires.sound.inside)

pub returns-in_err-cnt-clause-reading : goal.returns-in_err-cnt-clause-reading
returns-in_err-cnt-clause-reading g c =
    read_on g.D.Device g.met.D.Device.only_now g.met.D.Device.counts_now c.args.dev.now c.read_index.new.dev c.read_index-2.new.dev c.args.steps.now c.read_index.new.steps c.read_index-2.new.steps c.read_index.ensures.reading c.read_index-2.ensures.reading

pub returns-in_err-judged-clause-reading : goal.returns-in_err-judged-clause-reading
returns-in_err-judged-clause-reading g c =
    read_on g.D.Device g.met.D.Device.only_now g.met.D.Device.counts_now c.args.dev.now c.read_index.new.dev c.read_index-2.new.dev c.args.steps.now c.read_index.new.steps c.read_index-2.new.steps c.read_index.ensures.reading c.read_index-2.ensures.reading

pub returns-clause-exact : goal.returns-clause-exact
returns-clause-exact g c m e is =
    free_judged (layout c.args.geo.now) (m Image) c.args.g c.args.agf.now c.args.mapped.now c.args.geo.now.fitting is c.in_ok-bno.bno c.in_ok-cnt.cnt c.in_ok-judged.judged
    (subst (λ (t : TreeAt). IsReading (tree_of (layout c.args.geo.now) (m Image) t.group bno_form t.root t.levels) (Ok c.in_ok-bno.bno)) c.bno_tree-by_start.ensures (c.in_ok-bno.ensures.exact m e))
    (subst (λ (t : TreeAt). IsReading (tree_of (layout c.args.geo.now) (m Image) t.group cnt_form t.root t.levels) (Ok c.in_ok-cnt.cnt)) c.cnt_tree-by_count.ensures (c.in_ok-cnt.ensures.exact m (c.in_ok-bno.ensures.reading.same ∙ e)))
    (subst (λ (n : ℕ). IsFreeDecided n c.args.agf.now c.args.mapped.now c.in_ok-bno.bno c.in_ok-cnt.cnt c.in_ok-judged.judged) c.group_len.ensures c.in_ok-judged.ensures)

pub returns-clause-reading : goal.returns-clause-reading
returns-clause-reading g c =
    read_on g.D.Device g.met.D.Device.only_now g.met.D.Device.counts_now c.args.dev.now c.read_index.new.dev c.read_index-2.new.dev c.args.steps.now c.read_index.new.steps c.read_index-2.new.steps c.read_index.ensures.reading c.read_index-2.ensures.reading
