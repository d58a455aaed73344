use Rattle.std.proofs.Common.{◌∙◌, arith}
use Rattle.blk_device.specs.ReadingLaws.{read_on}
use Rattle.blk_device.specs.declared.device.Region.TheVariants.{Image}
use Rattle.fs_model.specs.declared.unit.Unit.TheVariants.{Inode}
use Rattle.geom.specs.Places.{layout}
use Rattle.group_trees.proofs.HeadLemmas.{answered}
use Rattle.group_trees.specs.declared.accept.HeadsStop.{HeadsStop}
use Rattle.inode_pass.specs.Units.{opened_state}
use Rattle.space_check.specs.Progress.{Adds}
use Rattle.quiet_check.specs.Entries.{entries_of}
use Rattle.quiet_check.proofs.EntryLemmas.{inodes_added}
use Rattle.quiet_check.proofs.inodes.check_inodes.Goals as goal

pub returns-in_err-judged-clause-reading : goal.returns-in_err-judged-clause-reading
returns-in_err-judged-clause-reading g c =
    read_on g.D.Device g.met.D.Device.only_now g.met.D.Device.counts_now c.args.dev.now c.read_heads.new.dev c.judge_by.new.dev c.args.steps.now c.read_heads.new.steps c.judge_by.new.steps c.in_ok-heads.ensures.reading c.in_err-judged.ensures.reading

pub returns-in_err-map_err-clause-reading : goal.returns-in_err-map_err-clause-reading
returns-in_err-map_err-clause-reading g c =
    read_on g.D.Device g.met.D.Device.only_now g.met.D.Device.counts_now c.args.dev.now c.read_heads.new.dev c.judge_by.new.dev c.args.steps.now c.read_heads.new.steps c.judge_by.new.steps c.in_ok-heads.ensures.reading c.in_ok-judged.ensures.reading

pub returns-clause-reading : goal.returns-clause-reading
returns-clause-reading g c =
    read_on g.D.Device g.met.D.Device.only_now g.met.D.Device.counts_now c.args.dev.now c.read_heads.new.dev c.judge_by.new.dev c.args.steps.now c.read_heads.new.steps c.judge_by.new.steps c.in_ok-heads.ensures.reading c.in_ok-judged.ensures.reading

pub returns-clause-exact : goal.returns-clause-exact
returns-clause-exact g c = λ m e past.
    let added = answered HeadsStop (Adds c.new-journal.result.entries.items (entries_of c.args.g Inode c.in_ok-judged.judged) c.add_judged.new.journal.entries.items) c.add_judged.result tt c.in_ok-map_err.ensures.cases c.add_judged.ensures in
    inodes_added (opened_state (layout c.args.geo.now) (m Image)) past c.args.g c.in_ok-judged.judged c.new-journal.result.entries.items c.add_judged.new.journal.entries.items c.new-journal.ensures added (c.in_ok-judged.ensures.exact m (c.in_ok-heads.ensures.reading.same ∙ e))

pub returns-in_err-judged-clause-counted : goal.returns-in_err-judged-clause-counted
returns-in_err-judged-clause-counted g c = λ m e.
    let one = c.in_ok-heads.ensures.one in
    let read = c.in_err-judged.ensures.counted m (c.in_ok-heads.ensures.reading.same ∙ e) in
    omega (arith, one, read)

pub returns-in_err-map_err-clause-counted : goal.returns-in_err-map_err-clause-counted
returns-in_err-map_err-clause-counted g c = λ m e.
    let one = c.in_ok-heads.ensures.one in
    let read = c.in_ok-judged.ensures.counted m (c.in_ok-heads.ensures.reading.same ∙ e) in
    omega (arith, one, read)

pub returns-clause-counted : goal.returns-clause-counted
returns-clause-counted g c = λ m e.
    let one = c.in_ok-heads.ensures.one in
    let read = c.in_ok-judged.ensures.counted m (c.in_ok-heads.ensures.reading.same ∙ e) in
    omega (arith, one, read)
