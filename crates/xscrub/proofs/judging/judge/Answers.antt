use Rattle.std.proofs.Common.{IfErr}
use Rattle.blk_device.specs.Reading.{EachBlock}
use Rattle.blk_device.specs.ReadingLaws.{cause_on, keeps_on, keeps_self}
use Rattle.blk_device.specs.declared.device.Region.TheVariants.{Image}
use Rattle.geom.specs.Places.{layout}
use Rattle.geom.specs.declared.fault.ImageFault.TheVariants.{DeviceShort}
use Rattle.xscrub.specs.declared.last_lines.LastLine.TheVariants as lines
use Rattle.xscrub.specs.Judged.{HasFrontOf, JudgeCause, ReadsForImage, is_device, journal_at}
use Rattle.xscrub.specs.Units.{HasFirstUnits}
use Rattle.xscrub.specs.declared.judging.Judgement.{Judgement}
use Rattle.xscrub.proofs.JudgedLemmas.{if_ok, if_err, err_with, judged_short, judged_bad, judged_groups, front_none, front_groups, kept_bad, kept_first, kept_groups, kept_short, units_none}
use Rattle.xscrub.proofs.judging.judge.Goals as goal

pub returns-then-blocks-eq0-clause-told : goal.returns-then-blocks-eq0-clause-told
returns-then-blocks-eq0-clause-told g c = judged_short _ _ c.size-blocks.result c.size-blocks.ensures c.if-blocks-eq0.true

pub returns-then-blocks-eq0-clause-kept : goal.returns-then-blocks-eq0-clause-kept
returns-then-blocks-eq0-clause-kept g c =
    kept_short (g.D.Device.content c.args.dev.now) (g.D.Device.blocks c.args.dev.now Image) (lines.Image DeviceShort) (g.D.Device.reads c.args.dev.now)

pub returns-then-blocks-eq0-clause-crash : goal.returns-then-blocks-eq0-clause-crash
returns-then-blocks-eq0-clause-crash g c = keeps_self g.D.Device g.met.D.Device.only_now g.met.D.Device.counts_now EachBlock c.args.dev.now

pub returns-in_err-first-clause-front : goal.returns-in_err-first-clause-front
returns-in_err-first-clause-front g c =
    err_with {T = Judgement} (λ r. IfErr r (HasFrontOf (g.D.Device.content c.args.dev.now) (g.D.Device.blocks c.args.dev.now Image))) c.in_err-first.field-0.0 c.from_residual.result c.from_residual.ensures
    (front_none (g.D.Device.content c.args.dev.now) (g.D.Device.blocks c.args.dev.now Image) c.in_err-first.field-0.0 c.in_err-first.ensures.none)

pub returns-in_err-first-clause-kept : goal.returns-in_err-first-clause-kept
returns-in_err-first-clause-kept g c =
    err_with {T = Judgement} (λ r. ReadsForImage (g.D.Device.content c.args.dev.now) (g.D.Device.blocks c.args.dev.now Image) (g.D.Device.reads c.args.dev.now) (g.D.Device.reads c.first_block.new.dev) r) c.in_err-first.field-0.0 c.from_residual.result c.from_residual.ensures
    (kept_first (g.D.Device.content c.args.dev.now) (g.D.Device.blocks c.args.dev.now Image) c.in_err-first.field-0.0 (g.D.Device.reads c.args.dev.now) (g.D.Device.reads c.first_block.new.dev) c.in_err-first.ensures.none c.in_err-first.ensures.one)

pub returns-in_err-first-clause-units : goal.returns-in_err-first-clause-units
returns-in_err-first-clause-units g c =
    err_with {T = Judgement} (λ r. IfErr r (λ fault. HasFirstUnits (journal_at fault))) c.in_err-first.field-0.0 c.from_residual.result c.from_residual.ensures (units_none c.in_err-first.field-0.0 c.in_err-first.ensures.none)

pub returns-in_err-first-clause-cause : goal.returns-in_err-first-clause-cause
returns-in_err-first-clause-cause g c =
    err_with {T = Judgement} (λ r. JudgeCause (g.D.Device.faults c.args.dev.now) (g.D.Device.faults c.first_block.new.dev) r) c.in_err-first.field-0.0 c.from_residual.result c.from_residual.ensures c.in_err-first.ensures.cause

pub returns-in-Err-clause-told : goal.returns-in-Err-clause-told
returns-in-Err-clause-told g c = judged_bad _ _ c.size-blocks.result c.in_ok-first.first.bytes c.in-Err.fault c.size-blocks.ensures c.in_ok-first.ensures.bytes c.in-Err.ensures.exact

pub returns-in-Err-clause-kept : goal.returns-in-Err-clause-kept
returns-in-Err-clause-kept g c =
    kept_bad (g.D.Device.content c.args.dev.now) (g.D.Device.blocks c.args.dev.now Image) (lines.Image c.in-Err.fault) (g.D.Device.reads c.args.dev.now) (g.D.Device.reads c.first_block.new.dev) c.in_ok-first.ensures.one

pub returns-clause-told : goal.returns-clause-told
returns-clause-told g c =
    let good = c.in-Ok.ensures.exact in
    if_ok c.judge_groups.result _ _ (rw c.in_ok-first.ensures.same at c.judge_groups.ensures.told)
    (λ found groups. judged_groups _ _ c.size-blocks.result c.in_ok-first.first.bytes (layout c.in-Ok.geo) found c.size-blocks.ensures c.in_ok-first.ensures.bytes good.0 good.1 groups)

pub returns-clause-front : goal.returns-clause-front
returns-clause-front g c =
    let good = c.in-Ok.ensures.exact in
    if_err c.judge_groups.result _ _ (rw c.in_ok-first.ensures.same at c.judge_groups.ensures.front)
    (λ fault front. front_groups _ _ c.size-blocks.result c.in_ok-first.first.bytes (layout c.in-Ok.geo) fault c.size-blocks.ensures c.in_ok-first.ensures.bytes good.0 good.1 front)

pub returns-clause-kept : goal.returns-clause-kept
returns-clause-kept g c =
    let good = c.in-Ok.ensures.exact in
    kept_groups _ _ c.size-blocks.result c.in_ok-first.first.bytes (layout c.in-Ok.geo) c.judge_groups.result _ _ _ c.size-blocks.ensures c.in_ok-first.ensures.bytes good.0 good.1 c.in_ok-first.ensures.one
    (rw c.in_ok-first.ensures.same at c.judge_groups.ensures.kept)

pub returns-clause-crash : goal.returns-clause-crash
returns-clause-crash g c =
    keeps_on g.D.Device g.met.D.Device.only_now g.met.D.Device.counts_now EachBlock c.args.dev.now c.first_block.new.dev c.judge_groups.new.dev c.first_block.ensures.crash c.judge_groups.ensures.crash

pub returns-clause-cause : goal.returns-clause-cause
returns-clause-cause g c =
    cause_on is_device (g.D.Device.faults c.args.dev.now) (g.D.Device.faults c.first_block.new.dev) (g.D.Device.faults c.judge_groups.new.dev) c.judge_groups.result c.in_ok-first.ensures.cause c.judge_groups.ensures.cause
