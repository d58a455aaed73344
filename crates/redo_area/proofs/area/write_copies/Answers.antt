use Rattle.std.proofs.Common.{ℕ, List, ◌+◌, ◌∙◌, ap, sym, arith}
use Rattle.byte_fields.specs.declared.block.Block.{Block}
use Rattle.blk_device.specs.Contents.{map_told, put}
use Rattle.blk_device.specs.declared.device.Region.TheVariants.{Redo}
use Rattle.blk_device.proofs.Moments.{write_keeps, then_keeps}
use Rattle.blk_device.proofs.Told.{map_twice}
use Rattle.redo_area.specs.Area.{put_copies, BehindGate}
use Rattle.redo_area.proofs.ToldLemmas.{told_doubted, told_mapped, told_on}
use Rattle.redo_area.proofs.area.write_copies.Goals as goal

pub returns-in_err-write-clause-moments : goal.returns-in_err-write-clause-moments
returns-in_err-write-clause-moments g c =
    let d = g.D.Device in
    let met = g.met.D.Device in
    let s = c.loop-block in
    then_keeps d.clock d.may_have_held_since d.may_hold_now met.only_now met.counts_now BehindGate _ _ _ s.invariant.moments
    (write_keeps d.clock d.may_have_held_since d.may_hold_now met.only_now met.counts_now BehindGate Redo s.at _ _ (λ here. omega (arith, here, s.invariant.behind)) c.write.ensures.crash c.write.ensures.time)

pub loop-block-preserved : goal.loop-block-preserved
loop-block-preserved g c =
    let d = g.D.Device in
    let met = g.met.D.Device in
    let s = c.loop-block in
    let p = c.in-Some.field-0-0.now in
    let later = c.in-Some.later.now in
    let is = c.in-Some.ensures.cases.0 in
    let told = d.content s.dev in
    record {
      count = omega (arith, s.invariant.count, c.in-Some.ensures.cases.1);
      behind = omega arith;
      content = ap (map_told (put_copies later (s.at + 1))) c.in_ok-write.ensures.written
          ∙ map_twice (put_copies later (s.at + 1)) (put Redo s.at p.1.bytes) told
          ∙ ap (λ (l : List (ℕ × Block)). map_told (put_copies l s.at) told) (sym is)
          ∙ s.invariant.content;
      moments = then_keeps d.clock d.may_have_held_since d.may_hold_now met.only_now met.counts_now BehindGate _ _ _ s.invariant.moments
          (write_keeps d.clock d.may_have_held_since d.may_hold_now met.only_now met.counts_now BehindGate Redo s.at _ _ (λ here. omega (arith, here, s.invariant.behind)) c.write.ensures.crash c.write.ensures.time);
      sizes = c.write.ensures.sizes ∙ s.invariant.sizes;
      faults = c.in_ok-write.ensures.cause ∙ s.invariant.faults;
      reads = c.write.ensures.reads ∙ s.invariant.reads;
    }

pub returns-in_err-write-clause-told : goal.returns-in_err-write-clause-told
returns-in_err-write-clause-told g c =
    let d = g.D.Device in
    let s = c.loop-block in
    told_on (d.content c.args.dev.now) (d.content s.dev) (d.content c.write.new.self) (told_mapped (put_copies s.rest.now s.at) (put_copies c.args.batch.now 2) (d.content c.args.dev.now) (d.content s.dev) s.invariant.content)
    (told_doubted Redo s.at (d.content s.dev) (d.content c.write.new.self) c.write.ensures.doubt)
