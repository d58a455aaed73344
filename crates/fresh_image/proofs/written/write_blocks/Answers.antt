use Rattle.std.proofs.Common.{◌≡◌, ◌+◌, ◌*◌, ◌≤◌, suc, ℕ, ◌∙◌, ap, sym, arith, add-one}
use Rattle.blk_device.specs.Contents.{map_told}
use Rattle.blk_device.specs.declared.device.Region.TheVariants.{Image}
use Rattle.blk_device.proofs.Moments.{write_keeps, then_keeps}
use Rattle.fresh_image.specs.Written.{put_fresh, AllButFresh}
use Rattle.fresh_image.proofs.WrittenLemmas.{others_by, others_doubted, put_more}
use Rattle.fresh_image.proofs.written.write_blocks.Goals as goal

pub returns-in_err-write-clause-others : goal.returns-in_err-write-clause-others
returns-in_err-write-clause-others g c =
    let d = g.D.Device in
    let s = c.loop-at in
    others_doubted c.args.n c.args.len s.at (d.content c.args.dev.now) (d.content s.dev) (d.content c.write.new.self) (omega arith)
    (others_by c.args.n c.args.len s.at (d.content c.args.dev.now) (d.content s.dev) (omega arith) s.invariant.content) c.write.ensures.doubt

pub returns-in_err-write-clause-moments : goal.returns-in_err-write-clause-moments
returns-in_err-write-clause-moments g c =
    let d = g.D.Device in
    let met = g.met.D.Device in
    let s = c.loop-at in
    then_keeps d.clock d.may_have_held_since d.may_hold_now met.only_now met.counts_now (AllButFresh c.args.n c.args.len) _ _ _ s.invariant.moments
    (write_keeps d.clock d.may_have_held_since d.may_hold_now met.only_now met.counts_now (AllButFresh c.args.n c.args.len) Image s.at _ _ (λ out. omega (arith, out)) c.write.ensures.crash c.write.ensures.time)

pub loop-at-preserved : goal.loop-at-preserved
loop-at-preserved g c =
    let d = g.D.Device in
    let met = g.met.D.Device in
    let s = c.loop-at in
    record {
      content = rw add-one (put_more c.args.n c.args.len s.at c.fresh_block-block.result.bytes (d.content c.args.dev.now) (d.content s.dev) (d.content c.write.new.self) c.fresh_block-block.ensures c.in_ok-write.ensures.written s.invariant.content);
      moments = then_keeps d.clock d.may_have_held_since d.may_hold_now met.only_now met.counts_now (AllButFresh c.args.n c.args.len) _ _ _ s.invariant.moments
          (write_keeps d.clock d.may_have_held_since d.may_hold_now met.only_now met.counts_now (AllButFresh c.args.n c.args.len) Image s.at _ _ (λ out. omega (arith, out)) c.write.ensures.crash c.write.ensures.time);
      sizes = c.write.ensures.sizes ∙ s.invariant.sizes;
      faults = c.in_ok-write.ensures.cause ∙ s.invariant.faults;
      reads = c.write.ensures.reads ∙ s.invariant.reads;
    }

pub returns-clause-others : goal.returns-clause-others
returns-clause-others g c = others_by c.args.n c.args.len c.loop-at.at (g.D.Device.content c.args.dev.now) (g.D.Device.content c.loop-at.dev) (omega arith) c.loop-at.invariant.content
