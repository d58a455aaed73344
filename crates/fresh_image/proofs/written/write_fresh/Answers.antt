use Rattle.std.proofs.Common.{◌∙◌}
use Rattle.blk_device.proofs.Moments.{sync_keeps, then_keeps}
use Rattle.fresh_image.specs.Written.{AllButFresh}
use Rattle.fresh_image.proofs.WrittenLemmas.{all_by, always}
use Rattle.fresh_image.proofs.written.write_fresh.Goals as goal

pub returns-clause-written : goal.returns-clause-written
returns-clause-written g c =
    let d = g.D.Device in
    always c.sync.result (all_by c.args.n c.args.len (d.content c.args.dev.now) (d.content c.sync.new.self) (c.sync.ensures.same ∙ c.in_ok-write_blocks.ensures.written))

pub returns-clause-moments : goal.returns-clause-moments
returns-clause-moments g c =
    let d = g.D.Device in
    let met = g.met.D.Device in
    then_keeps d.clock d.may_have_held_since d.may_hold_now met.only_now met.counts_now (AllButFresh c.args.n c.args.len) c.args.dev.now c.write_blocks.new.dev c.sync.new.self c.write_blocks.ensures.moments
    (sync_keeps d.clock d.may_have_held_since d.may_hold_now met.only_now met.counts_now (AllButFresh c.args.n c.args.len) c.write_blocks.new.dev c.sync.new.self c.sync.ensures.crash c.sync.ensures.time)
