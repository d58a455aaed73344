use Rattle.std.proofs.Common.{ℕ, arith, ◌∙◌, ap}
use Rattle.blk_device.specs.Recorded.{seen}
use Rattle.blk_device.specs.declared.device.Region.{Region}
use Rattle.blk_device.specs.declared.device.Region.TheVariants.{Redo}
use Rattle.image_hosts.proofs.DueLemmas.{put_next, same_seen}
use Rattle.image_hosts.proofs.mem_host.redo_read.Goals as goal

pub loop-at-preserved : goal.loop-at-preserved
loop-at-preserved c =
    let s = c.loop-at in
    record {
      content = c.redo_block.ensures.same ∙ s.invariant.content;
      sizes = c.redo_block.ensures.sizes ∙ s.invariant.sizes;
      held = put_next s.held c.insert.new.self s.at c.in-Ok.block (seen c.args.dev.now.log Redo) c.in-Ok-insert.ensures.updates (same_seen _ (seen s.dev.log) (seen c.args.dev.now.log) Redo s.at s.invariant.content c.in-Ok.ensures.bytes) s.invariant.held;
    }

pub redo_block-requires : goal.redo_block-requires
redo_block-requires c = let same = ap (λ (f : Region → ℕ). f Redo) c.loop-at.invariant.sizes in omega (arith, c.loop-at-test.true, c.size-count.ensures, same)
