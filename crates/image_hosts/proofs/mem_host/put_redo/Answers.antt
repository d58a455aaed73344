use Rattle.std.proofs.Common.{add-one, arith, ◌∙◌}
use Rattle.blk_device.specs.Stored.{stored}
use Rattle.blk_device.specs.contracts.memory.MemDeviceDevice.TheImpl.{ghosts}
use Rattle.image_hosts.proofs.RedoFileLemmas.{next_call, put_more}
use Rattle.image_hosts.proofs.mem_host.put_redo.Goals as goal

pub loop-at-preserved : goal.loop-at-preserved
loop-at-preserved c =
    let s = c.loop-at in
    record {
      content = rw add-one (put_more (stored c.args.redo.now.blocks) s.at c.block_of-block.result.bytes (ghosts.content c.args.dev.now) (ghosts.content s.dev) (ghosts.content c.write.new.self) c.block_of-block.ensures c.in_ok-write.ensures.written s.invariant.content);
      sizes = c.write.ensures.sizes ∙ s.invariant.sizes;
      faults = c.in_ok-write.ensures.cause ∙ s.invariant.faults;
      failing = c.write.ensures.asked.1 ∙ s.invariant.failing;
      asked = next_call s.at c.args.redo.now.size _ _ c.loop-at-test.true (omega arith) s.invariant.asked c.write.ensures.asked.0;
    }
