use Rattle.std.proofs.Common.{◌+◌, refl, arith}
use Rattle.std.specs.Prelude.{slice_index}
use Rattle.bulk_load.proofs.LoadLemmas.{loaded_more, one_step}
use Rattle.bulk_load.proofs.load.load_piece.Goals as goal

pub loop-k-preserved : goal.loop-k-preserved
loop-k-preserved g c = (
  loaded_more g.K.RecKind.form c.args.list.now c.args.claimed.now c.args.frame.now c.args.from (c.args.from + c.loop-k.k) (c.args.from + (c.loop-k.k + 1)) c.try_reserve.new.self.items c.loop-k.into.items c.push_reserved.new.self.items
      (slice_index c.args.claimed.now (c.args.from + c.loop-k.k), c.load_number-block.result) c.loop-k.invariant.0 (omega arith) c.push_reserved.ensures.items refl c.load_number-block.ensures,
  omega (arith, c.push_reserved.ensures.len, c.push_reserved.ensures.capacity, c.loop-k.invariant.1, c.loop-k-test.true),
  one_step c.args.steps.now c.loop-k.steps c.block_written.new.self c.loop-k.k c.block_written.ensures c.loop-k.invariant.2,
)
