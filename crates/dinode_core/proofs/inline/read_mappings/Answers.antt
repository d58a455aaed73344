use Rattle.std.proofs.Common.{arith}
use Rattle.dinode_core.proofs.InlineLemmas.{one_more, none_left}
use Rattle.dinode_core.proofs.inline.read_mappings.Goals as goal

pub loop-left-preserved : goal.loop-left-preserved
loop-left-preserved c =
    let pushed = c.in_ok-push.ensures.items in
    let back = c.split_at.ensures.back in
    let unpacked = c.unpack_front.ensures.exact in
    record {
      room = omega arith;
      all = rw (pushed, unpacked, back) (one_more c.loop-left.into.items c.loop-left.left c.loop-left.rest.now c.args.area.now c.args.count c.loop-left-test.true c.loop-left.invariant.all);
    }

pub returns : goal.returns
returns c = none_left c.loop-left.into.items c.loop-left.left c.loop-left.rest.now c.args.area.now c.args.count (omega arith) c.loop-left.invariant.all
