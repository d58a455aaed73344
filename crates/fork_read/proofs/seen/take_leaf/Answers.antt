use Rattle.std.proofs.Common.{◌≡◌, drop, map, arith}
use Rattle.dinode_core.specs.Packed.{unpacked}
use Rattle.dinode_core.specs.ForkTree.{leaf_mappings}
use Rattle.fork_read.specs.Walk.{block_of, last_in}
use Rattle.fork_read.proofs.LeafLemmas.{given_grows, none_left, one_more}
use Rattle.std.specs.Prelude.{◌++◌}
use Rattle.fork_read.proofs.seen.take_leaf.Goals as goal

pub loop-left-preserved : goal.loop-left-preserved
loop-left-preserved c =
    let tail : c.split_at-in-loop-left.result.1.now ≡ drop 16 c.loop-left.rest.now = c.split_at-in-loop-left.ensures.back in
    let here : c.mapping_at.result ≡ unpacked c.loop-left.rest.now = c.mapping_at.ensures.exact in
    record {
      goes_on = rw (c.in_ok-push.ensures.items, tail, here) (one_more c.loop-left.seen.mappings.items (c.args.seen.now.mappings.items ++ leaf_mappings c.args.block.now.bytes) c.loop-left.left c.loop-left.rest.now c.loop-left-test.true c.loop-left.invariant.goes_on);
      room = omega (arith, c.split_at-in-loop-left.ensures.back_len, c.loop-left.invariant.room);
      blocks = c.loop-left.invariant.blocks;
      lasts = c.loop-left.invariant.lasts;
    }

pub returns-clause-trail : goal.returns-clause-trail
returns-clause-trail c =
    let whole = none_left c.loop-left.seen.mappings.items (c.args.seen.now.mappings.items ++ leaf_mappings c.args.block.now.bytes) c.loop-left.left c.loop-left.rest.now (omega (arith, c.loop-left-test.false)) c.loop-left.invariant.goes_on in
    λ i. record { mappings = whole i; blocks = map block_of (c.loop-left.invariant.blocks i); last = last_in (c.loop-left.invariant.lasts i) }

pub returns-clause-few : goal.returns-clause-few
returns-clause-few c =
    let whole = none_left c.loop-left.seen.mappings.items (c.args.seen.now.mappings.items ++ leaf_mappings c.args.block.now.bytes) c.loop-left.left c.loop-left.rest.now (omega (arith, c.loop-left-test.false)) c.loop-left.invariant.goes_on in
    λ from. given_grows from c.args.seen.now.mappings.items c.loop-left.seen.mappings.items c.args.block.now.bytes c.requires whole
