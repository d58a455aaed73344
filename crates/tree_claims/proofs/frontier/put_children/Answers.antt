use Rattle.std.proofs.Common.{◌≡◌, arith}
use Rattle.sblock.specs.Area.{child_of}
use Rattle.sblock.specs.Blocks.{numrecs}
use Rattle.tree_claims.specs.Lists.{lists}
use Rattle.tree_claims.proofs.GrowLemmas.{no_item, one_item_more}
use Rattle.tree_claims.proofs.frontier.put_children.Goals as goal

pub loop-i-init : goal.loop-i-init
loop-i-init c = no_item (lists c.args.list.now.items) (child_of c.args.kind c.data_area-area.result.now)

pub loop-i-preserved : goal.loop-i-preserved
loop-i-preserved c = one_item_more (lists c.args.list.now.items) (lists c.loop-i.list.items) (lists c.put_block.new.list.items) (child_of c.args.kind c.data_area-area.result.now) c.loop-i.i c.child_at.result c.child_at.ensures c.loop-i.invariant c.in_ok-put_block.ensures.exact

pub returns-clause-exact : goal.returns-clause-exact
returns-clause-exact c =
    let all : c.loop-i.i ≡ numrecs c.args.block.now.bytes = omega (arith, c.loop-i-test.false, c.loop-i.auto.i-end, c.count_of-i-end.ensures) in
    rw (all, c.data_area-area.ensures.shows) at c.loop-i.invariant
