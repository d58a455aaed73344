use Rattle.std.proofs.Common.{List, ℕ, subst}
use Rattle.blk_device.specs.declared.device.Region.TheVariants.{Image}
use Rattle.dinode_core.specs.declared.mapping.Fork.TheVariants as forks
use Rattle.geom.specs.Places.{layout}
use Rattle.fork_pass.specs.Pieces.{block_pieces}
use Rattle.fork_pass.specs.Read.{IsForkRead}
use Rattle.fork_pass.specs.Sets.{Adds}
use Rattle.fork_pass.specs.declared.fork.ForkRead.{ForkRead}
use Rattle.fork_pass.proofs.ForkLemmas.{rest_bad, rest_read}
use Rattle.fork_pass.proofs.inode.see_rest.Goals as goal

pub returns-in-Bad-clause-exact : goal.returns-in-Bad-clause-exact
returns-in-Bad-clause-exact g c = λ m e.
    rest_bad (layout c.args.geo.now) (m Image) c.args.core.now c.args.sets.now c.see_fork.new.sets c.args.blocks.now c.in-Bad.fault (subst (λ (r : ForkRead). IsForkRead (layout c.args.geo.now) (m Image) c.args.core.now forks.Attr c.args.sets.now c.see_fork.new.sets r) c.in-Bad.is (c.in_ok-attr.ensures.exact m e))

pub returns-clause-exact : goal.returns-clause-exact
returns-clause-exact g c = λ m e.
    let good = subst (λ (r : ForkRead). IsForkRead (layout c.args.geo.now) (m Image) c.args.core.now forks.Attr c.args.sets.now c.see_fork.new.sets r) c.in-Blocks.is (c.in_ok-attr.ensures.exact m e) in
    let fourth = subst (λ (bs : List ℕ). Adds c.put_blocks.new.sets c.put_blocks-2.new.sets (block_pieces (layout c.args.geo.now) forks.Attr c.args.core.now.ino bs)) c.as_slice.ensures.value c.in_ok-put_blocks-2.ensures.put in
    rest_read (layout c.args.geo.now) (m Image) c.args.core.now c.args.sets.now c.see_fork.new.sets c.put_blocks.new.sets c.put_blocks-2.new.sets c.args.blocks.now c.in-Blocks.own.items good c.in_ok-put_blocks.ensures.put fourth
