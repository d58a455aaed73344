use Rattle.std.proofs.Common.{Option, subst}
use Rattle.blk_device.specs.declared.device.Region.TheVariants.{Image}
use Rattle.dinode_core.specs.declared.mapping.ForkFault.{ForkFault}
use Rattle.geom.specs.Places.{layout}
use Rattle.fork_pass.specs.Read.{IsInodeRead}
use Rattle.fork_pass.proofs.ForkLemmas.{fault_passed, none_passed}
use Rattle.fork_pass.proofs.inode.see_allocated.Goals as goal

pub returns-in-None-clause-exact : goal.returns-in-None-clause-exact
returns-in-None-clause-exact g c = λ m e number.
    none_passed (layout c.args.geo.now) (m Image) c.args.core.now c.args.ino c.args.sets.now c.see_inode.new.sets number (subst (λ (o : Option ForkFault). IsInodeRead (layout c.args.geo.now) (m Image) c.args.core.now c.args.sets.now c.see_inode.new.sets o) c.in-None.is (c.in_ok-found.ensures.exact m e))

pub returns-in-Some-clause-exact : goal.returns-in-Some-clause-exact
returns-in-Some-clause-exact g c = λ m e number.
    fault_passed (layout c.args.geo.now) (m Image) c.args.core.now c.args.ino c.args.sets.now c.see_inode.new.sets c.in-Some.fault number (subst (λ (o : Option ForkFault). IsInodeRead (layout c.args.geo.now) (m Image) c.args.core.now c.args.sets.now c.see_inode.new.sets o) c.in-Some.is (c.in_ok-found.ensures.exact m e))
