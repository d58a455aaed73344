use Rattle.std.proofs.Common.{List, ℕ, sym, subst, ◌∙◌, arith}
use Rattle.std.proofs.lemmas.Result.{IfOk-weaker}
use Rattle.blk_device.specs.ReadingLaws.{cause_on, read_on}
use Rattle.blk_device.specs.declared.device.Region.TheVariants.{Image}
use Rattle.dinode_core.specs.declared.mapping.Fork.TheVariants as forks
use Rattle.geom.specs.Places.{layout}
use Rattle.inode_pass.specs.Stops.{is_failed}
use Rattle.fork_pass.specs.Read.{IsForkRead, IsGood}
use Rattle.fork_pass.specs.declared.fork.ForkRead.{ForkRead}
use Rattle.fork_pass.proofs.ForkLemmas.{data_bad, inode_read}
use Rattle.fork_pass.proofs.inode.see_inode.Goals as goal

pub returns-in-Bad-clause-exact : goal.returns-in-Bad-clause-exact
returns-in-Bad-clause-exact g c = λ m e.
    data_bad (layout c.args.geo.now) (m Image) c.args.core.now c.args.sets.now c.see_fork.new.sets c.in-Bad.fault (subst (λ (r : ForkRead). IsForkRead (layout c.args.geo.now) (m Image) c.args.core.now forks.Data c.args.sets.now c.see_fork.new.sets r) c.in-Bad.is (c.in_ok-data.ensures.exact m e))

pub returns-in-Blocks-clause-exact : goal.returns-in-Blocks-clause-exact
returns-in-Blocks-clause-exact g c =
    IfOk-weaker c.see_rest.result _ _ (λ found h m e.
    let good = subst (λ (r : ForkRead). IsForkRead (layout c.args.geo.now) (m Image) c.args.core.now forks.Data c.args.sets.now c.see_fork.new.sets r) c.in-Blocks.is (c.in_ok-data.ensures.exact m e) in
    let same = subst (λ (bs : List ℕ). IsGood (layout c.args.geo.now) (m Image) c.args.core.now forks.Data c.args.sets.now c.see_fork.new.sets bs) (sym c.as_slice.ensures.value) good in
    inode_read (layout c.args.geo.now) (m Image) c.args.core.now c.args.sets.now c.see_fork.new.sets c.see_rest.new.sets c.as_slice.result.now found same (h m (c.see_fork.ensures.reading.same ∙ e))) c.see_rest.ensures.exact

pub returns-in-Blocks-clause-reading : goal.returns-in-Blocks-clause-reading
returns-in-Blocks-clause-reading g c =
    read_on g.D.Device g.met.D.Device.only_now g.met.D.Device.counts_now c.args.dev.now c.see_fork.new.dev c.see_rest.new.dev c.args.steps.now c.see_fork.new.steps c.see_rest.new.steps c.see_fork.ensures.reading c.see_rest.ensures.reading

pub returns-in-Blocks-clause-cause : goal.returns-in-Blocks-clause-cause
returns-in-Blocks-clause-cause g c =
    cause_on is_failed (g.D.Device.faults c.args.dev.now) (g.D.Device.faults c.see_fork.new.dev) (g.D.Device.faults c.see_rest.new.dev) c.see_rest.result c.in_ok-data.ensures.cause c.see_rest.ensures.cause

pub returns-in_err-data-clause-each : goal.returns-in_err-data-clause-each
returns-in_err-data-clause-each g c = λ m e. omega (arith, c.see_fork.ensures.each m e)

pub returns-in-Bad-clause-each : goal.returns-in-Bad-clause-each
returns-in-Bad-clause-each g c = λ m e. omega (arith, c.see_fork.ensures.each m e)

pub returns-in-Blocks-clause-each : goal.returns-in-Blocks-clause-each
returns-in-Blocks-clause-each g c = λ m e. omega (arith, c.see_fork.ensures.each m e, c.see_rest.ensures.each m (c.see_fork.ensures.reading.same ∙ e))
