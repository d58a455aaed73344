use Rattle.std.proofs.Common.{◌∙◌, ap, arith}
use Rattle.std.proofs.lemmas.Result.{err_from_is_err_and}
use Rattle.blk_device.specs.ReadingLaws.{read_on}
use Rattle.blk_device.specs.declared.device.Region.TheVariants.{Image}
use Rattle.geom.specs.Places.{layout}
use Rattle.dinode_core.specs.declared.inode.Core3.{Core3}
use Rattle.fork_read.specs.First.{most_met}
use Rattle.fork_read.proofs.EachLemmas.{core_first, core_refused}
use Rattle.fork_read.proofs.first.first_fault.Goals as goal

pub returns-in_err-core-clause-exact : goal.returns-in_err-core-clause-exact
returns-in_err-core-clause-exact g c = λ m e. let p = err_from_is_err_and c.from_residual.result c.from_residual.ensures.1 in rw (p.1, p.2) (core_refused (layout c.args.geo.now) (m Image) c.args.ino c.args.fork c.in_err-core.field-0.0 (c.in_err-core.ensures.core m e))

pub returns-in_err-core-clause-each : goal.returns-in_err-core-clause-each
returns-in_err-core-clause-each g c = λ m e. omega (arith, c.load_core.ensures.one)

pub returns-clause-exact : goal.returns-clause-exact
returns-clause-exact g c = λ m e.
    let core = c.in_ok-core.ensures.core m e in
    core_first (layout c.args.geo.now) (m Image) c.args.ino c.args.fork c.in_ok-core.core c.first_fault_of_core.result core.0 core.1 (c.first_fault_of_core.ensures.exact m (c.load_core.ensures.reading.same ∙ e))

pub returns-clause-each : goal.returns-clause-each
returns-clause-each g c = λ m e.
    let core = c.in_ok-core.ensures.core m e in
    let few = c.first_fault_of_core.ensures.each m (c.load_core.ensures.reading.same ∙ e) in
    let same = ap (λ (x : Core3). most_met (layout c.args.geo.now) (m Image) x c.args.fork) core.1 in
    omega (arith, c.load_core.ensures.one, few, same)

pub returns-clause-reading : goal.returns-clause-reading
returns-clause-reading g c =
    read_on g.D.Device g.met.D.Device.only_now g.met.D.Device.counts_now c.args.dev.now c.load_core.new.dev c.first_fault_of_core.new.dev c.args.steps.now c.load_core.new.steps c.first_fault_of_core.new.steps c.load_core.ensures.reading c.first_fault_of_core.ensures.reading
