use Rattle.std.proofs.Common.{arith}
use Rattle.std.proofs.lemmas.Result.{IfOk-weaker}
use Rattle.blk_device.specs.ReadingLaws.{nothing_read}
use Rattle.blk_device.specs.declared.device.Region.TheVariants.{Image}
use Rattle.fork_pass.proofs.InlineLemmas.{memory_cause}
use Rattle.fork_pass.proofs.fork.see_fork.Goals as goal

pub returns-clause-exact : goal.returns-clause-exact
returns-clause-exact g c = IfOk-weaker c.see_inline.result _ _ (λ read h m e. h (m Image)) c.see_inline.ensures.exact

pub returns-clause-each : goal.returns-clause-each
returns-clause-each g c = λ m e. omega arith

pub returns-clause-reading : goal.returns-clause-reading
returns-clause-reading g c = nothing_read g.D.Device g.met.D.Device.only_now g.met.D.Device.counts_now c.args.dev.now c.args.steps.now

pub returns-clause-cause : goal.returns-clause-cause
returns-clause-cause g c = memory_cause (g.D.Device.faults c.args.dev.now) c.see_inline.result c.see_inline.ensures.memory
