use Rattle.std.proofs.Common.{reverse, subst, ◌∙◌}
use Rattle.blk_device.specs.Recorded.{left_now}
use Rattle.blk_device.specs.Stored.{with_stored}
use Rattle.blk_device.specs.declared.record.Record.{Record}
use Rattle.blk_device.proofs.ReplayLemmas.{left_may}
use Rattle.blk_device.proofs.memory.MemDevice.crash_by.Goals as goal

pub returns-in_err-log-clause-may : goal.returns-in_err-log-clause-may
returns-in_err-log-clause-may c = left_may c.args.choices.now (with_stored c.args.self.now.log.base) (reverse c.args.self.now.log.calls.items)

pub returns-clause-may : goal.returns-clause-may
returns-clause-may c = left_may c.args.choices.now (with_stored c.args.self.now.log.base) (reverse c.args.self.now.log.calls.items)

pub returns-clause-quiet : goal.returns-clause-quiet
returns-clause-quiet c = λ x held. c.in_ok-log.ensures.quiet x (subst (λ (r : Record). left_now r x) c.over.ensures.log held) ∙ c.in_ok-log.ensures.content
