use Rattle.core_edit.proofs.UnitLemmas.{edits_on, group_after, ready_after}
use Rattle.core_edit.proofs.reap.reap_alone.Goals as goal

pub free_run-requires-clause-ready : goal.free_run-requires-clause-ready
free_run-requires-clause-ready g c =
    let met = g.met.D.Device in
    ready_after g.D.Device c.args.store.now c.cut_run.new.store c.args.steps.now c.cut_run.new.steps c.requires.ready (c.cut_run.ensures.edits)

pub free_run-requires-clause-group : goal.free_run-requires-clause-group
free_run-requires-clause-group g c =
    let met = g.met.D.Device in
    group_after g.D.Device c.args.place.now.group c.args.store.now c.cut_run.new.store c.args.steps.now c.cut_run.new.steps (c.cut_run.ensures.edits) c.requires.group

pub returns-in_err-space-clause-edits : goal.returns-in_err-space-clause-edits
returns-in_err-space-clause-edits g c =
    let met = g.met.D.Device in
    edits_on g.D.Device met.only_now met.counts_now c.args.store.now c.cut_run.new.store c.free_run.new.store c.args.steps.now c.cut_run.new.steps c.free_run.new.steps (c.cut_run.ensures.edits) (c.free_run.ensures.edits)

pub returns-clause-edits : goal.returns-clause-edits
returns-clause-edits g c =
    let met = g.met.D.Device in
    edits_on g.D.Device met.only_now met.counts_now c.args.store.now c.cut_run.new.store c.free_run.new.store c.args.steps.now c.cut_run.new.steps c.free_run.new.steps (c.cut_run.ensures.edits) (c.free_run.ensures.edits)
