use Rattle.core_edit.proofs.UnitLemmas.{edits_on, group_after, keeps_after, ready_after}
use Rattle.core_edit.proofs.reserve.reserve_listed.Goals as goal

pub take_listed-requires-clause-ready : goal.take_listed-requires-clause-ready
take_listed-requires-clause-ready g c =
    let met = g.met.D.Device in
    ready_after g.D.Device c.args.store.now c.begin.new.store c.args.steps.now c.begin.new.steps c.requires.ready (c.begin.ensures.edits)

pub follow_listed-requires-clause-ready : goal.follow_listed-requires-clause-ready
follow_listed-requires-clause-ready g c =
    let met = g.met.D.Device in
    ready_after g.D.Device c.args.store.now c.take_listed.new.store c.args.steps.now c.begin.new.steps c.requires.ready (edits_on g.D.Device met.only_now met.counts_now c.args.store.now c.begin.new.store c.take_listed.new.store c.args.steps.now c.begin.new.steps c.begin.new.steps (c.begin.ensures.edits) (c.take_listed.ensures.edits c.begin.new.steps))

pub follow_listed-requires-clause-group : goal.follow_listed-requires-clause-group
follow_listed-requires-clause-group g c =
    let met = g.met.D.Device in
    group_after g.D.Device c.args.place.now.group c.args.store.now c.take_listed.new.store c.args.steps.now c.begin.new.steps (edits_on g.D.Device met.only_now met.counts_now c.args.store.now c.begin.new.store c.take_listed.new.store c.args.steps.now c.begin.new.steps c.begin.new.steps (c.begin.ensures.edits) (c.take_listed.ensures.edits c.begin.new.steps)) c.requires.group

pub returns-in_err-begin-clause-edits : goal.returns-in_err-begin-clause-edits
returns-in_err-begin-clause-edits g c =
    let met = g.met.D.Device in
    c.begin.ensures.edits

pub returns-in_err-begin-clause-ready : goal.returns-in_err-begin-clause-ready
returns-in_err-begin-clause-ready g c =
    let met = g.met.D.Device in
    ready_after g.D.Device c.args.store.now c.begin.new.store c.args.steps.now c.begin.new.steps c.requires.ready (c.begin.ensures.edits)

pub returns-in_err-begin-clause-keeps : goal.returns-in_err-begin-clause-keeps
returns-in_err-begin-clause-keeps g c =
    let met = g.met.D.Device in
    keeps_after g.D.Device c.args.store.now c.begin.new.store c.args.steps.now c.begin.new.steps (c.begin.ensures.edits)

pub returns-in_default-clause-edits : goal.returns-in_default-clause-edits
returns-in_default-clause-edits g c =
    let met = g.met.D.Device in
    edits_on g.D.Device met.only_now met.counts_now c.args.store.now c.begin.new.store c.take_listed.new.store c.args.steps.now c.begin.new.steps c.begin.new.steps (c.begin.ensures.edits) (c.take_listed.ensures.edits c.begin.new.steps)

pub returns-in_default-clause-ready : goal.returns-in_default-clause-ready
returns-in_default-clause-ready g c =
    let met = g.met.D.Device in
    ready_after g.D.Device c.args.store.now c.take_listed.new.store c.args.steps.now c.begin.new.steps c.requires.ready (edits_on g.D.Device met.only_now met.counts_now c.args.store.now c.begin.new.store c.take_listed.new.store c.args.steps.now c.begin.new.steps c.begin.new.steps (c.begin.ensures.edits) (c.take_listed.ensures.edits c.begin.new.steps))

pub returns-in_default-clause-keeps : goal.returns-in_default-clause-keeps
returns-in_default-clause-keeps g c =
    let met = g.met.D.Device in
    keeps_after g.D.Device c.args.store.now c.take_listed.new.store c.args.steps.now c.begin.new.steps (edits_on g.D.Device met.only_now met.counts_now c.args.store.now c.begin.new.store c.take_listed.new.store c.args.steps.now c.begin.new.steps c.begin.new.steps (c.begin.ensures.edits) (c.take_listed.ensures.edits c.begin.new.steps))

pub returns-in_err-rmap-clause-edits : goal.returns-in_err-rmap-clause-edits
returns-in_err-rmap-clause-edits g c =
    let met = g.met.D.Device in
    edits_on g.D.Device met.only_now met.counts_now c.args.store.now c.take_listed.new.store c.follow_listed.new.store c.args.steps.now c.begin.new.steps c.follow_listed.new.steps (edits_on g.D.Device met.only_now met.counts_now c.args.store.now c.begin.new.store c.take_listed.new.store c.args.steps.now c.begin.new.steps c.begin.new.steps (c.begin.ensures.edits) (c.take_listed.ensures.edits c.begin.new.steps)) (c.follow_listed.ensures.edits)

pub returns-in_err-rmap-clause-ready : goal.returns-in_err-rmap-clause-ready
returns-in_err-rmap-clause-ready g c =
    let met = g.met.D.Device in
    ready_after g.D.Device c.args.store.now c.follow_listed.new.store c.args.steps.now c.follow_listed.new.steps c.requires.ready (edits_on g.D.Device met.only_now met.counts_now c.args.store.now c.take_listed.new.store c.follow_listed.new.store c.args.steps.now c.begin.new.steps c.follow_listed.new.steps (edits_on g.D.Device met.only_now met.counts_now c.args.store.now c.begin.new.store c.take_listed.new.store c.args.steps.now c.begin.new.steps c.begin.new.steps (c.begin.ensures.edits) (c.take_listed.ensures.edits c.begin.new.steps)) (c.follow_listed.ensures.edits))

pub returns-in_err-rmap-clause-keeps : goal.returns-in_err-rmap-clause-keeps
returns-in_err-rmap-clause-keeps g c =
    let met = g.met.D.Device in
    keeps_after g.D.Device c.args.store.now c.follow_listed.new.store c.args.steps.now c.follow_listed.new.steps (edits_on g.D.Device met.only_now met.counts_now c.args.store.now c.take_listed.new.store c.follow_listed.new.store c.args.steps.now c.begin.new.steps c.follow_listed.new.steps (edits_on g.D.Device met.only_now met.counts_now c.args.store.now c.begin.new.store c.take_listed.new.store c.args.steps.now c.begin.new.steps c.begin.new.steps (c.begin.ensures.edits) (c.take_listed.ensures.edits c.begin.new.steps)) (c.follow_listed.ensures.edits))

pub returns-clause-edits : goal.returns-clause-edits
returns-clause-edits g c =
    let met = g.met.D.Device in
    edits_on g.D.Device met.only_now met.counts_now c.args.store.now c.take_listed.new.store c.follow_listed.new.store c.args.steps.now c.begin.new.steps c.follow_listed.new.steps (edits_on g.D.Device met.only_now met.counts_now c.args.store.now c.begin.new.store c.take_listed.new.store c.args.steps.now c.begin.new.steps c.begin.new.steps (c.begin.ensures.edits) (c.take_listed.ensures.edits c.begin.new.steps)) (c.follow_listed.ensures.edits)

pub returns-clause-ready : goal.returns-clause-ready
returns-clause-ready g c =
    let met = g.met.D.Device in
    ready_after g.D.Device c.args.store.now c.follow_listed.new.store c.args.steps.now c.follow_listed.new.steps c.requires.ready (edits_on g.D.Device met.only_now met.counts_now c.args.store.now c.take_listed.new.store c.follow_listed.new.store c.args.steps.now c.begin.new.steps c.follow_listed.new.steps (edits_on g.D.Device met.only_now met.counts_now c.args.store.now c.begin.new.store c.take_listed.new.store c.args.steps.now c.begin.new.steps c.begin.new.steps (c.begin.ensures.edits) (c.take_listed.ensures.edits c.begin.new.steps)) (c.follow_listed.ensures.edits))

pub returns-clause-keeps : goal.returns-clause-keeps
returns-clause-keeps g c =
    let met = g.met.D.Device in
    keeps_after g.D.Device c.args.store.now c.follow_listed.new.store c.args.steps.now c.follow_listed.new.steps (edits_on g.D.Device met.only_now met.counts_now c.args.store.now c.take_listed.new.store c.follow_listed.new.store c.args.steps.now c.begin.new.steps c.follow_listed.new.steps (edits_on g.D.Device met.only_now met.counts_now c.args.store.now c.begin.new.store c.take_listed.new.store c.args.steps.now c.begin.new.steps c.begin.new.steps (c.begin.ensures.edits) (c.take_listed.ensures.edits c.begin.new.steps)) (c.follow_listed.ensures.edits))
