use Rattle.core_edit.proofs.UnitLemmas.{edits_on, group_after, keeps_after, ready_after}
use Rattle.core_edit.proofs.reserve.reserve_spare.Goals as goal

pub leave_space-requires-clause-ready : goal.leave_space-requires-clause-ready
leave_space-requires-clause-ready g c =
    let met = g.met.D.Device in
    ready_after g.D.Device c.args.store.now c.begin.new.store c.args.steps.now c.begin.new.steps c.requires.ready (c.begin.ensures.edits)

pub leave_space-requires-clause-group : goal.leave_space-requires-clause-group
leave_space-requires-clause-group g c =
    let met = g.met.D.Device in
    group_after g.D.Device c.args.place.now.group c.args.store.now c.begin.new.store c.args.steps.now c.begin.new.steps (c.begin.ensures.edits) c.requires.group

pub gain_owner-requires-clause-ready : goal.gain_owner-requires-clause-ready
gain_owner-requires-clause-ready g c =
    let met = g.met.D.Device in
    ready_after g.D.Device c.args.store.now c.leave_space.new.store c.args.steps.now c.leave_space.new.steps c.requires.ready (edits_on g.D.Device met.only_now met.counts_now c.args.store.now c.begin.new.store c.leave_space.new.store c.args.steps.now c.begin.new.steps c.leave_space.new.steps (c.begin.ensures.edits) (c.leave_space.ensures.edits))

pub gain_owner-requires-clause-group : goal.gain_owner-requires-clause-group
gain_owner-requires-clause-group g c =
    let met = g.met.D.Device in
    group_after g.D.Device c.args.place.now.group c.args.store.now c.leave_space.new.store c.args.steps.now c.leave_space.new.steps (edits_on g.D.Device met.only_now met.counts_now c.args.store.now c.begin.new.store c.leave_space.new.store c.args.steps.now c.begin.new.steps c.leave_space.new.steps (c.begin.ensures.edits) (c.leave_space.ensures.edits)) c.requires.group

pub begin-requires-in-Some-clause-ready : goal.begin-requires-in-Some-clause-ready
begin-requires-in-Some-clause-ready g c =
    let met = g.met.D.Device in
    ready_after g.D.Device c.args.store.now c.gain_owner.new.store c.args.steps.now c.gain_owner.new.steps c.requires.ready (edits_on g.D.Device met.only_now met.counts_now c.args.store.now c.leave_space.new.store c.gain_owner.new.store c.args.steps.now c.leave_space.new.steps c.gain_owner.new.steps (edits_on g.D.Device met.only_now met.counts_now c.args.store.now c.begin.new.store c.leave_space.new.store c.args.steps.now c.begin.new.steps c.leave_space.new.steps (c.begin.ensures.edits) (c.leave_space.ensures.edits)) (c.gain_owner.ensures.edits))

pub begin-requires-in-Some-clause-group : goal.begin-requires-in-Some-clause-group
begin-requires-in-Some-clause-group g c =
    let met = g.met.D.Device in
    group_after g.D.Device c.args.place.now.group c.args.store.now c.gain_owner.new.store c.args.steps.now c.gain_owner.new.steps (edits_on g.D.Device met.only_now met.counts_now c.args.store.now c.leave_space.new.store c.gain_owner.new.store c.args.steps.now c.leave_space.new.steps c.gain_owner.new.steps (edits_on g.D.Device met.only_now met.counts_now c.args.store.now c.begin.new.store c.leave_space.new.store c.args.steps.now c.begin.new.steps c.leave_space.new.steps (c.begin.ensures.edits) (c.leave_space.ensures.edits)) (c.gain_owner.ensures.edits)) c.requires.group

pub returns-in_err-begin-clause-edits : goal.returns-in_err-begin-clause-edits
returns-in_err-begin-clause-edits g c =
    let met = g.met.D.Device in
    c.begin.ensures.edits

pub returns-in_err-begin-clause-ready : goal.returns-in_err-begin-clause-ready
returns-in_err-begin-clause-ready g c =
    let met = g.met.D.Device in
    ready_after g.D.Device c.args.store.now c.begin.new.store c.args.steps.now c.begin.new.steps c.requires.ready (c.begin.ensures.edits)

pub returns-in_err-begin-clause-keeps : goal.returns-in_err-begin-clause-keeps
returns-in_err-begin-clause-keeps g c =
    let met = g.met.D.Device in
    keeps_after g.D.Device c.args.store.now c.begin.new.store c.args.steps.now c.begin.new.steps (c.begin.ensures.edits)

pub returns-in_err-space-clause-edits : goal.returns-in_err-space-clause-edits
returns-in_err-space-clause-edits g c =
    let met = g.met.D.Device in
    edits_on g.D.Device met.only_now met.counts_now c.args.store.now c.begin.new.store c.leave_space.new.store c.args.steps.now c.begin.new.steps c.leave_space.new.steps (c.begin.ensures.edits) (c.leave_space.ensures.edits)

pub returns-in_err-space-clause-ready : goal.returns-in_err-space-clause-ready
returns-in_err-space-clause-ready g c =
    let met = g.met.D.Device in
    ready_after g.D.Device c.args.store.now c.leave_space.new.store c.args.steps.now c.leave_space.new.steps c.requires.ready (edits_on g.D.Device met.only_now met.counts_now c.args.store.now c.begin.new.store c.leave_space.new.store c.args.steps.now c.begin.new.steps c.leave_space.new.steps (c.begin.ensures.edits) (c.leave_space.ensures.edits))

pub returns-in_err-space-clause-keeps : goal.returns-in_err-space-clause-keeps
returns-in_err-space-clause-keeps g c =
    let met = g.met.D.Device in
    keeps_after g.D.Device c.args.store.now c.leave_space.new.store c.args.steps.now c.leave_space.new.steps (edits_on g.D.Device met.only_now met.counts_now c.args.store.now c.begin.new.store c.leave_space.new.store c.args.steps.now c.begin.new.steps c.leave_space.new.steps (c.begin.ensures.edits) (c.leave_space.ensures.edits))

pub returns-in_err-rmap-clause-edits : goal.returns-in_err-rmap-clause-edits
returns-in_err-rmap-clause-edits g c =
    let met = g.met.D.Device in
    edits_on g.D.Device met.only_now met.counts_now c.args.store.now c.leave_space.new.store c.gain_owner.new.store c.args.steps.now c.leave_space.new.steps c.gain_owner.new.steps (edits_on g.D.Device met.only_now met.counts_now c.args.store.now c.begin.new.store c.leave_space.new.store c.args.steps.now c.begin.new.steps c.leave_space.new.steps (c.begin.ensures.edits) (c.leave_space.ensures.edits)) (c.gain_owner.ensures.edits)

pub returns-in_err-rmap-clause-ready : goal.returns-in_err-rmap-clause-ready
returns-in_err-rmap-clause-ready g c =
    let met = g.met.D.Device in
    ready_after g.D.Device c.args.store.now c.gain_owner.new.store c.args.steps.now c.gain_owner.new.steps c.requires.ready (edits_on g.D.Device met.only_now met.counts_now c.args.store.now c.leave_space.new.store c.gain_owner.new.store c.args.steps.now c.leave_space.new.steps c.gain_owner.new.steps (edits_on g.D.Device met.only_now met.counts_now c.args.store.now c.begin.new.store c.leave_space.new.store c.args.steps.now c.begin.new.steps c.leave_space.new.steps (c.begin.ensures.edits) (c.leave_space.ensures.edits)) (c.gain_owner.ensures.edits))

pub returns-in_err-rmap-clause-keeps : goal.returns-in_err-rmap-clause-keeps
returns-in_err-rmap-clause-keeps g c =
    let met = g.met.D.Device in
    keeps_after g.D.Device c.args.store.now c.gain_owner.new.store c.args.steps.now c.gain_owner.new.steps (edits_on g.D.Device met.only_now met.counts_now c.args.store.now c.leave_space.new.store c.gain_owner.new.store c.args.steps.now c.leave_space.new.steps c.gain_owner.new.steps (edits_on g.D.Device met.only_now met.counts_now c.args.store.now c.begin.new.store c.leave_space.new.store c.args.steps.now c.begin.new.steps c.leave_space.new.steps (c.begin.ensures.edits) (c.leave_space.ensures.edits)) (c.gain_owner.ensures.edits))

pub returns-in-None-clause-edits : goal.returns-in-None-clause-edits
returns-in-None-clause-edits g c =
    let met = g.met.D.Device in
    edits_on g.D.Device met.only_now met.counts_now c.args.store.now c.leave_space.new.store c.gain_owner.new.store c.args.steps.now c.leave_space.new.steps c.gain_owner.new.steps (edits_on g.D.Device met.only_now met.counts_now c.args.store.now c.begin.new.store c.leave_space.new.store c.args.steps.now c.begin.new.steps c.leave_space.new.steps (c.begin.ensures.edits) (c.leave_space.ensures.edits)) (c.gain_owner.ensures.edits)

pub returns-in-None-clause-ready : goal.returns-in-None-clause-ready
returns-in-None-clause-ready g c =
    let met = g.met.D.Device in
    ready_after g.D.Device c.args.store.now c.gain_owner.new.store c.args.steps.now c.gain_owner.new.steps c.requires.ready (edits_on g.D.Device met.only_now met.counts_now c.args.store.now c.leave_space.new.store c.gain_owner.new.store c.args.steps.now c.leave_space.new.steps c.gain_owner.new.steps (edits_on g.D.Device met.only_now met.counts_now c.args.store.now c.begin.new.store c.leave_space.new.store c.args.steps.now c.begin.new.steps c.leave_space.new.steps (c.begin.ensures.edits) (c.leave_space.ensures.edits)) (c.gain_owner.ensures.edits))

pub returns-in-None-clause-keeps : goal.returns-in-None-clause-keeps
returns-in-None-clause-keeps g c =
    let met = g.met.D.Device in
    keeps_after g.D.Device c.args.store.now c.gain_owner.new.store c.args.steps.now c.gain_owner.new.steps (edits_on g.D.Device met.only_now met.counts_now c.args.store.now c.leave_space.new.store c.gain_owner.new.store c.args.steps.now c.leave_space.new.steps c.gain_owner.new.steps (edits_on g.D.Device met.only_now met.counts_now c.args.store.now c.begin.new.store c.leave_space.new.store c.args.steps.now c.begin.new.steps c.leave_space.new.steps (c.begin.ensures.edits) (c.leave_space.ensures.edits)) (c.gain_owner.ensures.edits))

pub returns-in_ok-begin-in-Some-clause-edits : goal.returns-in_ok-begin-in-Some-clause-edits
returns-in_ok-begin-in-Some-clause-edits g c =
    let met = g.met.D.Device in
    edits_on g.D.Device met.only_now met.counts_now c.args.store.now c.gain_owner.new.store c.begin-in-Some.new.store c.args.steps.now c.gain_owner.new.steps c.begin-in-Some.new.steps (edits_on g.D.Device met.only_now met.counts_now c.args.store.now c.leave_space.new.store c.gain_owner.new.store c.args.steps.now c.leave_space.new.steps c.gain_owner.new.steps (edits_on g.D.Device met.only_now met.counts_now c.args.store.now c.begin.new.store c.leave_space.new.store c.args.steps.now c.begin.new.steps c.leave_space.new.steps (c.begin.ensures.edits) (c.leave_space.ensures.edits)) (c.gain_owner.ensures.edits)) (c.begin-in-Some.ensures.edits)

pub returns-in_ok-begin-in-Some-clause-ready : goal.returns-in_ok-begin-in-Some-clause-ready
returns-in_ok-begin-in-Some-clause-ready g c =
    let met = g.met.D.Device in
    ready_after g.D.Device c.args.store.now c.begin-in-Some.new.store c.args.steps.now c.begin-in-Some.new.steps c.requires.ready (edits_on g.D.Device met.only_now met.counts_now c.args.store.now c.gain_owner.new.store c.begin-in-Some.new.store c.args.steps.now c.gain_owner.new.steps c.begin-in-Some.new.steps (edits_on g.D.Device met.only_now met.counts_now c.args.store.now c.leave_space.new.store c.gain_owner.new.store c.args.steps.now c.leave_space.new.steps c.gain_owner.new.steps (edits_on g.D.Device met.only_now met.counts_now c.args.store.now c.begin.new.store c.leave_space.new.store c.args.steps.now c.begin.new.steps c.leave_space.new.steps (c.begin.ensures.edits) (c.leave_space.ensures.edits)) (c.gain_owner.ensures.edits)) (c.begin-in-Some.ensures.edits))

pub returns-in_ok-begin-in-Some-clause-keeps : goal.returns-in_ok-begin-in-Some-clause-keeps
returns-in_ok-begin-in-Some-clause-keeps g c =
    let met = g.met.D.Device in
    keeps_after g.D.Device c.args.store.now c.begin-in-Some.new.store c.args.steps.now c.begin-in-Some.new.steps (edits_on g.D.Device met.only_now met.counts_now c.args.store.now c.gain_owner.new.store c.begin-in-Some.new.store c.args.steps.now c.gain_owner.new.steps c.begin-in-Some.new.steps (edits_on g.D.Device met.only_now met.counts_now c.args.store.now c.leave_space.new.store c.gain_owner.new.store c.args.steps.now c.leave_space.new.steps c.gain_owner.new.steps (edits_on g.D.Device met.only_now met.counts_now c.args.store.now c.begin.new.store c.leave_space.new.store c.args.steps.now c.begin.new.steps c.leave_space.new.steps (c.begin.ensures.edits) (c.leave_space.ensures.edits)) (c.gain_owner.ensures.edits)) (c.begin-in-Some.ensures.edits))

pub returns-in_err-begin-in-Some-clause-edits : goal.returns-in_err-begin-in-Some-clause-edits
returns-in_err-begin-in-Some-clause-edits g c =
    let met = g.met.D.Device in
    edits_on g.D.Device met.only_now met.counts_now c.args.store.now c.gain_owner.new.store c.begin-in-Some.new.store c.args.steps.now c.gain_owner.new.steps c.begin-in-Some.new.steps (edits_on g.D.Device met.only_now met.counts_now c.args.store.now c.leave_space.new.store c.gain_owner.new.store c.args.steps.now c.leave_space.new.steps c.gain_owner.new.steps (edits_on g.D.Device met.only_now met.counts_now c.args.store.now c.begin.new.store c.leave_space.new.store c.args.steps.now c.begin.new.steps c.leave_space.new.steps (c.begin.ensures.edits) (c.leave_space.ensures.edits)) (c.gain_owner.ensures.edits)) (c.begin-in-Some.ensures.edits)

pub returns-in_err-begin-in-Some-clause-ready : goal.returns-in_err-begin-in-Some-clause-ready
returns-in_err-begin-in-Some-clause-ready g c =
    let met = g.met.D.Device in
    ready_after g.D.Device c.args.store.now c.begin-in-Some.new.store c.args.steps.now c.begin-in-Some.new.steps c.requires.ready (edits_on g.D.Device met.only_now met.counts_now c.args.store.now c.gain_owner.new.store c.begin-in-Some.new.store c.args.steps.now c.gain_owner.new.steps c.begin-in-Some.new.steps (edits_on g.D.Device met.only_now met.counts_now c.args.store.now c.leave_space.new.store c.gain_owner.new.store c.args.steps.now c.leave_space.new.steps c.gain_owner.new.steps (edits_on g.D.Device met.only_now met.counts_now c.args.store.now c.begin.new.store c.leave_space.new.store c.args.steps.now c.begin.new.steps c.leave_space.new.steps (c.begin.ensures.edits) (c.leave_space.ensures.edits)) (c.gain_owner.ensures.edits)) (c.begin-in-Some.ensures.edits))

pub returns-in_err-begin-in-Some-clause-keeps : goal.returns-in_err-begin-in-Some-clause-keeps
returns-in_err-begin-in-Some-clause-keeps g c =
    let met = g.met.D.Device in
    keeps_after g.D.Device c.args.store.now c.begin-in-Some.new.store c.args.steps.now c.begin-in-Some.new.steps (edits_on g.D.Device met.only_now met.counts_now c.args.store.now c.gain_owner.new.store c.begin-in-Some.new.store c.args.steps.now c.gain_owner.new.steps c.begin-in-Some.new.steps (edits_on g.D.Device met.only_now met.counts_now c.args.store.now c.leave_space.new.store c.gain_owner.new.store c.args.steps.now c.leave_space.new.steps c.gain_owner.new.steps (edits_on g.D.Device met.only_now met.counts_now c.args.store.now c.begin.new.store c.leave_space.new.store c.args.steps.now c.begin.new.steps c.leave_space.new.steps (c.begin.ensures.edits) (c.leave_space.ensures.edits)) (c.gain_owner.ensures.edits)) (c.begin-in-Some.ensures.edits))
