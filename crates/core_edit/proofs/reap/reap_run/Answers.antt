use Rattle.std.proofs.Common.{ap}
use Rattle.geom.specs.Places.{layout}
use Rattle.core_edit.proofs.OwnedLemmas.{alone_at, alone_freed, owned_freed}
use Rattle.core_edit.proofs.UnitLemmas.{edits_on, group_after, keeps_after, ready_after}
use Rattle.core_edit.proofs.reap.reap_run.Goals as goal

pub owners_over-requires-clause-ready : goal.owners_over-requires-clause-ready
owners_over-requires-clause-ready g c =
    let met = g.met.D.Device in
    ready_after g.D.Device c.args.store.now c.begin.new.store c.args.steps.now c.begin.new.steps c.requires.ready (c.begin.ensures.edits)

pub owners_over-requires-clause-group : goal.owners_over-requires-clause-group
owners_over-requires-clause-group g c =
    let met = g.met.D.Device in
    group_after g.D.Device c.args.place.now.group c.args.store.now c.begin.new.store c.args.steps.now c.begin.new.steps (c.begin.ensures.edits) c.requires.group

pub reap_owned-requires-clause-ready : goal.reap_owned-requires-clause-ready
reap_owned-requires-clause-ready g c =
    let met = g.met.D.Device in
    ready_after g.D.Device c.args.store.now c.owners_over.new.store c.args.steps.now c.owners_over.new.steps c.requires.ready (edits_on g.D.Device met.only_now met.counts_now c.args.store.now c.begin.new.store c.owners_over.new.store c.args.steps.now c.begin.new.steps c.owners_over.new.steps (c.begin.ensures.edits) (c.owners_over.ensures.edits))

pub reap_owned-requires-clause-group : goal.reap_owned-requires-clause-group
reap_owned-requires-clause-group g c =
    let met = g.met.D.Device in
    group_after g.D.Device c.args.place.now.group c.args.store.now c.owners_over.new.store c.args.steps.now c.owners_over.new.steps (edits_on g.D.Device met.only_now met.counts_now c.args.store.now c.begin.new.store c.owners_over.new.store c.args.steps.now c.begin.new.steps c.owners_over.new.steps (c.begin.ensures.edits) (c.owners_over.ensures.edits)) c.requires.group

pub returns-in-Other-clause-edits : goal.returns-in-Other-clause-edits
returns-in-Other-clause-edits g c =
    let met = g.met.D.Device in
    edits_on g.D.Device met.only_now met.counts_now c.args.store.now c.owners_over.new.store c.reap_owned.new.store c.args.steps.now c.owners_over.new.steps c.reap_owned.new.steps (edits_on g.D.Device met.only_now met.counts_now c.args.store.now c.begin.new.store c.owners_over.new.store c.args.steps.now c.begin.new.steps c.owners_over.new.steps (c.begin.ensures.edits) (c.owners_over.ensures.edits)) (c.reap_owned.ensures.edits)

pub returns-in-Other-clause-ready : goal.returns-in-Other-clause-ready
returns-in-Other-clause-ready g c =
    let met = g.met.D.Device in
    ready_after g.D.Device c.args.store.now c.reap_owned.new.store c.args.steps.now c.reap_owned.new.steps c.requires.ready (edits_on g.D.Device met.only_now met.counts_now c.args.store.now c.owners_over.new.store c.reap_owned.new.store c.args.steps.now c.owners_over.new.steps c.reap_owned.new.steps (edits_on g.D.Device met.only_now met.counts_now c.args.store.now c.begin.new.store c.owners_over.new.store c.args.steps.now c.begin.new.steps c.owners_over.new.steps (c.begin.ensures.edits) (c.owners_over.ensures.edits)) (c.reap_owned.ensures.edits))

pub returns-in-Other-clause-keeps : goal.returns-in-Other-clause-keeps
returns-in-Other-clause-keeps g c =
    let met = g.met.D.Device in
    keeps_after g.D.Device c.args.store.now c.reap_owned.new.store c.args.steps.now c.reap_owned.new.steps (edits_on g.D.Device met.only_now met.counts_now c.args.store.now c.owners_over.new.store c.reap_owned.new.store c.args.steps.now c.owners_over.new.steps c.reap_owned.new.steps (edits_on g.D.Device met.only_now met.counts_now c.args.store.now c.begin.new.store c.owners_over.new.store c.args.steps.now c.begin.new.steps c.owners_over.new.steps (c.begin.ensures.edits) (c.owners_over.ensures.edits)) (c.reap_owned.ensures.edits))

pub reap_alone-requires-clause-ready : goal.reap_alone-requires-clause-ready
reap_alone-requires-clause-ready g c =
    let met = g.met.D.Device in
    ready_after g.D.Device c.args.store.now c.owners_over.new.store c.args.steps.now c.owners_over.new.steps c.requires.ready (edits_on g.D.Device met.only_now met.counts_now c.args.store.now c.begin.new.store c.owners_over.new.store c.args.steps.now c.begin.new.steps c.owners_over.new.steps (c.begin.ensures.edits) (c.owners_over.ensures.edits))

pub reap_alone-requires-clause-group : goal.reap_alone-requires-clause-group
reap_alone-requires-clause-group g c =
    let met = g.met.D.Device in
    group_after g.D.Device c.args.place.now.group c.args.store.now c.owners_over.new.store c.args.steps.now c.owners_over.new.steps (edits_on g.D.Device met.only_now met.counts_now c.args.store.now c.begin.new.store c.owners_over.new.store c.args.steps.now c.begin.new.steps c.owners_over.new.steps (c.begin.ensures.edits) (c.owners_over.ensures.edits)) c.requires.group

pub returns-in-Alone-clause-edits : goal.returns-in-Alone-clause-edits
returns-in-Alone-clause-edits g c =
    let met = g.met.D.Device in
    edits_on g.D.Device met.only_now met.counts_now c.args.store.now c.owners_over.new.store c.reap_alone.new.store c.args.steps.now c.owners_over.new.steps c.reap_alone.new.steps (edits_on g.D.Device met.only_now met.counts_now c.args.store.now c.begin.new.store c.owners_over.new.store c.args.steps.now c.begin.new.steps c.owners_over.new.steps (c.begin.ensures.edits) (c.owners_over.ensures.edits)) (c.reap_alone.ensures.edits)

pub returns-in-Alone-clause-ready : goal.returns-in-Alone-clause-ready
returns-in-Alone-clause-ready g c =
    let met = g.met.D.Device in
    ready_after g.D.Device c.args.store.now c.reap_alone.new.store c.args.steps.now c.reap_alone.new.steps c.requires.ready (edits_on g.D.Device met.only_now met.counts_now c.args.store.now c.owners_over.new.store c.reap_alone.new.store c.args.steps.now c.owners_over.new.steps c.reap_alone.new.steps (edits_on g.D.Device met.only_now met.counts_now c.args.store.now c.begin.new.store c.owners_over.new.store c.args.steps.now c.begin.new.steps c.owners_over.new.steps (c.begin.ensures.edits) (c.owners_over.ensures.edits)) (c.reap_alone.ensures.edits))

pub returns-in-Alone-clause-keeps : goal.returns-in-Alone-clause-keeps
returns-in-Alone-clause-keeps g c =
    let met = g.met.D.Device in
    keeps_after g.D.Device c.args.store.now c.reap_alone.new.store c.args.steps.now c.reap_alone.new.steps (edits_on g.D.Device met.only_now met.counts_now c.args.store.now c.owners_over.new.store c.reap_alone.new.store c.args.steps.now c.owners_over.new.steps c.reap_alone.new.steps (edits_on g.D.Device met.only_now met.counts_now c.args.store.now c.begin.new.store c.owners_over.new.store c.args.steps.now c.begin.new.steps c.owners_over.new.steps (c.begin.ensures.edits) (c.owners_over.ensures.edits)) (c.reap_alone.ensures.edits))

pub returns-in_err-begin-clause-edits : goal.returns-in_err-begin-clause-edits
returns-in_err-begin-clause-edits g c =
    let met = g.met.D.Device in
    c.begin.ensures.edits

pub returns-in_err-begin-clause-ready : goal.returns-in_err-begin-clause-ready
returns-in_err-begin-clause-ready g c =
    let met = g.met.D.Device in
    ready_after g.D.Device c.args.store.now c.begin.new.store c.args.steps.now c.begin.new.steps c.requires.ready (c.begin.ensures.edits)

pub returns-in_err-begin-clause-keeps : goal.returns-in_err-begin-clause-keeps
returns-in_err-begin-clause-keeps g c =
    let met = g.met.D.Device in
    keeps_after g.D.Device c.args.store.now c.begin.new.store c.args.steps.now c.begin.new.steps (c.begin.ensures.edits)

pub returns-in_err-cause-clause-edits : goal.returns-in_err-cause-clause-edits
returns-in_err-cause-clause-edits g c =
    let met = g.met.D.Device in
    edits_on g.D.Device met.only_now met.counts_now c.args.store.now c.begin.new.store c.owners_over.new.store c.args.steps.now c.begin.new.steps c.owners_over.new.steps (c.begin.ensures.edits) (c.owners_over.ensures.edits)

pub returns-in_err-cause-clause-ready : goal.returns-in_err-cause-clause-ready
returns-in_err-cause-clause-ready g c =
    let met = g.met.D.Device in
    ready_after g.D.Device c.args.store.now c.owners_over.new.store c.args.steps.now c.owners_over.new.steps c.requires.ready (edits_on g.D.Device met.only_now met.counts_now c.args.store.now c.begin.new.store c.owners_over.new.store c.args.steps.now c.begin.new.steps c.owners_over.new.steps (c.begin.ensures.edits) (c.owners_over.ensures.edits))

pub returns-in_err-cause-clause-keeps : goal.returns-in_err-cause-clause-keeps
returns-in_err-cause-clause-keeps g c =
    let met = g.met.D.Device in
    keeps_after g.D.Device c.args.store.now c.owners_over.new.store c.args.steps.now c.owners_over.new.steps (edits_on g.D.Device met.only_now met.counts_now c.args.store.now c.begin.new.store c.owners_over.new.store c.args.steps.now c.begin.new.steps c.owners_over.new.steps (c.begin.ensures.edits) (c.owners_over.ensures.edits))

pub returns-in-Met-clause-edits : goal.returns-in-Met-clause-edits
returns-in-Met-clause-edits g c =
    let met = g.met.D.Device in
    edits_on g.D.Device met.only_now met.counts_now c.args.store.now c.begin.new.store c.owners_over.new.store c.args.steps.now c.begin.new.steps c.owners_over.new.steps (c.begin.ensures.edits) (c.owners_over.ensures.edits)

pub returns-in-Met-clause-ready : goal.returns-in-Met-clause-ready
returns-in-Met-clause-ready g c =
    let met = g.met.D.Device in
    ready_after g.D.Device c.args.store.now c.owners_over.new.store c.args.steps.now c.owners_over.new.steps c.requires.ready (edits_on g.D.Device met.only_now met.counts_now c.args.store.now c.begin.new.store c.owners_over.new.store c.args.steps.now c.begin.new.steps c.owners_over.new.steps (c.begin.ensures.edits) (c.owners_over.ensures.edits))

pub returns-in-Met-clause-keeps : goal.returns-in-Met-clause-keeps
returns-in-Met-clause-keeps g c =
    let met = g.met.D.Device in
    keeps_after g.D.Device c.args.store.now c.owners_over.new.store c.args.steps.now c.owners_over.new.steps (edits_on g.D.Device met.only_now met.counts_now c.args.store.now c.begin.new.store c.owners_over.new.store c.args.steps.now c.begin.new.steps c.owners_over.new.steps (c.begin.ensures.edits) (c.owners_over.ensures.edits))

pub returns-in-Other-clause-alone : goal.returns-in-Other-clause-alone
returns-in-Other-clause-alone g c = owned_freed _ c.reap_owned.result c.reap_owned.ensures.owned

pub returns-in-Alone-clause-alone : goal.returns-in-Alone-clause-alone
returns-in-Alone-clause-alone g c =
    alone_freed _ c.reap_alone.result
    (alone_at (layout c.args.store.now.geo) (layout c.begin.new.store.geo) c.args.place.now c.args.run.now (g.D.Device.content c.args.store.now.dev) (g.D.Device.content c.begin.new.store.dev) c.in_ok-cause.field-0
    (ap layout c.begin.ensures.edits.geometry) c.begin.ensures.edits.left.same c.in-Alone.is c.in_ok-cause.ensures.alone)
