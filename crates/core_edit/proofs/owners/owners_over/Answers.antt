use Rattle.std.proofs.Common.{◌∙◌, ap, refl}
use Rattle.geom.specs.Places.{layout}
use Rattle.core_edit.proofs.OwnedLemmas.{alone_known, below_none, goes_on}
use Rattle.core_edit.proofs.UnitLemmas.{edits_on, edits_self, group_after, ready_after}
use Rattle.core_edit.proofs.owners.owners_over.Goals as goal

pub next_over-requires-clause-ready : goal.next_over-requires-clause-ready
next_over-requires-clause-ready g c = ready_after g.D.Device c.args.store.now c.loop.store c.args.steps.now c.loop.steps c.requires.ready c.loop.invariant.edits

pub next_over-requires-clause-group : goal.next_over-requires-clause-group
next_over-requires-clause-group g c = group_after g.D.Device c.args.place.now.group c.args.store.now c.loop.store c.args.steps.now c.loop.steps c.loop.invariant.edits c.requires.group

pub returns-in_err-owners-clause-edits : goal.returns-in_err-owners-clause-edits
returns-in_err-owners-clause-edits g c =
    let met = g.met.D.Device in
    edits_on g.D.Device met.only_now met.counts_now c.args.store.now c.loop.store c.next_over.new.store c.args.steps.now c.loop.steps c.next_over.new.steps c.loop.invariant.edits c.next_over.ensures.edits

pub returns-in-Known-clause-edits : goal.returns-in-Known-clause-edits
returns-in-Known-clause-edits g c =
    let met = g.met.D.Device in
    edits_on g.D.Device met.only_now met.counts_now c.args.store.now c.loop.store c.next_over.new.store c.args.steps.now c.loop.steps c.next_over.new.steps c.loop.invariant.edits c.next_over.ensures.edits

pub loop-init : goal.loop-init
loop-init g c =
    let met = g.met.D.Device in
    record {
      edits = edits_self g.D.Device met.only_now met.counts_now c.args.store.now c.args.store.now.edit c.args.steps.now c.requires.ready;
      edit = refl;
      below = below_none (layout c.args.store.now.geo) c.args.place.now c.args.run.now (g.D.Device.content c.args.store.now.dev);
      calm = refl;
    }

pub loop-preserved : goal.loop-preserved
loop-preserved g c =
    let met = g.met.D.Device in
    record {
      edits = edits_on g.D.Device met.only_now met.counts_now c.args.store.now c.loop.store c.next_over.new.store c.args.steps.now c.loop.steps c.next_over.new.steps c.loop.invariant.edits c.next_over.ensures.edits;
      edit = c.next_over.ensures.edit ∙ c.loop.invariant.edit;
      below =
          goes_on (layout c.args.store.now.geo) (layout c.loop.store.geo) c.args.place.now c.args.run.now c.loop.after (g.D.Device.content c.args.store.now.dev) (g.D.Device.content c.loop.store.dev) c.in_ok-owners.field-0 c.in-GoesOn.key
          (ap layout c.loop.invariant.edits.geometry) c.loop.invariant.edits.left.same c.in-GoesOn.is c.loop.invariant.below c.in_ok-owners.ensures.over;
      calm = c.in_ok-owners.ensures.cause ∙ c.loop.invariant.calm;
    }

pub returns-in-Known-clause-alone : goal.returns-in-Known-clause-alone
returns-in-Known-clause-alone g c =
    alone_known (layout c.args.store.now.geo) (layout c.loop.store.geo) c.args.place.now c.args.run.now c.loop.after (g.D.Device.content c.args.store.now.dev) (g.D.Device.content c.loop.store.dev) c.in_ok-owners.field-0 c.in-Known.owners
    (ap layout c.loop.invariant.edits.geometry) c.loop.invariant.edits.left.same c.in-Known.is c.loop.invariant.below c.in_ok-owners.ensures.over
