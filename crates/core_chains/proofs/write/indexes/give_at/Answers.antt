use Rattle.std.proofs.Common.{ℕ, ◌<◌, refl, sym, subst}
use Rattle.core_edit.proofs.UnitLemmas.{edits_self, opens_after}
use Rattle.core_chains.proofs.write.indexes.give_at.Goals as goal

pub returns-clause-opened : goal.returns-clause-opened
returns-clause-opened g c =
    opens_after g.D.Device c.args.g c.args.store.now (record c.args.store.now { dev = c.give_run.new.dev; cache = c.give_run.new.cache; edit = c.give_run.new.self }) c.args.steps.now c.give_run.new.steps c.requires.opened refl c.give_run.ensures.left c.give_run.ensures.group c.give_run.ensures.marked c.give_run.ensures.joined c.give_run.ensures.below

pub returns-clause-edits : goal.returns-clause-edits
returns-clause-edits g c = record { geometry = refl; left = c.give_run.ensures.left; agreed = c.give_run.ensures.agrees }

pub returns-clause-cause : goal.returns-clause-cause
returns-clause-cause g c = c.space_left_of.ensures (g.D.Device.faults c.args.store.now.dev) (g.D.Device.faults c.give_run.new.dev) c.give_run.ensures.cause

pub give_run-requires-clause-group : goal.give_run-requires-clause-group
give_run-requires-clause-group g c = subst (λ (n : ℕ). n < c.args.store.now.geo.agcount) (sym c.requires.opened.group) c.requires.group

pub returns-then-not-is_in_range-clause-edits : goal.returns-then-not-is_in_range-clause-edits
returns-then-not-is_in_range-clause-edits g c = edits_self g.D.Device g.met.D.Device.only_now g.met.D.Device.counts_now c.args.store.now c.args.store.now.edit c.args.steps.now c.requires.ready
