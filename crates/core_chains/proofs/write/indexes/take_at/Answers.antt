use Rattle.std.proofs.Common.{ℕ, ◌<◌, refl, sym, subst}
use Rattle.core_edit.proofs.UnitLemmas.{opens_after}
use Rattle.core_chains.proofs.write.indexes.take_at.Goals as goal

pub returns-clause-opened : goal.returns-clause-opened
returns-clause-opened g c =
    opens_after g.D.Device c.args.g c.args.store.now (record c.args.store.now { dev = c.take_run.new.dev; cache = c.take_run.new.cache; edit = c.take_run.new.self }) c.args.steps.now c.take_run.new.steps c.requires.opened refl c.take_run.ensures.left c.take_run.ensures.group c.take_run.ensures.marked c.take_run.ensures.joined c.take_run.ensures.below

pub returns-clause-edits : goal.returns-clause-edits
returns-clause-edits g c = record { geometry = refl; left = c.take_run.ensures.left; agreed = c.take_run.ensures.agrees }

pub returns-clause-cause : goal.returns-clause-cause
returns-clause-cause g c = c.space_left_of.ensures (g.D.Device.faults c.args.store.now.dev) (g.D.Device.faults c.take_run.new.dev) c.take_run.ensures.cause

pub take_run-requires-clause-group : goal.take_run-requires-clause-group
take_run-requires-clause-group g c = subst (λ (n : ℕ). n < c.args.store.now.geo.agcount) (sym c.requires.opened.group) c.requires.group
