use Rattle.std.proofs.Common.{ℕ, ◌<◌, refl, sym, subst}
use Rattle.core_edit.proofs.UnitLemmas.{opens_after}
use Rattle.core_chains.proofs.write.indexes.count_more.Goals as goal

pub returns-clause-opened : goal.returns-clause-opened
returns-clause-opened g c =
    opens_after g.D.Device c.args.g c.args.store.now (record c.args.store.now { dev = c.refc_up.new.dev; cache = c.refc_up.new.cache; edit = c.refc_up.new.self }) c.args.steps.now c.refc_up.new.steps c.requires.opened refl c.refc_up.ensures.left c.refc_up.ensures.group c.refc_up.ensures.marked c.refc_up.ensures.joined c.refc_up.ensures.below

pub returns-clause-edits : goal.returns-clause-edits
returns-clause-edits g c = record { geometry = refl; left = c.refc_up.ensures.left; agreed = c.refc_up.ensures.agrees }

pub returns-clause-cause : goal.returns-clause-cause
returns-clause-cause g c = c.left_of.ensures (g.D.Device.faults c.args.store.now.dev) (g.D.Device.faults c.refc_up.new.dev) c.refc_up.ensures.cause

pub refc_up-requires-clause-group : goal.refc_up-requires-clause-group
refc_up-requires-clause-group g c = subst (λ (n : ℕ). n < c.args.store.now.geo.agcount) (sym c.requires.opened.group) c.requires.group
