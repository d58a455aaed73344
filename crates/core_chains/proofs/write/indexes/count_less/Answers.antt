use Rattle.std.proofs.Common.{ℕ, ◌<◌, refl, sym, subst}
use Rattle.core_edit.proofs.UnitLemmas.{opens_after}
use Rattle.core_chains.proofs.write.indexes.count_less.Goals as goal

pub returns-clause-opened : goal.returns-clause-opened
returns-clause-opened g c =
    opens_after g.D.Device c.args.g c.args.store.now (record c.args.store.now { dev = c.refc_down.new.dev; cache = c.refc_down.new.cache; edit = c.refc_down.new.self }) c.args.steps.now c.refc_down.new.steps c.requires.opened refl c.refc_down.ensures.left c.refc_down.ensures.group c.refc_down.ensures.marked c.refc_down.ensures.joined c.refc_down.ensures.below

pub returns-clause-edits : goal.returns-clause-edits
returns-clause-edits g c = record { geometry = refl; left = c.refc_down.ensures.left; agreed = c.refc_down.ensures.agrees }

pub returns-clause-cause : goal.returns-clause-cause
returns-clause-cause g c = c.left_of.ensures (g.D.Device.faults c.args.store.now.dev) (g.D.Device.faults c.refc_down.new.dev) c.refc_down.ensures.cause

pub refc_down-requires-clause-group : goal.refc_down-requires-clause-group
refc_down-requires-clause-group g c = subst (λ (n : ℕ). n < c.args.store.now.geo.agcount) (sym c.requires.opened.group) c.requires.group
