use Rattle.std.proofs.Common.{ℕ, ◌<◌, refl, sym, subst}
use Rattle.core_edit.specs.One.{Fits}
use Rattle.geom.specs.Places.{layout}
use Rattle.list_edit.specs.declared.edits.Edit.TheVariants.{Insert, Remove}
use Rattle.core_edit.proofs.UnitLemmas.{opens_after}
use Rattle.core_chains.proofs.write.indexes.turn_rec.Goals as goal

pub returns-clause-opened : goal.returns-clause-opened
returns-clause-opened g c =
    opens_after g.D.Device c.args.g c.args.store.now (record c.args.store.now { dev = c.exchange.new.dev; cache = c.exchange.new.cache; edit = c.exchange.new.self }) c.args.steps.now c.exchange.new.steps c.requires.opened refl c.exchange.ensures.left c.exchange.ensures.group c.exchange.ensures.marked c.exchange.ensures.joined c.exchange.ensures.below

pub returns-clause-edits : goal.returns-clause-edits
returns-clause-edits g c = record { geometry = refl; left = c.exchange.ensures.left; agreed = c.exchange.ensures.agrees }

pub returns-clause-cause : goal.returns-clause-cause
returns-clause-cause g c = c.left_of.ensures (g.D.Device.faults c.args.store.now.dev) (g.D.Device.faults c.exchange.new.dev) c.exchange.ensures.cause

pub exchange-requires-clause-group : goal.exchange-requires-clause-group
exchange-requires-clause-group g c = subst (λ (n : ℕ). n < c.args.store.now.geo.agcount) (sym c.requires.opened.group) c.requires.group

pub exchange-requires-clause-gone : goal.exchange-requires-clause-gone
exchange-requires-clause-gone g c = subst (λ (n : ℕ). Fits (layout c.args.store.now.geo) n Remove c.args.gone) (sym c.requires.opened.group) c.requires.gone

pub exchange-requires-clause-fits : goal.exchange-requires-clause-fits
exchange-requires-clause-fits g c = subst (λ (n : ℕ). Fits (layout c.args.store.now.geo) n Insert c.args.rec) (sym c.requires.opened.group) c.requires.fits
