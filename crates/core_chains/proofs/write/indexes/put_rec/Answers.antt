use Rattle.std.proofs.Common.{ℕ, ◌<◌, refl, sym, subst}
use Rattle.core_edit.specs.One.{Fits}
use Rattle.geom.specs.Places.{layout}
use Rattle.list_edit.specs.declared.edits.Edit.TheVariants.{Insert}
use Rattle.core_edit.proofs.UnitLemmas.{opens_after}
use Rattle.core_chains.proofs.write.indexes.put_rec.Goals as goal

pub returns-clause-opened : goal.returns-clause-opened
returns-clause-opened g c =
    opens_after g.D.Device c.args.g c.args.store.now (record c.args.store.now { dev = c.put.new.dev; cache = c.put.new.cache; edit = c.put.new.self }) c.args.steps.now c.put.new.steps c.requires.opened refl c.put.ensures.left c.put.ensures.group c.put.ensures.marked c.put.ensures.joined c.put.ensures.below

pub returns-clause-edits : goal.returns-clause-edits
returns-clause-edits g c = record { geometry = refl; left = c.put.ensures.left; agreed = c.put.ensures.agrees }

pub returns-clause-cause : goal.returns-clause-cause
returns-clause-cause g c = c.left_of.ensures (g.D.Device.faults c.args.store.now.dev) (g.D.Device.faults c.put.new.dev) c.put.ensures.cause

pub put-requires-clause-group : goal.put-requires-clause-group
put-requires-clause-group g c = subst (λ (n : ℕ). n < c.args.store.now.geo.agcount) (sym c.requires.opened.group) c.requires.group

pub put-requires-clause-fits : goal.put-requires-clause-fits
put-requires-clause-fits g c = subst (λ (n : ℕ). Fits (layout c.args.store.now.geo) n Insert c.args.rec) (sym c.requires.opened.group) c.requires.fits
