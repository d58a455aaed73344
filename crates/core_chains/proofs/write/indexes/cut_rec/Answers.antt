use Rattle.std.proofs.Common.{ℕ, ◌<◌, refl, sym, subst}
use Rattle.core_edit.specs.One.{Fits}
use Rattle.geom.specs.Places.{layout}
use Rattle.list_edit.specs.declared.edits.Edit.TheVariants.{Remove}
use Rattle.core_edit.proofs.UnitLemmas.{opens_after}
use Rattle.core_chains.proofs.write.indexes.cut_rec.Goals as goal

pub returns-clause-opened : goal.returns-clause-opened
returns-clause-opened g c =
    opens_after g.D.Device c.args.g c.args.store.now (record c.args.store.now { dev = c.cut.new.dev; cache = c.cut.new.cache; edit = c.cut.new.self }) c.args.steps.now c.cut.new.steps c.requires.opened refl c.cut.ensures.left c.cut.ensures.group c.cut.ensures.marked c.cut.ensures.joined c.cut.ensures.below

pub returns-clause-edits : goal.returns-clause-edits
returns-clause-edits g c = record { geometry = refl; left = c.cut.ensures.left; agreed = c.cut.ensures.agrees }

pub returns-clause-cause : goal.returns-clause-cause
returns-clause-cause g c = c.left_of.ensures (g.D.Device.faults c.args.store.now.dev) (g.D.Device.faults c.cut.new.dev) c.cut.ensures.cause

pub cut-requires-clause-group : goal.cut-requires-clause-group
cut-requires-clause-group g c = subst (λ (n : ℕ). n < c.args.store.now.geo.agcount) (sym c.requires.opened.group) c.requires.group

pub cut-requires-clause-fits : goal.cut-requires-clause-fits
cut-requires-clause-fits g c = subst (λ (n : ℕ). Fits (layout c.args.store.now.geo) n Remove c.args.rec) (sym c.requires.opened.group) c.requires.fits
