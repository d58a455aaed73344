use Rattle.std.proofs.Common.{ℕ, ◌<◌, refl, sym, subst}
use Rattle.core_edit.proofs.UnitLemmas.{edits_self, opens_after}
use Rattle.core_edit.proofs.edits.cut_owner.Goals as goal

pub returns-clause-opened : goal.returns-clause-opened
returns-clause-opened g c =
    opens_after g.D.Device c.args.g c.args.store.now (record c.args.store.now { dev = c.rmap_cut.new.dev; cache = c.rmap_cut.new.cache; edit = c.rmap_cut.new.self }) c.args.steps.now c.rmap_cut.new.steps c.requires.opened refl c.rmap_cut.ensures.left c.rmap_cut.ensures.group c.rmap_cut.ensures.marked c.rmap_cut.ensures.joined c.rmap_cut.ensures.below

pub returns-clause-edits : goal.returns-clause-edits
returns-clause-edits g c = record { geometry = refl; left = c.rmap_cut.ensures.left; agreed = c.rmap_cut.ensures.agrees }

pub returns-clause-cause : goal.returns-clause-cause
returns-clause-cause g c = c.left_of.ensures (g.D.Device.faults c.args.store.now.dev) (g.D.Device.faults c.rmap_cut.new.dev) c.rmap_cut.ensures.cause

pub rmap_cut-requires-clause-group : goal.rmap_cut-requires-clause-group
rmap_cut-requires-clause-group g c = subst (λ (n : ℕ). n < c.args.store.now.geo.agcount) (sym c.requires.opened.group) c.requires.group

pub returns-then-not-is_in_range-clause-edits : goal.returns-then-not-is_in_range-clause-edits
returns-then-not-is_in_range-clause-edits g c = edits_self g.D.Device g.met.D.Device.only_now g.met.D.Device.counts_now c.args.store.now c.args.store.now.edit c.args.steps.now c.requires.ready
