use Rattle.std.proofs.Common.{ℕ, ◌<◌, refl, sym, subst}
use Rattle.core_edit.proofs.UnitLemmas.{edits_self, opens_after}
use Rattle.core_chains.proofs.write.indexes.turn_owner.Goals as goal

pub returns-clause-opened : goal.returns-clause-opened
returns-clause-opened g c =
    opens_after g.D.Device c.args.g c.args.store.now (record c.args.store.now { dev = c.rmap_turn.new.dev; cache = c.rmap_turn.new.cache; edit = c.rmap_turn.new.self }) c.args.steps.now c.rmap_turn.new.steps c.requires.opened refl c.rmap_turn.ensures.left c.rmap_turn.ensures.group c.rmap_turn.ensures.marked c.rmap_turn.ensures.joined c.rmap_turn.ensures.below

pub returns-clause-edits : goal.returns-clause-edits
returns-clause-edits g c = record { geometry = refl; left = c.rmap_turn.ensures.left; agreed = c.rmap_turn.ensures.agrees }

pub returns-clause-cause : goal.returns-clause-cause
returns-clause-cause g c = c.left_of.ensures (g.D.Device.faults c.args.store.now.dev) (g.D.Device.faults c.rmap_turn.new.dev) c.rmap_turn.ensures.cause

pub rmap_turn-requires-clause-group : goal.rmap_turn-requires-clause-group
rmap_turn-requires-clause-group g c = subst (λ (n : ℕ). n < c.args.store.now.geo.agcount) (sym c.requires.opened.group) c.requires.group

pub returns-then-not-is_in_range-clause-edits : goal.returns-then-not-is_in_range-clause-edits
returns-then-not-is_in_range-clause-edits g c = edits_self g.D.Device g.met.D.Device.only_now g.met.D.Device.counts_now c.args.store.now c.args.store.now.edit c.args.steps.now c.requires.ready

pub returns-then-not-is_in_range-2-clause-edits : goal.returns-then-not-is_in_range-2-clause-edits
returns-then-not-is_in_range-2-clause-edits g c = edits_self g.D.Device g.met.D.Device.only_now g.met.D.Device.counts_now c.args.store.now c.args.store.now.edit c.args.steps.now c.requires.ready
