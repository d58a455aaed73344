use Rattle.std.proofs.Common.{ℕ, ◌<◌, refl, sym, subst}
use Rattle.geom.specs.Places.{layout}
use Rattle.core_edit.proofs.OwnedLemmas.{first_over}
use Rattle.core_edit.proofs.UnitLemmas.{left_of_read}
use Rattle.core_edit.proofs.owners.record_over.Goals as goal

pub returns-clause-edits : goal.returns-clause-edits
returns-clause-edits g c = record {
  geometry = refl;
  left = left_of_read g.D.Device c.args.store.now.dev c.covering.new.dev c.args.steps.now c.covering.new.steps c.covering.ensures.reading;
  agreed = c.covering.ensures.agrees;
}

pub covering-requires-clause-group : goal.covering-requires-clause-group
covering-requires-clause-group g c = subst (λ (n : ℕ). n < c.args.store.now.geo.agcount) (sym c.rmap_tree-tree.ensures.group) c.requires.group

pub returns-clause-first : goal.returns-clause-first
returns-clause-first g c =
    first_over (layout c.args.store.now.geo) c.args.place.now c.args.run.now c.args.after (g.D.Device.content c.args.store.now.dev) c.rmap_tree-tree.result c.covering.result c.rmap_tree-tree.ensures.is c.covering.ensures.readable
