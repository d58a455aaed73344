use Rattle.std.proofs.Common.{◌≡◌}
use Rattle.geom.specs.Places.{layout}
use Rattle.core_edit.specs.Opened.{EditsStore}
use Rattle.core_edit.specs.Owned.{AreOwnBelow, OfRecords}
use Rattle.core_edit.proofs.owners.owners_over.Given as goal

abbrev pub invariant-loop : goal.invariant-loop
invariant-loop g l = record {
  edits : EditsStore g.D.Device l.initial.store l.store l.initial.steps l.steps;
  edit : l.store.edit ≡ l.initial.store.edit;
  below : OfRecords (layout l.initial.store.geo) l.place (g.D.Device.content l.initial.store.dev) (AreOwnBelow l.run l.after);
  calm : g.D.Device.faults l.store.dev ≡ g.D.Device.faults l.initial.store.dev;
}
