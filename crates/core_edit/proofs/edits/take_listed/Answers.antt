use Rattle.std.proofs.Common.{◌≡◌, true, sym, subst, ◌∙◌}
use Rattle.blk_device.specs.declared.device.Region.TheVariants.{Image}
use Rattle.geom.specs.Places.{device_block}
use Rattle.join_blocks.specs.Joins.{is_joined}
use Rattle.meta_txn.specs.Joined.{AreBelow}
use Rattle.redo_area.specs.Area.{Batch}
use Rattle.byte_fields.specs.Steps.{StepCount}
use Rattle.core_edit.proofs.UnitLemmas.{edits_self, lost_first}
use Rattle.core_edit.proofs.edits.take_listed.Goals as goal

pub returns-clause-first : goal.returns-clause-first
returns-clause-first g c = lost_first c.take_block.result c.args.store.now.edit c.take_block.new.self c.take_block.ensures.lost

pub returns-clause-opened : goal.returns-clause-opened
returns-clause-opened g c = record {
  group = c.take_block.ensures.group ∙ c.requires.opened.group;
  marked = c.take_block.ensures.marked;
  joined = subst (λ (b : Batch). is_joined b (device_block c.args.store.now.geo c.args.g 0) ≡ true) (sym c.take_block.ensures.joined) c.requires.opened.joined;
  below = subst (AreBelow (g.D.Device.blocks c.args.store.now.dev Image)) (sym c.take_block.ensures.joined) c.requires.opened.below;
}

pub returns-clause-edits : goal.returns-clause-edits
returns-clause-edits g c = λ (steps : StepCount). edits_self g.D.Device g.met.D.Device.only_now g.met.D.Device.counts_now c.args.store.now c.take_block.new.self steps c.requires.ready
