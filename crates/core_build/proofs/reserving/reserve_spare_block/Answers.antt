use Rattle.std.proofs.Common.{◌∙◌}
use Rattle.core_build.proofs.SayLemmas.{halt_may, next_after, next_exit, room_may}
use Rattle.core_parts.proofs.common.EntryLemmas.{halt_more, room_more}
use Rattle.core_units.specs.declared.rebuild.Next.TheVariants.{Spare}
use Rattle.core_build.proofs.reserving.reserve_spare_block.Goals as goal

pub returns-in_err-entry_room-clause-says : goal.returns-in_err-entry_room-clause-says
returns-in_err-entry_room-clause-says g c =
    next_exit c.args.place.now.group c.args.place.now.unit (Spare c.args.block) c.args.rebuild.now c.args.rebuild.now c.args.kept.now c.args.kept.now c.args.desk.now c.entry_room.new.desk c.in_err-entry_room.field-0.0 c.from_residual.result c.from_residual.ensures
    (room_may (Spare c.args.block) c.in_err-entry_room.field-0.0 c.in_err-entry_room.ensures.wants)
    (room_more c.args.desk.now c.entry_room.new.desk c.args.place.now.group c.args.place.now.unit c.in_err-entry_room.field-0.0 c.in_err-entry_room.ensures.same.items c.in_err-entry_room.ensures.wants)

pub returns-in_err-spare-clause-says : goal.returns-in_err-spare-clause-says
returns-in_err-spare-clause-says g c =
    next_exit c.args.place.now.group c.args.place.now.unit (Spare c.args.block) c.args.rebuild.now c.args.rebuild.now c.args.kept.now c.args.kept.now c.args.desk.now c.edit_spare.new.desk c.in_err-spare.field-0.0 c.from_residual-in_err-spare.result c.from_residual-in_err-spare.ensures
    (halt_may (Spare c.args.block) c.in_err-spare.field-0.0 c.in_err-spare.ensures.halts)
    (halt_more c.args.desk.now c.edit_spare.new.desk c.args.place.now.group c.args.place.now.unit c.in_err-spare.field-0.0 (c.in_err-spare.ensures.items ∙ c.in_ok-entry_room.ensures.same.items) c.in_err-spare.ensures.halts)

pub returns-clause-says : goal.returns-clause-says
returns-clause-says g c =
    next_after c.args.place.now.group c.args.place.now.unit c.args.block c.args.rebuild.now c.keep_spare.new.rebuild c.args.kept.now c.keep_spare.new.kept c.args.desk.now c.edit_spare.new.desk c.keep_spare.new.desk c.keep_spare.result
    (c.in_ok-spare.ensures.items ∙ c.in_ok-entry_room.ensures.same.items) c.keep_spare.ensures.says
