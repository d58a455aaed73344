use Rattle.std.proofs.Common.{◌∙◌}
use Rattle.core_build.proofs.SayLemmas.{halt_may, listed_next, next_exit, room_may}
use Rattle.core_parts.proofs.common.EntryLemmas.{halt_more, room_more}
use Rattle.core_units.specs.declared.rebuild.Next.TheVariants.{Listed}
use Rattle.core_build.proofs.reserving.reserve_listed_block.Goals as goal

pub returns-in_err-entry_room-clause-says : goal.returns-in_err-entry_room-clause-says
returns-in_err-entry_room-clause-says g c =
    next_exit c.args.place.now.group c.args.place.now.unit (Listed c.args.block) c.args.rebuild.now c.args.rebuild.now c.args.kept.now c.args.kept.now c.args.desk.now c.entry_room.new.desk c.in_err-entry_room.field-0.0 c.from_residual.result c.from_residual.ensures
    (room_may (Listed c.args.block) c.in_err-entry_room.field-0.0 c.in_err-entry_room.ensures.wants)
    (room_more c.args.desk.now c.entry_room.new.desk c.args.place.now.group c.args.place.now.unit c.in_err-entry_room.field-0.0 c.in_err-entry_room.ensures.same.items c.in_err-entry_room.ensures.wants)

pub returns-in_err-left-clause-says : goal.returns-in_err-left-clause-says
returns-in_err-left-clause-says g c =
    next_exit c.args.place.now.group c.args.place.now.unit (Listed c.args.block) c.args.rebuild.now c.args.rebuild.now c.args.kept.now c.args.kept.now c.args.desk.now c.edit_listed.new.desk c.in_err-left.field-0.0 c.from_residual-in_err-left.result c.from_residual-in_err-left.ensures
    (halt_may (Listed c.args.block) c.in_err-left.field-0.0 c.in_err-left.ensures.halts)
    (halt_more c.args.desk.now c.edit_listed.new.desk c.args.place.now.group c.args.place.now.unit c.in_err-left.field-0.0 (c.in_err-left.ensures.items ∙ c.in_ok-entry_room.ensures.same.items) c.in_err-left.ensures.halts)

pub returns-clause-says : goal.returns-clause-says
returns-clause-says g c =
    listed_next c.args.place.now.group c.args.place.now.unit c.args.block c.args.rebuild.now c.keep_block.new.rebuild c.args.kept.now c.keep_block.new.kept c.args.desk.now c.edit_listed.new.desk c.keep_block.new.desk c.keep_block.result
    (c.in_ok-left.ensures.items ∙ c.in_ok-entry_room.ensures.same.items) c.keep_block.ensures.says
