use Rattle.std.proofs.Common.{refl}
use Rattle.core_build.proofs.SayLemmas.{memory_halts, memory_on, taken_exit, taken_says}
use Rattle.core_parts.proofs.common.EntryLemmas.{halt_more}
use Rattle.core_build.proofs.WorkLemmas.{memory_answers}
use Rattle.core_build.proofs.reserving.keep_block.Goals as goal

pub returns-in_err-limbo_room-clause-says : goal.returns-in_err-limbo_room-clause-says
returns-in_err-limbo_room-clause-says g c =
    taken_exit c.args.place.now.group c.args.place.now.unit c.args.taken.now.block c.args.taken.now.is_spare c.args.rebuild.now c.args.rebuild.now c.args.kept.now c.limbo_room.new.kept c.args.desk.now c.args.desk.now c.in_err-limbo_room.field-0.0 c.from_residual.result c.from_residual.ensures
    (memory_halts c.in_err-limbo_room.field-0.0 c.in_err-limbo_room.ensures.memory)
    (memory_on c.args.desk.now c.args.desk.now c.args.place.now.group c.args.place.now.unit c.in_err-limbo_room.field-0.0 c.in_err-limbo_room.ensures.memory refl)

pub returns-in_err-is_met-clause-says : goal.returns-in_err-is_met-clause-says
returns-in_err-is_met-clause-says g c =
    taken_exit c.args.place.now.group c.args.place.now.unit c.args.taken.now.block c.args.taken.now.is_spare c.args.rebuild.now c.take_block.new.rebuild c.args.kept.now c.limbo_room.new.kept c.args.desk.now c.args.desk.now c.in_err-is_met.field-0.0 c.from_residual-in_err-is_met.result c.from_residual-in_err-is_met.ensures
    (memory_halts c.in_err-is_met.field-0.0 c.in_err-is_met.ensures.memory)
    (memory_on c.args.desk.now c.args.desk.now c.args.place.now.group c.args.place.now.unit c.in_err-is_met.field-0.0 c.in_err-is_met.ensures.memory refl)

pub returns-in_err-is_met-clause-answers : goal.returns-in_err-is_met-clause-answers
returns-in_err-is_met-clause-answers g c =
    memory_answers g.D.Device c.args.desk.now c.in_err-is_met.field-0.0 c.from_residual-in_err-is_met.result c.requires.usable c.in_err-is_met.ensures.memory c.from_residual-in_err-is_met.ensures

pub returns-in_err-commit_edit-clause-says : goal.returns-in_err-commit_edit-clause-says
returns-in_err-commit_edit-clause-says g c =
    taken_exit c.args.place.now.group c.args.place.now.unit c.args.taken.now.block c.args.taken.now.is_spare c.args.rebuild.now c.take_block.new.rebuild c.args.kept.now c.limbo_room.new.kept c.args.desk.now c.commit_edit.new.desk c.in_err-commit_edit.field-0.0 c.from_residual-in_err-commit_edit.result c.from_residual-in_err-commit_edit.ensures
    c.in_err-commit_edit.ensures.halts
    (halt_more c.args.desk.now c.commit_edit.new.desk c.args.place.now.group c.args.place.now.unit c.in_err-commit_edit.field-0.0 c.in_err-commit_edit.ensures.items c.in_err-commit_edit.ensures.halts)

pub returns-clause-says : goal.returns-clause-says
returns-clause-says g c =
    taken_says c.args.place.now.group c.args.place.now.unit c.args.taken.now.block c.args.taken.now.is_spare c.args.taken.now.left c.args.rebuild.now c.take_block.new.rebuild c.ready_if.new.rebuild c.args.kept.now c.limbo_room.new.kept c.note_block.new.kept
    c.args.desk.now c.commit_edit.new.desk c.note_block.new.desk c.in_ok-commit_edit.ensures.items c.note_block.ensures.more c.in_ok-is_met.ensures.behind c.ready_if.ensures.reserve c.in_ok-limbo_room.ensures.trust c.note_block.ensures.trust
