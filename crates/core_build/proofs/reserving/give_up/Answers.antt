use Rattle.std.proofs.Common.{◌∙◌}
use Rattle.std.specs.Prelude.{◌∷◌, []}
use Rattle.core_parts.proofs.common.EntryLemmas.{more_after, room_exit}
use Rattle.core_parts.specs.Common.Entries.{verdict_entry}
use Rattle.fs_model.specs.declared.verdict.Verdict.TheVariants as verdicts
use Rattle.core_build.proofs.SayLemmas.{may_exit, room_may}
use Rattle.core_build.proofs.reserving.give_up.Goals as goal
use Rattle.core_units.specs.declared.rebuild.Next.TheVariants.{GaveUp}

pub returns-in_err-entry_room-clause-says : goal.returns-in_err-entry_room-clause-says
returns-in_err-entry_room-clause-says g c =
    room_exit c.args.desk.now c.entry_room.new.desk c.args.place.now.group c.args.place.now.unit c.in_err-entry_room.field-0.0 c.from_residual.result c.from_residual.ensures c.in_err-entry_room.ensures.same.items c.in_err-entry_room.ensures.wants

pub returns-in_err-say_verdict-clause-says : goal.returns-in_err-say_verdict-clause-says
returns-in_err-say_verdict-clause-says g c =
    room_exit c.args.desk.now c.say_verdict.new.desk c.args.place.now.group c.args.place.now.unit c.in_err-say_verdict.field-0.0 c.from_residual-in_err-say_verdict.result c.from_residual-in_err-say_verdict.ensures
    (c.in_err-say_verdict.ensures.unsaid ∙ c.in_ok-entry_room.ensures.same.items) c.in_err-say_verdict.ensures.wants

pub returns-clause-says : goal.returns-clause-says
returns-clause-says g c =
    more_after c.args.desk.now c.entry_room.new.desk c.say_verdict.new.desk (verdict_entry c.args.place.now.group c.args.place.now.unit (verdicts.GaveUp c.args.reason) ∷ []) c.in_ok-entry_room.ensures.same.items c.in_ok-say_verdict.ensures.said

pub returns-in_err-entry_room-clause-gives : goal.returns-in_err-entry_room-clause-gives
returns-in_err-entry_room-clause-gives g c =
    may_exit (GaveUp c.args.reason) c.in_err-entry_room.field-0.0 c.from_residual.result c.from_residual.ensures (room_may (GaveUp c.args.reason) c.in_err-entry_room.field-0.0 c.in_err-entry_room.ensures.wants)

pub returns-in_err-say_verdict-clause-gives : goal.returns-in_err-say_verdict-clause-gives
returns-in_err-say_verdict-clause-gives g c =
    may_exit (GaveUp c.args.reason) c.in_err-say_verdict.field-0.0 c.from_residual-in_err-say_verdict.result c.from_residual-in_err-say_verdict.ensures
    (room_may (GaveUp c.args.reason) c.in_err-say_verdict.field-0.0 c.in_err-say_verdict.ensures.wants)
