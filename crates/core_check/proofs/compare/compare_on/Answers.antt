use Rattle.std.proofs.Common.{List, ap, subst}
use Rattle.core_units.specs.declared.judging.Judging.{Judging}
use Rattle.core_parts.specs.declared.units.Work.TheVariants as works
use Rattle.geom.specs.Places.{layout}
use Rattle.fs_model.specs.declared.fault.Fault.{Fault}
use Rattle.core_check.specs.Entries.{Follows}
use Rattle.core_check.proofs.CheckLemmas.{leaves_at}
use Rattle.core_check.proofs.EntryLemmas.{follows_after, not_refused, on_ok}
use Rattle.core_check.proofs.KnownLemmas.{known_after}
use Rattle.core_check.proofs.compare.compare_on.Goals as goal

pub returns-in-Err-clause-leaves : goal.returns-in-Err-clause-leaves
returns-in-Err-clause-leaves g c =
    leaves_at g.D.Device c.args.desk.now c.piece_room.new.desk c.args.which.group _ c.in-Err.ensures.answers.desk c.in-Err.ensures.answers.steady
    (c.put_back.ensures.judging (layout c.args.desk.now.store.geo) c.args.which.group c.requires.judging) c.in-Err.ensures.answers.reason

pub returns-in-Ok-clause-follows : goal.returns-in-Ok-clause-follows
returns-in-Ok-clause-follows g c =
    on_ok c.enter_piece.result.answer
    (follows_after c.args.which c.args.piece.judging c.args.piece.faults.items c.args.desk.now c.piece_room.new.desk c.enter_piece.new.desk c.enter_piece.result c.in-Ok.ensures.items
    (subst (λ (fs : List Fault). Follows c.args.which c.args.piece.judging fs c.piece_room.new.desk c.enter_piece.new.desk c.enter_piece.result) c.as_slice-in-Ok.ensures.value c.enter_piece.ensures.follows))

pub returns-in-Ok-clause-stands : goal.returns-in-Ok-clause-stands
returns-in-Ok-clause-stands g c = not_refused _ c.enter_piece.result.answer _ c.enter_piece.ensures.follows.answer

pub returns-in-Err-clause-stands : goal.returns-in-Err-clause-stands
returns-in-Err-clause-stands g c = record { items = c.in-Err.ensures.items; work = ap (λ (j : Judging). works.Gathered j) c.put_back.ensures.stood }

pub returns-in-Ok-clause-known : goal.returns-in-Ok-clause-known
returns-in-Ok-clause-known g c =
    on_ok c.enter_piece.result.answer (known_after c.args.desk.now c.piece_room.new.desk c.enter_piece.new.desk c.args.kept.now c.enter_piece.new.kept c.in-Ok.ensures.items c.enter_piece.ensures.known)

pub returns-in-Ok-clause-unknown : goal.returns-in-Ok-clause-unknown
returns-in-Ok-clause-unknown g c = not_refused _ c.enter_piece.result.answer _ c.enter_piece.ensures.follows.answer
