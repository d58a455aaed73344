-- The stop that an order keeps has its reason.
use Rattle.std.proofs.Common.{◌≡◌, ◌≤◌, ◌+◌, refl, sym, ap, subst, arith, length-append}
use Rattle.std.specs.Prelude.{◌++◌, Bool, true, false, Option, Some, None, length, if◌then◌else◌, nat_le, ⊤}
use Rattle.blk_device.specs.declared.device.Device.{Ghosts}
use Rattle.core_calls.specs.declared.answers.Answer.{Answer}
use Rattle.core_calls.specs.declared.answers.Answer.TheVariants as answers
use Rattle.core_calls.specs.declared.answers.Phase.{Phase}
use Rattle.core_calls.specs.declared.answers.Phase.TheVariants as phases
use Rattle.core_calls.specs.declared.answers.ScrubFault.{ScrubFault}
use Rattle.core_calls.specs.declared.answers.ScrubFault.TheVariants as faults
use Rattle.core_parts.specs.Keeps.{IsSteady}
use Rattle.core_parts.specs.Reasons.{HasReason, TellsWell}
use Rattle.core_parts.specs.declared.desk.Desk.{Desk}
use Rattle.fs_model.specs.declared.unit.Unit.{Unit as ScrubUnit}
use Rattle.fs_model.specs.declared.unit.Unit.TheVariants as units
use Rattle.fsck_core.specs.Acts.{StaysShut}
use Rattle.quiet_repair.specs.Sessions.{IsStopped}
use Rattle.scrub_order.specs.Orders.{moved_by, next_of, next_unit, opened_by, took_in}
use Rattle.scrub_order.specs.Table.{compared, done, early, ended, found, last, moved, piece, refused}
use Rattle.scrub_order.specs.declared.at.At.{At}
use Rattle.scrub_order.specs.declared.at.At.TheVariants as ats
use Rattle.scrub_order.specs.declared.at.Move.{Move}
use Rattle.scrub_order.specs.declared.at.Move.TheVariants as moves
use Rattle.scrub_order.specs.declared.order.Order.{Order}

-- ---- a reason stays one

module _ {D : Type 0} (d : Ghosts D) where
  longer : (old new : Desk D) → IsSteady d old new → 1048576 ≤ length old.book.journal.items → 1048576 ≤ length new.book.journal.items
  longer old new s full = let more : length new.book.journal.items ≡ length (old.book.journal.items ++ s.added) = ap length s.journal in omega (arith, more, full, length-append old.book.journal.items s.added)

  reason_on : (old new : Desk D) (f : ScrubFault) → IsSteady d old new → StaysShut old new → HasReason old f → HasReason new f
  reason_on old new (faults.Busy i) s shut h = tt
  reason_on old new (faults.Draining g n) s shut h = tt
  reason_on old new (faults.UnitOpen g u) s shut h = tt
  reason_on old new (faults.Skipped g u) s shut h = tt
  reason_on old new (faults.GaveUp r) s shut h = tt
  reason_on old new (faults.OtherPhase p) s shut h = tt
  reason_on old new faults.JournalFull s shut h = longer old new s h
  reason_on old new (faults.Shut n) s shut h = shut n h
  reason_on old new faults.Memory s shut h = tt

  pub stopped_on : (old new : Desk D) (stop : Option ScrubFault) → IsSteady d old new → StaysShut old new → IsStopped old stop → IsStopped new stop
  stopped_on old new None s shut h = tt
  stopped_on old new (Some f) s shut h = reason_on old new f s shut h

-- ---- what a move makes of the stop

abbrev pub ToldBy : {D : Type 0} → Desk D → Move → Type 0
ToldBy k (moves.Stopped f) = HasReason k f
ToldBy k m = ⊤

next_stop : (b : Bool) (u : ScrubUnit) (o : Order) → (next_of b u o).stop ≡ o.stop
next_stop true units.Inode o = refl
next_stop false units.Inode o = refl
next_stop true units.Rmap o = refl
next_stop false units.Rmap o = refl
next_stop true units.Free o = refl
next_stop false units.Free o = refl
next_stop true units.Refc o = refl
next_stop false units.Refc o = refl

pub unit_stop : (o : Order) → (next_unit o).stop ≡ o.stop
unit_stop o = next_stop (nat_le o.groups (o.group + 1)) o.unit o

pub opened_stop : (x : Option ScrubFault) (o : Order) → (opened_by x o).stop ≡ o.stop
opened_stop None o = unit_stop o
opened_stop (Some f) o = refl

move_stop : {D : Type 0} (k : Desk D) (m : Move) (o : Order) → IsStopped k o.stop → ToldBy k m → IsStopped k (moved_by m o).stop
move_stop k (moves.To at) o h told = h
move_stop k (moves.Judged at) o h told = h
move_stop k moves.Passed o h told = subst (IsStopped k) (sym (unit_stop (record o { is_judged = true }))) h
move_stop k (moves.Stopped f) o h told = told
move_stop k moves.Reopened o h told = subst (IsStopped k) (sym (opened_stop o.stop o)) h

-- ---- of an answer that is told with its reason

refused_told : {D : Type 0} (k : Desk D) (at : At) (f : ScrubFault) → HasReason k f → ToldBy k (refused at f)
refused_told k at (faults.Busy i) h = tt
refused_told k at (faults.Draining g n) h = tt
refused_told k at (faults.UnitOpen g u) h = tt
refused_told k at (faults.Skipped g u) h = tt
refused_told k at (faults.GaveUp r) h = tt
refused_told k at (faults.OtherPhase p) h = tt
refused_told k at faults.JournalFull h = h
refused_told k at (faults.Shut n) h = h
refused_told k at faults.Memory h = tt

done_told : {D : Type 0} (k : Desk D) (u : ScrubUnit) (at : At) → ToldBy k (done u at)
done_told k u ats.Start = tt
done_told k u ats.Close = tt
done_told k u ats.Switch = tt
done_told k u ats.Reopen = tt
done_told k u at = tt

moved_told : {D : Type 0} (k : Desk D) (at : At) → ToldBy k (moved at)
moved_told k ats.Advance = tt
moved_told k at = tt

ended_told : {D : Type 0} (k : Desk D) (at : At) → ToldBy k (ended at)
ended_told k ats.Advance = tt
ended_told k at = tt

early_told : {D : Type 0} (k : Desk D) (at : At) → ToldBy k (early at)
early_told k ats.ReapOnce = tt
early_told k at = tt

compared_told : {D : Type 0} (k : Desk D) (p : Phase) → ToldBy k (compared p)
compared_told k phases.Judged = tt
compared_told k p = tt

last_told : {D : Type 0} (k : Desk D) (at : At) (p : Phase) → ToldBy k (last at p)
last_told k ats.Scan p = tt
last_told k ats.Gather p = tt
last_told k ats.Compare p = compared_told k p
last_told k ats.Reserve p = tt
last_told k ats.Stage p = tt
last_told k ats.Reap p = tt
last_told k ats.ReapOnce p = tt
last_told k at p = tt

piece_told : {D : Type 0} (k : Desk D) (at : At) (b : Bool) (p : Phase) → ToldBy k (piece at b p)
piece_told k at false p = early_told k at
piece_told k at true p = last_told k at p

found_told : {D : Type 0} (k : Desk D) (u : ScrubUnit) (at : At) (a : Answer) (p : Phase) → TellsWell k a → ToldBy k (found u at a p)
found_told k u at (answers.Scrub f) p well = refused_told k at f well
found_told k u at answers.Done p well = done_told k u at
found_told k u at (answers.At i) p well = moved_told k at
found_told k u at answers.End p well = ended_told k at
found_told k u at (answers.Part b) p well = piece_told k at b p
found_told k u at (answers.Chain n) p well = tt
found_told k u at (answers.Taken i n) p well = tt
found_told k u at (answers.Blocks n) p well = tt
found_told k u at (answers.Write w) p well = tt

took_stop : {D : Type 0} (k : Desk D) (o : Order) (a : Answer) (p : Phase) → IsStopped k o.stop → TellsWell k a → IsStopped k (took_in o a p).stop
took_stop k o a p h well = move_stop k (found o.unit o.at a p) o h (found_told k o.unit o.at a p well)

-- whether it is taken or not
pub taken_stop : {D : Type 0} (k : Desk D) (b : Bool) (o o' : Order) (a : Answer) (p : Phase) → o' ≡ (if b then took_in o a p else o) → IsStopped k o.stop → TellsWell k a → IsStopped k o'.stop
taken_stop k true o o' a p is h well = subst (λ (x : Order). IsStopped k x.stop) (sym is) (took_stop k o a p h well)
taken_stop k false o o' a p is h well = subst (λ (x : Order). IsStopped k x.stop) (sym is) h
