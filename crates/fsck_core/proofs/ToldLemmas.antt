-- An answer is told with its reason.
use Rattle.std.proofs.Common.{◌≡◌, sym, subst}
use Rattle.std.specs.Prelude.{Bool, Result, Ok, Err}
use Rattle.core_calls.specs.declared.answers.Answer.{Answer}
use Rattle.core_calls.specs.declared.answers.Answer.TheVariants as answers
use Rattle.core_calls.specs.declared.answers.Moved.{Moved}
use Rattle.core_calls.specs.declared.answers.Moved.TheVariants.{At, End}
use Rattle.core_calls.specs.declared.answers.ScrubFault.{ScrubFault}
use Rattle.core_parts.specs.Reasons.{AnswersWell, TellsWell}
use Rattle.core_parts.specs.declared.desk.Desk.{Desk}
use Rattle.fsck_core.specs.Acts.{TellsAll}
use Rattle.fsck_core.specs.Told.{told_done, told_moved, told_piece}

piece_told : {D : Type 0} (k : Desk D) (r : Result Bool ScrubFault) → AnswersWell k r → TellsAll k (told_piece r)
piece_told k (Ok b) well = tt
piece_told k (Err f) well = well

done_told : {D T : Type 0} (k : Desk D) (r : Result T ScrubFault) → AnswersWell k r → TellsAll k (told_done r)
done_told k (Ok b) well = tt
done_told k (Err f) well = well

moved_told : {D : Type 0} (k : Desk D) (r : Result Moved ScrubFault) → AnswersWell k r → TellsAll k (told_moved r)
moved_told k (Ok (At ino)) well = tt
moved_told k (Ok End) well = tt
moved_told k (Err f) well = well

pub piece_well : {D : Type 0} (k : Desk D) (r : Result Bool ScrubFault) (a : Answer) → a ≡ told_piece r → AnswersWell k r → TellsAll k a
piece_well k r a is well = subst (TellsAll k) (sym is) (piece_told k r well)

pub done_well : {D T : Type 0} (k : Desk D) (r : Result T ScrubFault) (a : Answer) → a ≡ told_done r → AnswersWell k r → TellsAll k a
done_well k r a is well = subst (TellsAll k) (sym is) (done_told k r well)

pub moved_well : {D : Type 0} (k : Desk D) (r : Result Moved ScrubFault) (a : Answer) → a ≡ told_moved r → AnswersWell k r → TellsAll k a
moved_well k r a is well = subst (TellsAll k) (sym is) (moved_told k r well)

-- the scrubber's reasons alone
pub tells_well : {D : Type 0} (k : Desk D) (a : Answer) → TellsAll k a → TellsWell k a
tells_well k (answers.Scrub f) told = told
tells_well k (answers.Chain c) told = tt
tells_well k (answers.Taken i c) told = tt
tells_well k (answers.Blocks n) told = tt
tells_well k answers.Done told = tt
tells_well k (answers.At ino) told = tt
tells_well k answers.End told = tt
tells_well k (answers.Part b) told = tt
tells_well k (answers.Write f) told = tt
