-- How what an event gives is told.
use Rattle.std.specs.Prelude.{ℕ, Bool, Result, Ok, Err}
use Rattle.core_calls.specs.declared.answers.Answer.{Answer}
use Rattle.core_calls.specs.declared.answers.Answer.TheVariants.{Done, At, Part, Scrub, Taken, Write}
use Rattle.core_calls.specs.declared.answers.Answer.TheVariants as answers
use Rattle.core_calls.specs.declared.answers.Moved.{Moved}
use Rattle.core_calls.specs.declared.answers.Moved.TheVariants as moves
use Rattle.core_calls.specs.declared.answers.ScrubFault.{ScrubFault}
use Rattle.core_calls.specs.declared.answers.WriteFault.{WriteFault}

abbrev pub told_piece : Result Bool ScrubFault → Answer
told_piece (Ok is_last) = Part is_last
told_piece (Err fault) = Scrub fault

abbrev pub told_done : {T : Type 0} → Result T ScrubFault → Answer
told_done (Ok nothing) = Done
told_done (Err fault) = Scrub fault

abbrev pub told_moved : Result Moved ScrubFault → Answer
told_moved (Ok (moves.At ino)) = At ino
told_moved (Ok moves.End) = answers.End
told_moved (Err fault) = Scrub fault

-- ---- of a writer's event

abbrev pub told_by : {T : Type 0} → (T → Answer) → Result T WriteFault → Answer
told_by tell (Ok answer) = tell answer
told_by tell (Err fault) = Write fault

-- an inode with its chain
abbrev pub told_taken : ℕ × ℕ → Answer
told_taken taken = Taken taken.0 taken.1
