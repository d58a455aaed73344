-- How far a unit is after a piece of the gathering.
use Rattle.std.specs.Prelude.{Bool, true, false}
use Rattle.core_calls.specs.declared.answers.Phase.{Phase}
use Rattle.core_calls.specs.declared.answers.Phase.TheVariants.{Closed, Gathered}

-- the phase after a piece, by whether it was the last
abbrev pub after_gathering : Bool → Phase
after_gathering false = Closed
after_gathering true = Gathered
