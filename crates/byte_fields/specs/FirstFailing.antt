-- Tests in an order, of which the first that fails names the fault.
use Rattle.std.specs.Prelude.{◌≡◌, Bool, List, [], ◌∷◌, Option, Some, None, Result, MatchResult, if◌then◌else◌}

-- the fault of the first test that fails; the tests after it aren't looked at
abbrev pub first_failing : {F : Type 0} → List (Bool × F) → Option F
first_failing [] = None
first_failing (test ∷ tests) = if test.0 then first_failing tests else Some test.1

-- a value is answered exactly where there is no fault, and it is right; an error is this fault
abbrev pub Decodes : {T F : Type 0} → Option F → (T → Type 0) → Result T F → Type 0
Decodes fault Right result = MatchResult result (λ value. (fault ≡ None) × Right value) (λ error. fault ≡ Some error)

-- the same with errors beside the fault: each has its cause
abbrev pub DecodesOr : {T F E : Type 0} → (E → Option F → Type 0) → Option F → (T → Type 0) → Result T E → Type 0
DecodesOr Refuses fault Right result = MatchResult result (λ value. (fault ≡ None) × Right value) (λ error. Refuses error fault)
