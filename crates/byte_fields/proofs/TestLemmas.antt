-- A list of tests, each beside the fault that it shows: none fails exactly where each passes.
use Rattle.std.proofs.Common.{◌≡◌, Bool, true, false, List, [], ◌∷◌, Option, Some, None, refl}
use Rattle.std.specs.Prelude.{⊤, if◌then◌else◌}
use Rattle.byte_fields.specs.FirstFailing.{first_failing}

-- each test passes
abbrev pub AllPass : {F : Type 0} → List (Bool × F) → Type 0
AllPass [] = ⊤
AllPass (test ∷ tests) = (test.0 ≡ true) × AllPass tests

passes : {F : Type 0} (test : Bool) (fault : F) (rest : Option F) → (if test then rest else Some fault) ≡ None → (test ≡ true) × (rest ≡ None)
passes true fault rest h = (refl, h)
passes false fault rest h = cc

-- where no test fails, each passes
pub all_pass : {F : Type 0} (tests : List (Bool × F)) → first_failing tests ≡ None → AllPass tests
all_pass [] h = tt
all_pass (test ∷ tests) h =
    let first = passes test.0 test.1 (first_failing tests) h in
    (first.0, all_pass tests first.1)

goes_on : {F : Type 0} (test : Bool) (fault : F) (rest : Option F) → test ≡ true → rest ≡ None → (if test then rest else Some fault) ≡ None
goes_on true fault rest t h = h
goes_on false fault rest t h = cc

-- and the other way round
pub none_fails : {F : Type 0} (tests : List (Bool × F)) → AllPass tests → first_failing tests ≡ None
none_fails [] h = refl
none_fails (test ∷ tests) h = goes_on test.0 test.1 (first_failing tests) h.0 (none_fails tests h.1)
