-- What a refusal adds to the journal: nothing, or the marks of what made an index sick ("Eventual Consistency").
use Rattle.std.specs.Prelude.{◌≡◌, ◌++◌, ◌∷◌, ⊤, [], ℕ, List, Result, IfErr}
use Rattle.core_calls.specs.declared.answers.WriteFault.{WriteFault}
use Rattle.core_calls.specs.declared.answers.WriteFault.TheVariants as faults
use Rattle.fs_model.specs.declared.entry.Entry.{Entry}
use Rattle.fs_model.specs.declared.entry.Entry.TheVariants as entries
use Rattle.fs_model.specs.declared.fault.Cause.{Cause}
use Rattle.fs_model.specs.declared.fault.Cause.TheVariants.{Owner}
use Rattle.sblock.specs.declared.kind.Kind.{Kind}
use Rattle.sblock.specs.declared.kind.Kind.TheVariants.{Bno, Cnt}

-- an index was sick before; it met a fault; or a run that was to be taken has an owner
pub data Met : Type 0 where
  Before : Met
  Faulty : Cause → Met
  Owned : Met

-- a fault marks its index, an owner both indexes of free space
abbrev pub met_on : List Entry → ℕ → Kind → Met → List Entry
met_on was g kind Before = was
met_on was g kind (Faulty cause) = was ++ entries.Marked g kind cause ∷ []
met_on was g kind Owned = was ++ entries.Marked g Bno Owner ∷ entries.Marked g Cnt Owner ∷ []

-- of both the first one is told
abbrev pub MayMeet : Kind → Met → Type 0
MayMeet kind Before = ⊤
MayMeet kind (Faulty cause) = ⊤
MayMeet kind Owned = kind ≡ Bno

abbrev pub SaysMet : ℕ → Kind → (was now : List Entry) → Type 0
SaysMet g kind was now = (met : Met) × MayMeet kind met × (now ≡ met_on was g kind met)

-- only an answer that an index is sick comes with marks
abbrev pub SaysRefused : WriteFault → (was now : List Entry) → Type 0
SaysRefused (faults.Sick g kind) was now = SaysMet g kind was now
SaysRefused fault was now = now ≡ was

abbrev pub RefusesBy : {T : Type 0} → Result T WriteFault → (was now : List Entry) → Type 0
RefusesBy answer was now = IfErr answer (λ fault. SaysRefused fault was now)
