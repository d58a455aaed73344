-- What refusals add to the journal, behind calls that add no entry.
use Rattle.std.proofs.Common.{◌≡◌, ℕ, refl, sym, subst}
use Rattle.std.specs.Prelude.{◌++◌, ◌∷◌, [], List, Result, Ok, Err, IfOk, OnErr}
use Rattle.core_calls.specs.declared.answers.WriteFault.{WriteFault}
use Rattle.core_calls.specs.declared.answers.WriteFault.TheVariants as faults
use Rattle.core_chains.specs.Write.Says.{RefusesBy, SaysMet, SaysRefused, met_on}
use Rattle.core_chains.specs.Write.Says.Met.{Before, Faulty, Owned}
use Rattle.fs_model.specs.declared.entry.Entry.{Entry}
use Rattle.fs_model.specs.declared.entry.Entry.TheVariants as entries
use Rattle.fs_model.specs.declared.fault.Cause.{Cause}
use Rattle.sblock.specs.declared.kind.Kind.{Kind}
use Rattle.sblock.specs.declared.kind.Kind.TheVariants.{Bno}

pub met_none : (g : ℕ) (kind : Kind) (was now : List Entry) → now ≡ was → SaysMet g kind was now
met_none g kind was now same = (Before, tt, same)

pub met_faulty : (g : ℕ) (kind : Kind) (cause : Cause) (was now : List Entry) → now ≡ was ++ entries.Marked g kind cause ∷ [] → SaysMet g kind was now
met_faulty g kind cause was now said = (Faulty cause, tt, said)

pub met_owned : (g : ℕ) (was now : List Entry) → now ≡ met_on was g Bno Owned → SaysMet g Bno was now
met_owned g was now said = (Owned, refl, said)

-- no entry came
pub refused_none : (fault : WriteFault) (was now : List Entry) → now ≡ was → SaysRefused fault was now
refused_none faults.NoFile was now same = same
refused_none faults.Occupied was now same = same
refused_none faults.Hole was now same = same
refused_none faults.ForkFull was now same = same
refused_none faults.TreeFork was now same = same
refused_none faults.NoSpace was now same = same
refused_none (faults.Sick g kind) was now same = met_none g kind was now same
refused_none faults.CountMax was now same = same
refused_none faults.TooLarge was now same = same
refused_none (faults.Busy ino) was now same = same
refused_none (faults.Closing g) was now same = same
refused_none (faults.Shut n) was now same = same
refused_none faults.Memory was now same = same
refused_none faults.Crowded was now same = same
refused_none faults.NoChain was now same = same
refused_none (faults.OtherStep kind) was now same = same
refused_none faults.JournalFull was now same = same

pub refuses_none : {T : Type 0} (r : Result T WriteFault) (was now : List Entry) → OnErr r (now ≡ was) → RefusesBy r was now
refuses_none (Ok x) was now same = tt
refuses_none (Err fault) was now same = refused_none fault was now same

-- the same of any answer
pub refuses_same : {T : Type 0} (r : Result T WriteFault) (was now : List Entry) → now ≡ was → RefusesBy r was now
refuses_same (Ok x) was now same = tt
refuses_same (Err fault) was now same = refused_none fault was now same

-- marks came behind calls that added no entry
pub refused_on : (fault : WriteFault) (was mid now : List Entry) → mid ≡ was → SaysRefused fault mid now → SaysRefused fault was now
refused_on fault was mid now same says = subst (λ (es : List Entry). SaysRefused fault es now) same says

pub refuses_on : {T : Type 0} (r : Result T WriteFault) (was mid now : List Entry) → mid ≡ was → RefusesBy r mid now → RefusesBy r was now
refuses_on r was mid now same refuses = subst (λ (es : List Entry). RefusesBy r es now) same refuses

-- ---- an index is marked, and told as sick

pub not_ok : {T : Type 0} (P : T → Type 0) (r : Result T WriteFault) (fault : WriteFault) → r ≡ Err fault → IfOk r P
not_ok {T} P r fault is = subst (λ (x : Result T WriteFault). IfOk x P) (sym is) tt

pub marked_refuses : {T : Type 0} (r : Result T WriteFault) (g : ℕ) (kind : Kind) (cause : Cause) (was now : List Entry) → r ≡ Err (faults.Sick g kind) → now ≡ was ++ entries.Marked g kind cause ∷ [] → RefusesBy r was now
marked_refuses {T} r g kind cause was now is said = subst (λ (x : Result T WriteFault). RefusesBy x was now) (sym is) (met_faulty g kind cause was now said)

pub owned_refuses : {T : Type 0} (r : Result T WriteFault) (g : ℕ) (was now : List Entry) → r ≡ Err (faults.Sick g Bno) → now ≡ met_on was g Bno Owned → RefusesBy r was now
owned_refuses {T} r g was now is said = subst (λ (x : Result T WriteFault). RefusesBy x was now) (sym is) (met_owned g was now said)

-- ---- behind calls that add no entry

pub unsaid_on : {T E : Type 0} (r : Result T E) (was mid now : List Entry) → mid ≡ was → OnErr r (now ≡ mid) → OnErr r (now ≡ was)
unsaid_on r was mid now same says = subst (λ (es : List Entry). OnErr r (now ≡ es)) same says
