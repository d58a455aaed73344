-- What events of inodes say, behind calls that add no entry.
use Rattle.std.proofs.Common.{◌≡◌, ◌∙◌, ℕ, refl, sym, ap, subst}
use Rattle.std.specs.Prelude.{◌++◌, List, [], ◌∷◌, Option, None, Some, Result, Ok, Err, IfOk, OnOk, false, is_some}
use Rattle.std.specs.List.{slice_get}
use Rattle.std.specs.Option.{option_map}
use Rattle.core_files.specs.Inodes.Entries.{HasGiven, IsLone, SaysTaken, given_on}
use Rattle.core_parts.specs.declared.desk.Desk.{Desk}
use Rattle.defer_chain.specs.Owed.{owed}
use Rattle.defer_chain.specs.Steps.{step_of}
use Rattle.defer_chain.specs.declared.chain.Chain.{Chain}
use Rattle.defer_chain.specs.declared.kinds.StepKind.{StepKind}
use Rattle.fs_model.specs.declared.entry.Entry.{Entry}
use Rattle.fs_model.specs.declared.entry.Entry.TheVariants as entries
use Rattle.fs_state.specs.declared.intent.Intent.{Intent}

pub taken_said : (writer uid ino : ℕ) (chunk : Option ℕ) (was now : List Entry) → now ≡ was ++ entries.Taken writer ino uid chunk ∷ [] → SaysTaken writer uid ino was now
taken_said writer uid ino chunk was now said = record { chunk = chunk; said = said }

pub taken_on : {E : Type 0} (writer uid : ℕ) (r : Result (ℕ × ℕ) E) (was mid now : List Entry) → IfOk r (λ t. SaysTaken writer uid t.0 mid now) → mid ≡ was → IfOk r (λ t. SaysTaken writer uid t.0 was now)
taken_on writer uid r was mid now says same = subst (λ (es : List Entry). IfOk r (λ t. SaysTaken writer uid t.0 es now)) same says

pub given_behind : {T E : Type 0} (c : Chain) (r : Result T E) (was mid now : List Entry) → OnOk r (now ≡ given_on mid c) → mid ≡ was → OnOk r (now ≡ given_on was c)
given_behind c r was mid now says same = subst (λ (es : List Entry). OnOk r (now ≡ given_on es c)) same says

-- of the chain that was asked for
pub lone_given : {D T E : Type 0} (old mid new : Desk D) (c : Chain) (number : ℕ) (r : Result T E) → OnOk r (new.book.journal.items ≡ given_on mid.book.journal.items c) → IsLone old number c → mid.book.journal.items ≡ old.book.journal.items → OnOk r (HasGiven number old new)
lone_given old mid new c number (Ok x) says lone same = record { chain = c; lone = lone; said = says ∙ ap (λ (es : List Entry). given_on es c) same }
lone_given old mid new c number (Err e) says lone same = tt

-- ---- a chain of one inode, without a next step

pub none_second : {X : Type 0} (o : Option X) → is_some o ≡ false → o ≡ None
none_second None is = refl
none_second (Some x) is = cc

kind_none : (is : List Intent) → option_map (λ (i : Intent). step_of i.kind) (slice_get is 0) ≡ None → is ≡ []
kind_none [] none = refl
kind_none (i ∷ is) none = cc

pub none_owed : (c : Chain) → None ≡ option_map (λ (i : Intent). step_of i.kind) (slice_get (owed c) 0) → owed c ≡ []
none_owed c none = kind_none (owed c) (sym none)
