-- Entries that calls add, one after the other.
use Rattle.std.proofs.Common.{◌≡◌, ◌∙◌, ℕ, refl, sym, ap, subst, append-nil, append_assoc}
use Rattle.std.specs.Prelude.{◌++◌, [], List, Result, Ok, Err, IsErr, IsErrAnd}
use Rattle.core_calls.specs.declared.answers.ScrubFault.{ScrubFault}
use Rattle.core_calls.specs.declared.answers.ScrubFault.TheVariants as faults
use Rattle.core_parts.specs.Common.Entries.{HasMore, IsHalt, WantsRoom, entries_of, entries_on}
use Rattle.core_parts.specs.declared.desk.Desk.{Desk}
use Rattle.fs_model.specs.declared.entry.Entry.{Entry}
use Rattle.fs_model.specs.declared.unit.Unit.{Unit as ScrubUnit}

-- for want of room no entry comes
pub room_none : (g : ℕ) (unit : ScrubUnit) (fault : ScrubFault) → WantsRoom fault → entries_on g unit fault ≡ []
room_none g unit faults.JournalFull is = refl
room_none g unit faults.Memory is = refl
room_none g unit fault is = absurd is

-- nor where the device or memory stops a call
pub halt_none : (g : ℕ) (unit : ScrubUnit) (fault : ScrubFault) → IsHalt fault → entries_on g unit fault ≡ []
halt_none g unit (faults.Shut count) is = refl
halt_none g unit faults.Memory is = refl
halt_none g unit fault is = absurd is

-- a refusal that `?` hands on
pub with_err : {T : Type 0} (P : Result T ScrubFault → Type 0) (fault : ScrubFault) (r : Result T ScrubFault) → IsErr r × IsErrAnd r (λ e. e ≡ fault) → P (Err fault) → P r
with_err P fault (Ok x) is p = absurd is.1
with_err P fault (Err e) is p = subst (λ (h : ScrubFault). P (Err h)) (sym is.1) p

module _ {D : Type 0} where
  -- the entries stay
  pub none_more : (old new : Desk D) → new.book.journal.items ≡ old.book.journal.items → HasMore old new []
  none_more old new same = same ∙ sym (append-nil old.book.journal.items)

  pub same_of_none : (old new : Desk D) → HasMore old new [] → new.book.journal.items ≡ old.book.journal.items
  same_of_none old new none = none ∙ append-nil old.book.journal.items

  pub room_more : (old new : Desk D) (g : ℕ) (unit : ScrubUnit) (fault : ScrubFault) → new.book.journal.items ≡ old.book.journal.items → WantsRoom fault → HasMore old new (entries_on g unit fault)
  room_more old new g unit fault same is = none_more old new same ∙ ap (λ (es : List Entry). old.book.journal.items ++ es) (sym (room_none g unit fault is))

  pub halt_more : (old new : Desk D) (g : ℕ) (unit : ScrubUnit) (fault : ScrubFault) → new.book.journal.items ≡ old.book.journal.items → IsHalt fault → HasMore old new (entries_on g unit fault)
  halt_more old new g unit fault same is = none_more old new same ∙ ap (λ (es : List Entry). old.book.journal.items ++ es) (sym (halt_none g unit fault is))

  -- they come after a call that added none
  pub more_after : (old mid new : Desk D) (added : List Entry) → mid.book.journal.items ≡ old.book.journal.items → HasMore mid new added → HasMore old new added
  more_after old mid new added same more = more ∙ ap (λ (es : List Entry). es ++ added) same

  -- some entries, and then some more
  pub more_on : (old mid new : Desk D) (es fs : List Entry) → HasMore old mid es → HasMore mid new fs → HasMore old new (es ++ fs)
  more_on old mid new es fs a b = b ∙ (ap (λ (xs : List Entry). xs ++ fs) a ∙ append_assoc old.book.journal.items es fs)

  -- a refusal for want of room that `?` hands on
  pub room_exit : {T : Type 0} (old new : Desk D) (g : ℕ) (unit : ScrubUnit) (fault : ScrubFault) (r : Result T ScrubFault) → IsErr r × IsErrAnd r (λ e. e ≡ fault) → new.book.journal.items ≡ old.book.journal.items → WantsRoom fault → HasMore old new (entries_of g unit r)
  room_exit old new g unit fault r is same wants = with_err (λ a. HasMore old new (entries_of g unit a)) fault r is (room_more old new g unit fault same wants)
