-- What no event of a unit changes of it, and which refusals may come.
use Rattle.std.proofs.Common.{◌≡◌, ◌∙◌, ℕ, refl, sym, ap, subst, inl, inr}
use Rattle.std.specs.Prelude.{◌⊎◌, Result, Ok, Err, IfErr}
use Rattle.core_begin.specs.After.{MayClose, MayMove, MayRead}
use Rattle.core_calls.specs.declared.answers.ScrubFault.{ScrubFault}
use Rattle.core_calls.specs.declared.answers.ScrubFault.TheVariants as faults
use Rattle.core_parts.specs.Common.Entries.{IsHalt, WantsRoom}
use Rattle.core_parts.specs.declared.units.UnitState.{UnitState}
use Rattle.core_parts.specs.declared.units.Work.{Work}

-- all but the work and the turns that were lost stays
abbrev pub IsRest : UnitState → UnitState → Type 0
IsRest old new = new ≡ record old { work = new.work; asked = new.asked }

pub rest_same : (u n : UnitState) → n ≡ u → IsRest u n
rest_same u n same = subst (λ (x : UnitState). IsRest u x) (sym same) refl

pub rest_put : (u n : UnitState) (w : Work) → n ≡ record u { work = w } → IsRest u n
rest_put u n w put = subst (λ (x : UnitState). IsRest u x) (sym put) refl

-- the work was put before
pub rest_after : (u p n : UnitState) (w : Work) → p ≡ record u { work = w } → IsRest p n → IsRest u n
rest_after u p n w put rest = rest ∙ ap (λ (x : UnitState). record x { work = n.work; asked = n.asked }) put

-- ---- which refusals may come

pub room_may : (turns : ℕ) (fault : ScrubFault) → WantsRoom fault → MayRead turns fault
room_may turns faults.JournalFull is = tt
room_may turns faults.Memory is = tt
room_may turns fault is = absurd is

pub halt_may : (turns : ℕ) (fault : ScrubFault) → IsHalt fault → MayRead turns fault
halt_may turns (faults.Shut count) is = tt
halt_may turns faults.Memory is = tt
halt_may turns fault is = absurd is

pub read_move : (turns : ℕ) (fault : ScrubFault) → MayRead turns fault → MayMove turns fault
read_move turns (faults.Busy ino) may = tt
read_move turns (faults.Draining g count) may = may
read_move turns (faults.UnitOpen g unit) may = may
read_move turns (faults.Skipped g unit) may = may
read_move turns (faults.GaveUp reason) may = may
read_move turns (faults.OtherPhase phase) may = may
read_move turns faults.JournalFull may = may
read_move turns (faults.Shut count) may = may
read_move turns faults.Memory may = may

pub read_close : (turns : ℕ) (fault : ScrubFault) → MayRead turns fault → MayClose turns fault
read_close turns (faults.Busy ino) may = may
read_close turns (faults.Draining g count) may = tt
read_close turns (faults.UnitOpen g unit) may = may
read_close turns (faults.Skipped g unit) may = may
read_close turns (faults.GaveUp reason) may = may
read_close turns (faults.OtherPhase phase) may = may
read_close turns faults.JournalFull may = may
read_close turns (faults.Shut count) may = may
read_close turns faults.Memory may = may

pub halt_move : (turns : ℕ) (fault : ScrubFault) → IsHalt fault → MayMove turns fault
halt_move turns fault is = read_move turns fault (halt_may turns fault is)

-- a turn was lost, or the unit given up
pub lost_move : (turns ino : ℕ) (fault : ScrubFault) → MayRead turns fault ⊎ (fault ≡ faults.Busy ino) → MayMove turns fault
lost_move turns ino fault (inl may) = read_move turns fault may
lost_move turns ino fault (inr is) = subst (λ (e : ScrubFault). MayMove turns e) (sym is) tt

pub lost_close : (turns g count : ℕ) (fault : ScrubFault) → MayRead turns fault ⊎ (fault ≡ faults.Draining g count) → MayClose turns fault
lost_close turns g count fault (inl may) = read_close turns fault may
lost_close turns g count fault (inr is) = subst (λ (e : ScrubFault). MayClose turns e) (sym is) tt

-- without memory alone
pub memory_move : {T : Type 0} (turns : ℕ) (r : Result T ScrubFault) → IfErr r (λ fault. fault ≡ faults.Memory) → IfErr r (MayMove turns)
memory_move turns (Ok x) is = tt
memory_move turns (Err fault) is = subst (λ (e : ScrubFault). MayMove turns e) (sym is) tt

-- of a unit whose work was put or taken out
pub may_after : {T : Type 0} (May : ℕ → ScrubFault → Type 0) (u p : UnitState) (w : Work) (r : Result T ScrubFault) → p ≡ record u { work = w } → IfErr r (May p.turns) → IfErr r (May u.turns)
may_after May u p w r put may = subst (λ (x : UnitState). IfErr r (May x.turns)) put may

pub one_after : (May : ℕ → ScrubFault → Type 0) (u p : UnitState) (w : Work) (fault : ScrubFault) → p ≡ record u { work = w } → May p.turns fault → May u.turns fault
one_after May u p w fault put may = subst (λ (x : UnitState). May x.turns fault) put may
