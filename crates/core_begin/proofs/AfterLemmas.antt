-- What refusals leave of a unit, one call after the other.
use Rattle.std.proofs.Common.{◌≡◌, ◌∙◌, ℕ, ◌+◌, refl, sym, ap, subst, inl, inr, append-nil}
use Rattle.std.specs.Prelude.{[], Result, Ok, Err, IfErr, IfOk, OnErr}
use Rattle.core_begin.specs.After.{IsAtEnd, IsGivingUp, IsLeftAt, IsLeftByMove, IsLeftByPiece, IsStuck, IsWait, Reaches, ScansOn, left_by}
use Rattle.core_begin.specs.declared.moves.Reach.{Reach}
use Rattle.core_begin.specs.declared.moves.Reach.TheVariants as reaches
use Rattle.core_calls.specs.declared.answers.ScrubFault.{ScrubFault}
use Rattle.core_calls.specs.declared.answers.ScrubFault.TheVariants as faults
use Rattle.core_parts.specs.Common.Entries.{HasMore, IsHalt, WantsRoom, entries_of, entries_on}
use Rattle.core_parts.specs.declared.desk.Desk.{Desk}
use Rattle.core_parts.specs.declared.units.UnitState.{UnitState}
use Rattle.core_parts.specs.declared.units.Work.{Work}
use Rattle.core_parts.specs.declared.units.Work.TheVariants as works
use Rattle.core_scan.specs.Calls.{IsAt, Stays}
use Rattle.core_scan.specs.declared.scan.Moved.TheVariants.{End}
use Rattle.core_scan.specs.declared.scan.Scan.{Scan}
use Rattle.fs_model.specs.declared.unit.Unit.{Unit as ScrubUnit}

pub err_on : {T E : Type 0} {P : E → Type 0} (r : Result T E) (Q : E → Type 0) → ((e : E) → P e → Q e) → IfErr r P → IfErr r Q
err_on (Ok x) Q f h = tt
err_on (Err e) Q f h = f e h

pub err_both : {T E : Type 0} {P Q : E → Type 0} (r : Result T E) (R : E → Type 0) → ((e : E) → P e → Q e → R e) → IfErr r P → IfErr r Q → IfErr r R
err_both (Ok x) R f p q = tt
err_both (Err e) R f p q = f e p q

pub err_then : {T E P Q : Type 0} (r : Result T E) → (P → Q) → OnErr r P → OnErr r Q
err_then (Ok x) f p = tt
err_then (Err e) f p = f p

-- ---- what kind of refusal it is

pub room_kept : (u : UnitState) (fault : ScrubFault) → WantsRoom fault → left_by u fault ≡ u
room_kept u faults.JournalFull is = refl
room_kept u faults.Memory is = refl
room_kept u fault is = absurd is

pub room_gives : (fault : ScrubFault) → WantsRoom fault → IsGivingUp fault
room_gives faults.JournalFull is = tt
room_gives faults.Memory is = tt
room_gives fault is = absurd is

pub wait_none : (g : ℕ) (unit : ScrubUnit) (fault : ScrubFault) → IsWait fault → entries_on g unit fault ≡ []
wait_none g unit (faults.Busy ino) is = refl
wait_none g unit (faults.Draining h count) is = refl
wait_none g unit fault is = absurd is

pub wait_kept : (u : UnitState) (fault : ScrubFault) → IsWait fault → left_by u fault ≡ record u { asked = u.asked + 1 }
wait_kept u (faults.Busy ino) is = refl
wait_kept u (faults.Draining h count) is = refl
wait_kept u fault is = absurd is

pub halt_kept : (u : UnitState) (fault : ScrubFault) → IsHalt fault → left_by u fault ≡ u
halt_kept u (faults.Shut count) is = refl
halt_kept u faults.Memory is = refl
halt_kept u fault is = absurd is

-- ---- work that was taken out

-- it is put back
pub put_back : (u t : UnitState) (w : Work) → t ≡ record u { work = works.Judged } → u.work ≡ w → record t { work = w } ≡ u
put_back u t w taken was = ap (λ (x : UnitState). record x { work = w }) taken ∙ ap (λ (x : Work). record u { work = x }) (sym was)

-- the entries are of the unit that it was taken from
pub entries_taken : {T D : Type 0} (old new : Desk D) (u t : UnitState) (r : Result T ScrubFault) → t ≡ record u { work = works.Judged } → HasMore old new (entries_of t.group t.unit r) → HasMore old new (entries_of u.group u.unit r)
entries_taken old new u t r taken more = subst (λ (x : UnitState). HasMore old new (entries_of x.group x.unit r)) taken more

-- they are of the unit whose work was put
pub entries_put : {D : Type 0} (old new : Desk D) (u p : UnitState) (w : Work) (fault : ScrubFault) → p ≡ record u { work = w } → HasMore old new (entries_on p.group p.unit fault) → HasMore old new (entries_on u.group u.unit fault)
entries_put old new u p w fault put more = subst (λ (x : UnitState). HasMore old new (entries_on x.group x.unit fault)) put more

pub left_put : (u p new : UnitState) (w : Work) (fault : ScrubFault) → p ≡ record u { work = w } → new ≡ left_by p fault → new ≡ left_by (record u { work = w }) fault
left_put u p new w fault put left = left ∙ ap (λ (x : UnitState). left_by x fault) put

-- ---- a piece

pub scans_on : (u : UnitState) (was now : Scan) (new : UnitState) → Stays was now → new ≡ record u { work = works.Scanning now } → ScansOn (record u { work = works.Scanning was }) new
scans_on u was now new stays rest = record { was = was; now = now; scanning = refl; stays = stays; rest = rest }

pub given_up_piece : (u : UnitState) (was now : Scan) (new : UnitState) (fault : ScrubFault) → IsGivingUp fault → Stays was now → new ≡ left_by (record u { work = works.Scanning now }) fault → IsLeftByPiece (record u { work = works.Scanning was }) fault new
given_up_piece u was now new (faults.GaveUp reason) is stays left = left
given_up_piece u was now new faults.JournalFull is stays left = scans_on u was now new stays left
given_up_piece u was now new faults.Memory is stays left = scans_on u was now new stays left
given_up_piece u was now new fault is stays left = absurd is

pub halted_piece : (u : UnitState) (was now : Scan) (new : UnitState) (fault : ScrubFault) → IsHalt fault → Stays was now → new ≡ record u { work = works.Scanning now } → IsLeftByPiece (record u { work = works.Scanning was }) fault new
halted_piece u was now new (faults.Shut count) is stays rest = scans_on u was now new stays rest
halted_piece u was now new faults.Memory is stays rest = scans_on u was now new stays rest
halted_piece u was now new fault is stays rest = absurd is

-- ---- a move

pub stuck_reaches : (was now : Scan) (r : Result Reach ScrubFault) → IfOk r IsStuck → now ≡ was → Reaches was now r
stuck_reaches was now (Ok (reaches.At ino)) is same = absurd is
stuck_reaches was now (Ok reaches.End) is same = absurd is
stuck_reaches was now (Ok (reaches.Busy ino)) is same = same
stuck_reaches was now (Ok (reaches.Bad block)) is same = same
stuck_reaches was now (Err fault) is same = same

pub move_left : (u new : UnitState) (fault : ScrubFault) → new ≡ left_by u fault → IsLeftByMove u fault new
move_left u new faults.Memory left = inl left
move_left u new fault left = left

same_left : (u : UnitState) (was now : Scan) (new : UnitState) (fault : ScrubFault) → now ≡ was → new ≡ left_by (record u { work = works.Scanning now }) fault → IsLeftByMove (record u { work = works.Scanning was }) fault new
same_left u was now new fault same left = move_left (record u { work = works.Scanning was }) new fault (left ∙ ap (λ (s : Scan). left_by (record u { work = works.Scanning s }) fault) same)

ended : (u : UnitState) (was now : Scan) (new : UnitState) → Stays was now → IsAt End now → new ≡ record u { work = works.Scanning now } → IsAtEnd (record u { work = works.Scanning was }) new
ended u was now new stays at rest = record { on = record { was = was; now = now; scanning = refl; stays = stays; rest = rest }; end = at }

-- without memory at the end of a scan no entry comes
pub memory_more : {T D : Type 0} (k : Desk D) (g : ℕ) (unit : ScrubUnit) (r : Result T ScrubFault) → IfErr r (λ fault. fault ≡ faults.Memory) → HasMore k k (entries_of g unit r)
memory_more k g unit (Ok x) is = sym (append-nil k.book.journal.items)
memory_more k g unit (Err fault) is = subst (λ (e : ScrubFault). HasMore k k (entries_on g unit e)) (sym is) (sym (append-nil k.book.journal.items))

pub memory_left : {T : Type 0} (reach : Reach) (u new : UnitState) (r : Result T ScrubFault) → reach ≡ reaches.End → IfErr r (λ fault. fault ≡ faults.Memory) → OnErr r (new ≡ u) → IfErr r (λ fault. IsLeftAt reach u fault new)
memory_left reach u new (Ok x) to is left = tt
memory_left reach u new (Err fault) to is left = subst (λ (r : Reach). IsLeftAt r u fault new) (sym to) (is, left)

-- what is left where the scan has come to
pub left_at : (reach to : Reach) (u new : UnitState) (fault : ScrubFault) → reach ≡ to → IsLeftAt to u fault new → IsLeftAt reach u fault new
left_at reach to u new fault is left = subst (λ (r : Reach). IsLeftAt r u fault new) (sym is) left

pub moved_left : (u : UnitState) (was now : Scan) (new : UnitState) (reach : Reach) (fault : ScrubFault) → Stays was now → Reaches was now (Ok reach) → IsLeftAt reach (record u { work = works.Scanning now }) fault new → IsLeftByMove (record u { work = works.Scanning was }) fault new
moved_left u was now new (reaches.At ino) fault stays at left = absurd left
moved_left u was now new reaches.End fault stays at left = subst (λ (e : ScrubFault). IsLeftByMove (record u { work = works.Scanning was }) e new) (sym left.0) (inr (ended u was now new stays at left.1))
moved_left u was now new (reaches.Busy ino) fault stays same left = same_left u was now new fault same left
moved_left u was now new (reaches.Bad block) fault stays same left = same_left u was now new fault same left

pub halted_move : (u : UnitState) (was now : Scan) (new : UnitState) (fault : ScrubFault) → IsHalt fault → now ≡ was → new ≡ record u { work = works.Scanning now } → IsLeftByMove (record u { work = works.Scanning was }) fault new
halted_move u was now new fault is same rest = same_left u was now new fault same (rest ∙ sym (halt_kept (record u { work = works.Scanning now }) fault is))
