-- Each answer of the core leaves a session on its course: which verdict its entries say, and what is known then.
use Rattle.std.proofs.Common.{◌≡◌, ◌∙◌, ℕ, zero, suc, ◌<◌, Bool, true, false, refl, sym, ap, subst, inl, inr, append-nil}
use Rattle.std.specs.Prelude.{List, [], ◌∷◌, ◌++◌, ◌⊎◌, ◌≤◌, ⊤, Option, Some, None, Result, Ok, Err, IfErr, OnErr, OnOk, length, map, nat_le, slice_set, ◌==◌, ◌+◌, if◌then◌else◌}
use Rattle.std.specs.List.{slice_get}
use Rattle.block_reap.specs.declared.runs.LimboRun.{LimboRun}
use Rattle.core_begin.specs.Starts.{Clears, IsOpened, MayBar}
use Rattle.core_build.specs.Says.{Does, Takes}
use Rattle.core_calls.specs.declared.answers.Answer.{Answer}
use Rattle.core_calls.specs.declared.answers.Answer.TheVariants as answers
use Rattle.core_calls.specs.declared.answers.Phase.{Phase}
use Rattle.core_calls.specs.declared.answers.Phase.TheVariants as phases
use Rattle.core_calls.specs.declared.answers.ScrubFault.{ScrubFault}
use Rattle.core_calls.specs.declared.answers.ScrubFault.TheVariants as faults
use Rattle.core_calls.specs.declared.asks.Ask.{Ask}
use Rattle.core_calls.specs.declared.asks.Ask.TheVariants as asks
use Rattle.core_check.specs.Told.{entry_of}
use Rattle.core_parts.specs.Common.Entries.{HasMore, entries_on}
use Rattle.core_parts.specs.Common.Marks.{mark_of, marks_of}
use Rattle.core_parts.specs.Phases.{phase_at, phase_in}
use Rattle.core_parts.specs.declared.desk.Desk.{Desk}
use Rattle.core_parts.specs.declared.groups.GroupKept.{GroupKept}
use Rattle.core_parts.specs.declared.parts.Parts.{Parts}
use Rattle.core_parts.specs.declared.units.UnitState.{UnitState}
use Rattle.core_parts.specs.declared.units.Work.{Work}
use Rattle.core_parts.specs.declared.units.Work.TheVariants as works
use Rattle.core_edit.specs.declared.place.IndexesLeft.{IndexesLeft}
use Rattle.core_units.specs.declared.rebuild.Next.{Next}
use Rattle.core_units.specs.declared.rebuild.Next.TheVariants as nexts
use Rattle.fs_model.specs.declared.entry.Entry.{Entry}
use Rattle.fs_model.specs.declared.entry.Entry.TheVariants as entries
use Rattle.fs_model.specs.declared.fault.Cause.{Cause}
use Rattle.fs_model.specs.declared.fault.Fault.{Fault}
use Rattle.fs_model.specs.declared.unit.Unit.{Unit as ScrubUnit}
use Rattle.fs_model.specs.declared.verdict.Reason.{Reason}
use Rattle.fs_model.specs.declared.verdict.Reason.TheVariants as reasons
use Rattle.fs_model.specs.declared.verdict.Verdict.{Verdict}
use Rattle.fs_model.specs.declared.verdict.Verdict.TheVariants as verdicts
use Rattle.fs_state.specs.Session.{Place, FitsReason, FitsVerdict, MayBeFaulty, MayBeGood, first_unready, stands, verdict_places}
use Rattle.fs_state.specs.declared.plan.Plan.{Plan}
use Rattle.fs_state.specs.declared.plan.Plan.TheVariants as plans
use Rattle.fsck_core.specs.Entries.{IsDone, IsRefused, IsReleased, IsStarted, IsUnopened, NoneSaid, Says, SaysComparing, SaysOpen, SaysReopened, SaysStarting, SaysSwitching, entries_told}
use Rattle.fsck_core.specs.Moves.{IsNamed, Knows, MayTell}
use Rattle.fsck_core.specs.Told.{told_done, told_piece}
use Rattle.fsck_core.specs.declared.events.Event.TheVariants as events
use Rattle.quiet_repair.proofs.PlainLemmas.{ArePlain, end_fallen, end_fits, end_group, end_places, ended_by, plain_fallen, plain_group, plain_on, plain_places}
use Rattle.quiet_repair.proofs.StopLemmas.{opened_stop, unit_stop}
use Rattle.quiet_repair.specs.Courses.{HasOpen, past_in}
use Rattle.sblock.specs.declared.kind.Kind.{Kind}
use Rattle.sblock.specs.declared.kind.Kind.TheVariants.{Bno, Cnt, Rmap}
use Rattle.scrub_order.specs.Comes.{GivesUp, MayAnswer, MayRefuse, Stops, says}
use Rattle.scrub_order.specs.Course.{IsAtWork, SaysAt, is_open_at}
use Rattle.scrub_order.specs.Laws.{behind}
use Rattle.scrub_order.specs.Orders.{moved_by, next_of, opened_by, stopped_at, took_in}
use Rattle.scrub_order.specs.Table.{found}
use Rattle.scrub_order.specs.declared.at.Move.{Move}
use Rattle.scrub_order.specs.declared.at.Move.TheVariants as moves
use Rattle.fs_model.specs.declared.unit.Unit.TheVariants as units
use Rattle.scrub_order.specs.declared.at.At.{At}
use Rattle.scrub_order.specs.declared.at.At.TheVariants as ats
use Rattle.scrub_order.specs.declared.order.Order.{Order}
use Rattle.unit_trust.specs.Laws.{AreOfFallen, AreOfGroup, EntriesAgree, LacksAlike, OpeningAgrees}
use Rattle.unit_trust.specs.Trusts.{Agrees, KnownBy, lacks}

pub some_same : {X : Type 0} (x y : X) → Some x ≡ Some y → x ≡ y
some_same x y is = cc

pub none_some : {X : Type 0} (x : X) → None ≡ Some x → ⊥
none_some x is = cc

pub false_true : false ≡ true → ⊥
false_true is = cc

abbrev pub one_place : ℕ → ScrubUnit → List Place
one_place g u = (g, u) ∷ []

pub place_at : (g h : ℕ) (u v : ScrubUnit) → g ≡ h → u ≡ v → one_place g u ≡ one_place h v
place_at g h u v is same = subst (λ (x : ℕ). one_place g u ≡ one_place x v) is (ap (one_place g) same)

-- ---- places of lists

pub get_set : {X : Type 0} (xs : List X) (i : ℕ) (x y : X) → slice_get xs i ≡ Some y → slice_get (slice_set xs i x) i ≡ Some x
get_set [] zero x y is = absurd (none_some y is)
get_set [] (suc i) x y is = absurd (none_some y is)
get_set (z ∷ zs) zero x y is = refl
get_set (z ∷ zs) (suc i) x y is = get_set zs i x y is

pub set_same : {X : Type 0} (xs : List X) (i : ℕ) (x : X) → slice_get xs i ≡ Some x → slice_set xs i x ≡ xs
set_same [] i x is = refl
set_same (z ∷ zs) zero x is = ap (λ w. w ∷ zs) (sym (some_same z x is))
set_same (z ∷ zs) (suc i) x is = ap (λ ws. z ∷ ws) (set_same zs i x is)

-- ---- which verdict an answer says

-- by the answer alone
abbrev pub says_told : Answer → Bool
says_told (answers.Scrub (faults.Skipped h u)) = true
says_told (answers.Scrub (faults.GaveUp r)) = true
says_told a = false

-- no unit is skipped, and one that is given up fits its turns
abbrev pub FitsTold : (turns : ℕ) → Answer → Type 0
FitsTold turns (answers.Scrub (faults.Skipped h u)) = ⊥
FitsTold turns (answers.Scrub (faults.GaveUp r)) = FitsReason turns r
FitsTold turns a = ⊤

-- of the events whose entries are those that are told
pub advance_says : (g : ℕ) (a : Answer) (ph : Phase) → says (asks.Advance g) a ph ≡ says_told a
advance_says g (answers.Scrub (faults.Skipped h u)) ph = refl
advance_says g (answers.Scrub (faults.GaveUp r)) ph = refl
advance_says g (answers.Scrub f) ph = refl
advance_says g a ph = refl

pub scan_says : (g : ℕ) (a : Answer) (ph : Phase) → says (asks.ScanPiece g) a ph ≡ says_told a
scan_says g (answers.Scrub (faults.Skipped h u)) ph = refl
scan_says g (answers.Scrub (faults.GaveUp r)) ph = refl
scan_says g (answers.Scrub f) ph = refl
scan_says g a ph = refl

pub close_says : (g : ℕ) (a : Answer) (ph : Phase) → says (asks.Close g) a ph ≡ says_told a
close_says g (answers.Scrub (faults.Skipped h u)) ph = refl
close_says g (answers.Scrub (faults.GaveUp r)) ph = refl
close_says g (answers.Scrub f) ph = refl
close_says g a ph = refl

pub gather_says : (g : ℕ) (a : Answer) (ph : Phase) → says (asks.GatherPiece g) a ph ≡ says_told a
gather_says g (answers.Scrub (faults.Skipped h u)) ph = refl
gather_says g (answers.Scrub (faults.GaveUp r)) ph = refl
gather_says g (answers.Scrub f) ph = refl
gather_says g a ph = refl

pub advance_fits : (turns : ℕ) (a : Answer) → MayTell events.Advance turns a → FitsTold turns a
advance_fits turns (answers.Scrub (faults.Skipped h u)) may = may
advance_fits turns (answers.Scrub (faults.GaveUp r)) may = may
advance_fits turns (answers.Scrub f) may = tt
advance_fits turns a may = tt

pub scan_fits : (turns : ℕ) (a : Answer) → MayTell events.Scan turns a → FitsTold turns a
scan_fits turns (answers.Scrub (faults.Skipped h u)) may = may
scan_fits turns (answers.Scrub (faults.GaveUp r)) may = may
scan_fits turns (answers.Scrub f) may = tt
scan_fits turns a may = tt

pub close_fits : (turns : ℕ) (a : Answer) → MayTell events.Close turns a → FitsTold turns a
close_fits turns (answers.Scrub (faults.Skipped h u)) may = may
close_fits turns (answers.Scrub (faults.GaveUp r)) may = may
close_fits turns (answers.Scrub f) may = tt
close_fits turns a may = tt

pub gather_fits : (turns : ℕ) (a : Answer) → MayTell events.Gather turns a → FitsTold turns a
gather_fits turns (answers.Scrub (faults.Skipped h u)) may = may
gather_fits turns (answers.Scrub (faults.GaveUp (reasons.Contradiction e))) may = tt
gather_fits turns (answers.Scrub (faults.GaveUp (reasons.Space reserve need))) may = absurd may
gather_fits turns (answers.Scrub (faults.GaveUp (reasons.TurnLimit n))) may = absurd may
gather_fits turns (answers.Scrub f) may = tt
gather_fits turns a may = tt

pub reserve_fits : (turns : ℕ) (f : ScrubFault) → MayTell events.Reserve turns (answers.Scrub f) → FitsTold turns (answers.Scrub f)
reserve_fits turns (faults.Skipped h u) may = may
reserve_fits turns (faults.GaveUp (reasons.Space reserve need)) may = tt
reserve_fits turns (faults.GaveUp (reasons.Contradiction e)) may = absurd may
reserve_fits turns (faults.GaveUp (reasons.TurnLimit n)) may = absurd may
reserve_fits turns f may = tt

pub reserve_says : (g : ℕ) (f : ScrubFault) (ph : Phase) → says (asks.ReservePiece g) (answers.Scrub f) ph ≡ says_told (answers.Scrub f)
reserve_says g (faults.Skipped h u) ph = refl
reserve_says g (faults.GaveUp r) ph = refl
reserve_says g f ph = refl

-- an answer that stops says none
pub stops_silent : (f : ScrubFault) → Stops f → says_told (answers.Scrub f) ≡ false
stops_silent (faults.Skipped h u) stops = absurd stops
stops_silent (faults.GaveUp r) stops = absurd stops
stops_silent f stops = refl

pub compare_says : (g : ℕ) (f : ScrubFault) (ph : Phase) → says (asks.ComparePiece g) (answers.Scrub f) ph ≡ says_told (answers.Scrub f)
compare_says g (faults.Skipped h u) ph = refl
compare_says g (faults.GaveUp r) ph = refl
compare_says g f ph = refl

pub stage_says : (g : ℕ) (f : ScrubFault) (ph : Phase) → says (asks.StagePiece g) (answers.Scrub f) ph ≡ says_told (answers.Scrub f)
stage_says g (faults.Skipped h u) ph = refl
stage_says g (faults.GaveUp r) ph = refl
stage_says g f ph = refl

pub switch_says : (g : ℕ) (f : ScrubFault) (ph : Phase) → says (asks.Switch g) (answers.Scrub f) ph ≡ says_told (answers.Scrub f)
switch_says g (faults.Skipped h u) ph = refl
switch_says g (faults.GaveUp r) ph = refl
switch_says g f ph = refl

pub reap_says : (g : ℕ) (f : ScrubFault) (ph : Phase) → says (asks.ReapPiece g) (answers.Scrub f) ph ≡ says_told (answers.Scrub f)
reap_says g (faults.Skipped h u) ph = refl
reap_says g (faults.GaveUp r) ph = refl
reap_says g f ph = refl

pub reopen_says : (g : ℕ) (f : ScrubFault) (ph : Phase) → says (asks.Reopen g) (answers.Scrub f) ph ≡ says_told (answers.Scrub f)
reopen_says g (faults.Skipped h u) ph = refl
reopen_says g (faults.GaveUp r) ph = refl
reopen_says g f ph = refl

pub start_says : (g : ℕ) (unit : ScrubUnit) (plan : Plan) (turns : ℕ) (f : ScrubFault) (ph : Phase) → says (asks.Start g unit plan turns) (answers.Scrub f) ph ≡ says_told (answers.Scrub f)
start_says g unit plan turns (faults.Skipped h u) ph = refl
start_says g unit plan turns (faults.GaveUp r) ph = refl
start_says g unit plan turns f ph = refl

pub reopen_stops : (f : ScrubFault) → MayRefuse ats.Reopen f → Stops f
reopen_stops (faults.Shut n) may = tt
reopen_stops f may = absurd may

-- and ends the session
pub stops_stop : (o : Order) (f : ScrubFault) (ph : Phase) → Stops f → (took_in o (answers.Scrub f) ph).stop ≡ None → ⊥
stops_stop o faults.JournalFull ph stops is = none_some faults.JournalFull (sym is)
stops_stop o (faults.Shut n) ph stops is = none_some (faults.Shut n) (sym is)
stops_stop o faults.Memory ph stops is = none_some faults.Memory (sym is)
stops_stop o f ph stops is = absurd stops

-- so that no unit is worked on
stopped_idle : (at : At) → is_open_at (stopped_at at) ≡ true → ⊥
stopped_idle ats.Start is = false_true is
stopped_idle ats.Reopen is = false_true is
stopped_idle at is = false_true is

pub stops_idle : (o : Order) (f : ScrubFault) (ph : Phase) → Stops f → IsAtWork (took_in o (answers.Scrub f) ph) → ⊥
stops_idle o faults.JournalFull ph stops work = stopped_idle o.at work
stops_idle o (faults.Shut n) ph stops work = stopped_idle o.at work
stops_idle o faults.Memory ph stops work = stopped_idle o.at work
stops_idle o f ph stops work = absurd stops

-- a session that doesn't stop hadn't stopped before
moved_stop : (m : Move) (o : Order) → (moved_by m o).stop ≡ None → o.stop ≡ None
moved_stop (moves.To at) o is = is
moved_stop (moves.Judged at) o is = is
moved_stop moves.Passed o is = sym (unit_stop (record o { is_judged = true })) ∙ is
moved_stop (moves.Stopped f) o is = absurd (none_some f (sym is))
moved_stop moves.Reopened o is = sym (opened_stop o.stop o) ∙ is

pub stop_before : (o : Order) (a : Answer) (ph : Phase) → (took_in o a ph).stop ≡ None → o.stop ≡ None
stop_before o a ph is = moved_stop (found o.unit o.at a ph) o is

-- nor is one behind a unit that was skipped
next_idle : (b : Bool) (u : ScrubUnit) (o : Order) → is_open_at (next_of b u o).at ≡ true → ⊥
next_idle true units.Inode o is = false_true is
next_idle false units.Inode o is = false_true is
next_idle true units.Rmap o is = false_true is
next_idle false units.Rmap o is = false_true is
next_idle true units.Free o is = false_true is
next_idle false units.Free o is = false_true is
next_idle true units.Refc o is = false_true is
next_idle false units.Refc o is = false_true is

pub skip_idle : (o : Order) (ph : Phase) (h : ℕ) (u : ScrubUnit) → IsAtWork (took_in o (answers.Scrub (faults.Skipped h u)) ph) → ⊥
skip_idle o ph h u work = next_idle (nat_le o.groups (o.group + 1)) o.unit (record o { is_judged = true }) work

-- ---- the order's positions

-- a unit is to be opened or worked on
abbrev pub is_due : At → Bool
is_due ats.Start = true
is_due at = is_open_at at

-- it has its verdict, or the session stops
abbrev pub is_over : At → Bool
is_over ats.Reap = true
is_over ats.ReapOnce = true
is_over ats.Reopen = true
is_over at = false

-- ---- entries that are told

pub told_group : (g : ℕ) (unit : ScrubUnit) (a : Answer) → AreOfGroup g (entries_told g unit a)
told_group g unit (answers.Scrub (faults.Skipped h u)) = (refl, tt)
told_group g unit (answers.Scrub (faults.GaveUp r)) = (refl, tt)
told_group g unit (answers.Scrub f) = tt
told_group g unit a = tt

pub told_fallen : (g : ℕ) (unit : ScrubUnit) (past : List Entry) (a : Answer) → stands g unit past ≡ false → AreOfFallen past (entries_told g unit a)
told_fallen g unit past (answers.Scrub (faults.Skipped h u)) is = ((λ fails. is), tt)
told_fallen g unit past (answers.Scrub (faults.GaveUp r)) is = ((λ fails. is), tt)
told_fallen g unit past (answers.Scrub f) is = tt
told_fallen g unit past a is = tt

pub told_said : (n : ℕ) (plan : Plan) (turns : ℕ) (past : List Entry) (o : Order) (g : ℕ) (unit : ScrubUnit) (a : Answer) → g ≡ o.group → unit ≡ o.unit → FitsTold turns a → SaysAt n plan turns past o (says_told a) (entries_told g unit a)
unfolding verdict_places
told_said n plan turns past o g unit (answers.Scrub (faults.Skipped h u)) group is fits = absurd fits
told_said n plan turns past o g unit (answers.Scrub (faults.GaveUp r)) group is fits = (place_at g o.group unit o.unit group is, (fits, tt))
told_said n plan turns past o g unit (answers.Scrub f) group is fits = refl
told_said n plan turns past o g unit a group is fits = refl

pub told_mute : (turns : ℕ) (g : ℕ) (unit : ScrubUnit) (at : At) (ph : Phase) (a : Answer) → ((r : Reason) → MayAnswer at (answers.Scrub (faults.GaveUp r)) ph) → FitsTold turns a → (MayAnswer at a ph → ⊥) → verdict_places (entries_told g unit a) ≡ []
unfolding verdict_places
told_mute turns g unit at ph (answers.Scrub (faults.Skipped h u)) may fits out = absurd fits
told_mute turns g unit at ph (answers.Scrub (faults.GaveUp r)) may fits out = absurd (out (may r))
told_mute turns g unit at ph (answers.Scrub f) may fits out = refl
told_mute turns g unit at ph a may fits out = refl

-- ---- entries of the other events

pub marks_plain : (g : ℕ) (b c r : Option Cause) → ArePlain g (mark_of g Bno b ++ (mark_of g Cnt c ++ mark_of g Rmap r))
marks_plain g None None None = tt
marks_plain g None None (Some r) = (refl, tt)
marks_plain g None (Some c) None = (refl, tt)
marks_plain g None (Some c) (Some r) = (refl, (refl, tt))
marks_plain g (Some b) None None = (refl, tt)
marks_plain g (Some b) None (Some r) = (refl, (refl, tt))
marks_plain g (Some b) (Some c) None = (refl, (refl, tt))
marks_plain g (Some b) (Some c) (Some r) = (refl, (refl, (refl, tt)))

pub faults_plain : (g : ℕ) (unit : ScrubUnit) (fs : List Fault) → ArePlain g (map (entry_of g unit) fs)
faults_plain g unit [] = tt
faults_plain g unit (f ∷ fs) = (refl, faults_plain g unit fs)
