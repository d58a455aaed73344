-- The answer of a check of the groups, told as a judgement.
use Rattle.std.proofs.Common.{◌≡◌, ◌<◌, ◌≤◌, ℕ, ◌+◌, List, [], ◌∷◌, length, Bool, true, Option, Some, None, Result, Ok, Err, IfSome, IfOk, IfErr, refl, sym, ◌∙◌, ap, subst, arith}
use Rattle.std.specs.Prelude.{nat_lt, cond}
use Rattle.std.proofs.lemmas.Bool.Decides.{nat_tests}
use Rattle.std.specs.Global.{Vec}
use Rattle.blk_device.specs.Contents.{Contents}
use Rattle.blk_device.specs.Taken.{IsFront}
use Rattle.blk_device.specs.declared.device.Region.TheVariants.{Image}
use Rattle.fs_model.specs.declared.entry.Entry.{Entry}
use Rattle.geom.specs.Layout.{Layout}
use Rattle.image_check.specs.Image.{ReadsForEvents, begun_of, image_checked, image_events as groups_events, journal_in as checked_journal}
use Rattle.image_check.specs.Units.{HaltsInSession, IsSession}
use Rattle.space_check.specs.Checked.{Checked, RefusedHead, Judged as JudgedBy, Filled, look, MeetsHalt, MeetsCheck, CheckCause, journal_of}
use Rattle.space_check.proofs.EndLemmas.{empty_room}
use Rattle.space_check.specs.Events.{Event, most_entries}
use Rattle.space_check.specs.declared.halt.Halt.{Halt}
use Rattle.space_check.specs.declared.halt.Halt.TheVariants as halts
use Rattle.space_check.specs.declared.stop.CheckStop.{CheckStop}
use Rattle.xscrub.specs.Image.{checked_outcome}
use Rattle.xscrub.specs.Judged.{judgement_outcome, journal_at, journal_in, JudgeCause, Says, SaysStop, TellsOfImage}
use Rattle.xscrub.specs.Outcome.{is_image_line}
use Rattle.xscrub.specs.Units.{HasAllUnits, HasItsMost, HasFirstUnits}
use Rattle.xscrub.specs.declared.judging.JudgeFault.{JudgeFault}
use Rattle.xscrub.specs.declared.judging.JudgeFault.TheVariants.{Device, Memory}
use Rattle.xscrub.specs.declared.judging.Judgement.{Judgement}
use Rattle.xscrub.specs.declared.judging.Judgement.TheVariants.{Judged, Full, Refused}
use Rattle.xscrub.specs.declared.last_lines.LastLine.{LastLine}
use Rattle.xscrub.proofs.UnitLemmas.{stopped_are_first}

-- ---- a judgement

halt_outcome : (decided : Checked) (stop : CheckStop) (found : Judgement) → SaysStop stop (Ok found) → MeetsHalt decided stop.cause stop.journal.items → judgement_outcome found ≡ checked_outcome decided
halt_outcome decided stop (Judged journal) says meets = absurd says
halt_outcome decided stop (Full journal) says meets =
    let is : decided ≡ Filled stop.journal.items = subst (λ (h : Halt). MeetsHalt decided h stop.journal.items) says.0 meets in
    ap (λ (v : Vec Entry). judgement_outcome (Full v)) says.1 ∙ ap checked_outcome (sym is)
halt_outcome decided stop (Refused line) says meets =
    let is : decided ≡ RefusedHead says.0 says.1 says.2 = (subst (λ (h : Halt). MeetsHalt decided h stop.journal.items) says.3 meets).0 in
    ap (λ (l : LastLine). judgement_outcome (Refused l)) says.4 ∙ ap checked_outcome (sym is)

pub says_outcome : (decided : Checked) (checked : Result (Vec Entry) CheckStop) (found : Judgement) → Says checked (Ok found) → MeetsCheck decided checked → judgement_outcome found ≡ checked_outcome decided
says_outcome decided (Ok journal) (Judged told) says meets = ap (λ (v : Vec Entry). judgement_outcome (Judged v)) says ∙ ap checked_outcome (sym meets)
says_outcome decided (Ok journal) (Full told) says meets = absurd says
says_outcome decided (Ok journal) (Refused line) says meets = absurd says
says_outcome decided (Err stop) found says meets = halt_outcome decided stop found says meets

halt_line : (n : ℕ) (stop : CheckStop) (found : Judgement) → SaysStop stop (Ok found) → HaltsInSession n stop.cause stop.journal.items → TellsOfImage found
halt_line n stop (Judged journal) says session = absurd says
halt_line n stop (Full journal) says session =
    subst (λ (v : Vec Entry). HasItsMost v.items) (sym says.1) (record { groups = n; full = subst (λ (h : Halt). HaltsInSession n h stop.journal.items) says.0 session })
halt_line n stop (Refused line) says session = ap is_image_line says.4

pub says_line : (n : ℕ) (checked : Result (Vec Entry) CheckStop) (found : Judgement) → 1 ≤ n → Says checked (Ok found) → IsSession n checked → TellsOfImage found
says_line n (Ok journal) (Judged told) some says session = subst (λ (v : Vec Entry). HasAllUnits v.items) (sym says) (record { groups = n; some = some; units = session })
says_line n (Ok journal) (Full told) some says session = absurd says
says_line n (Ok journal) (Refused line) some says session = absurd says
says_line n (Err stop) found some says session = halt_line n stop found says session

-- ---- why there is none

halt_cause : (before now : ℕ) (stop : CheckStop) (result : Result Judgement JudgeFault) → SaysStop stop result → CheckCause before now (Err stop) → JudgeCause before now result
halt_cause before now stop (Ok (Judged journal)) says cause = absurd says
halt_cause before now stop (Ok (Full journal)) says cause = rw (says.0) at cause
halt_cause before now stop (Ok (Refused line)) says cause = rw (says.3) at cause
halt_cause before now stop (Err (Device journal)) says cause = rw (says.0) at cause
halt_cause before now stop (Err (Memory journal)) says cause = rw (says.0) at cause

pub says_cause : (before now : ℕ) (checked : Result (Vec Entry) CheckStop) (result : Result Judgement JudgeFault) → Says checked result → CheckCause before now checked → JudgeCause before now result
says_cause before now (Ok journal) (Ok (Judged told)) says cause = cause
says_cause before now (Ok journal) (Ok (Full told)) says cause = absurd says
says_cause before now (Ok journal) (Ok (Refused line)) says cause = absurd says
says_cause before now (Ok journal) (Err fault) says cause = absurd says
says_cause before now (Err stop) result says cause = halt_cause before now stop result says cause

-- ---- the journal so far

halt_front : (decided : Checked) (stop : CheckStop) (fault : JudgeFault) → SaysStop stop (Err fault) → MeetsHalt decided stop.cause stop.journal.items → IsFront (journal_at fault) (journal_of decided)
halt_front decided stop (Device journal) says meets =
    subst (λ (v : Vec Entry). IsFront v.items (journal_of decided)) (sym says.1) (subst (λ (h : Halt). MeetsHalt decided h stop.journal.items) says.0 meets)
halt_front decided stop (Memory journal) says meets =
    subst (λ (v : Vec Entry). IsFront v.items (journal_of decided)) (sym says.1) (subst (λ (h : Halt). MeetsHalt decided h stop.journal.items) says.0 meets)

same_journal : (decided : Checked) → (checked_outcome decided).journal ≡ journal_of decided
same_journal (RefusedHead g head fault) = refl
same_journal (JudgedBy entries) = refl
same_journal (Filled entries) = refl

pub says_front : (decided : Checked) (checked : Result (Vec Entry) CheckStop) (fault : JudgeFault) → Says checked (Err fault) → MeetsCheck decided checked → IsFront (journal_at fault) (checked_outcome decided).journal
says_front decided (Ok journal) fault says meets = absurd says
says_front decided (Err stop) fault says meets = subst (λ (js : List Entry). IsFront (journal_at fault) js) (sym (same_journal decided)) (halt_front decided stop fault says meets)

halt_units : (n : ℕ) (stop : CheckStop) (fault : JudgeFault) → SaysStop stop (Err fault) → HaltsInSession n stop.cause stop.journal.items → HasFirstUnits (journal_at fault)
halt_units n stop (Device journal) says session =
    let s = subst (λ (h : Halt). HaltsInSession n h stop.journal.items) says.0 session in
    subst (λ (v : Vec Entry). HasFirstUnits v.items) (sym says.1) (stopped_are_first n halts.Failed stop.journal.items s s.stop.ended.none)
halt_units n stop (Memory journal) says session =
    let s = subst (λ (h : Halt). HaltsInSession n h stop.journal.items) says.0 session in
    subst (λ (v : Vec Entry). HasFirstUnits v.items) (sym says.1) (stopped_are_first n halts.Memory stop.journal.items s s.stop.ended.none)

pub says_units : (n : ℕ) (checked : Result (Vec Entry) CheckStop) (fault : JudgeFault) → Says checked (Err fault) → IsSession n checked → HasFirstUnits (journal_at fault)
says_units n (Ok journal) fault says session = absurd says
says_units n (Err stop) fault says session = halt_units n stop fault says session

-- ---- and how far the device was read for it

halt_journal : (n : ℕ) (stop : CheckStop) (result : Result Judgement JudgeFault) → SaysStop stop result → HaltsInSession n stop.cause stop.journal.items → journal_in result ≡ stop.journal.items
halt_journal n stop (Ok (Judged journal)) says session = absurd says
halt_journal n stop (Ok (Full journal)) says session = ap (λ (v : Vec Entry). v.items) says.1
halt_journal n stop (Ok (Refused line)) says session = sym (subst (λ (h : Halt). HaltsInSession n h stop.journal.items) says.3 session)
halt_journal n stop (Err (Device journal)) says session = ap (λ (v : Vec Entry). v.items) says.1
halt_journal n stop (Err (Memory journal)) says session = ap (λ (v : Vec Entry). v.items) says.1

-- the judgement has the journal of the check
says_journal : (n : ℕ) (checked : Result (Vec Entry) CheckStop) (result : Result Judgement JudgeFault) → Says checked result → IsSession n checked → journal_in result ≡ checked_journal checked
says_journal n (Ok journal) (Ok (Judged told)) says session = ap (λ (v : Vec Entry). v.items) says
says_journal n (Ok journal) (Ok (Full told)) says session = absurd says
says_journal n (Ok journal) (Ok (Refused line)) says session = absurd says
says_journal n (Ok journal) (Err fault) says session = absurd says
says_journal n (Err stop) result says session = halt_journal n stop result says session

-- what was counted is what was read
kept_as_counted : (events : List Event) (from after before now : ℕ) (journal journal' : List Entry) → now + from ≤ before + after → journal' ≡ journal → ReadsForEvents events from after journal → ReadsForEvents events before now journal'
kept_as_counted events from after before now journal journal' counted same kept =
    subst (λ (js : List Entry). ReadsForEvents events before now js) (sym same)
    (record { done = kept.done; rest = kept.rest; whole = kept.whole; entries = kept.entries; read = omega (arith, counted, kept.read) })

-- ---- the same of the answer

pub told_if_ok : (content : Option Contents) (at : Layout) (checked : Result (Vec Entry) CheckStop) (result : Result Judgement JudgeFault) → Says checked result → IfSome content (λ m. MeetsCheck (image_checked at (m Image)) checked)
    → IfOk result (λ found. IfSome content (λ m. judgement_outcome found ≡ checked_outcome (image_checked at (m Image))))
told_if_ok None at checked (Ok found) says meets = tt
told_if_ok (Some m) at checked (Ok found) says meets = says_outcome (image_checked at (m Image)) checked found says meets
told_if_ok content at checked (Err fault) says meets = tt

pub line_if_ok : (n : ℕ) (checked : Result (Vec Entry) CheckStop) (result : Result Judgement JudgeFault) → 1 ≤ n → Says checked result → IsSession n checked → IfOk result TellsOfImage
line_if_ok n checked (Ok found) some says session = says_line n checked found some says session
line_if_ok n checked (Err fault) some says session = tt

pub front_if_err : (content : Option Contents) (at : Layout) (checked : Result (Vec Entry) CheckStop) (result : Result Judgement JudgeFault) → Says checked result → IfSome content (λ m. MeetsCheck (image_checked at (m Image)) checked)
    → IfErr result (λ fault. IfSome content (λ m. IsFront (journal_at fault) (checked_outcome (image_checked at (m Image))).journal))
front_if_err content at checked (Ok found) says meets = tt
front_if_err None at checked (Err fault) says meets = tt
front_if_err (Some m) at checked (Err fault) says meets = says_front (image_checked at (m Image)) checked fault says meets

pub kept_if_told : (content : Option Contents) (at : Layout) (n from after before now : ℕ) (checked : Result (Vec Entry) CheckStop) (result : Result Judgement JudgeFault) → now + from ≤ before + after → Says checked result → IsSession n checked
    → IfSome content (λ m. ReadsForEvents (groups_events at (m Image)) from after (checked_journal checked)) → IfSome content (λ m. ReadsForEvents (groups_events at (m Image)) before now (journal_in result))
kept_if_told None at n from after before now checked result counted says session kept = tt
kept_if_told (Some m) at n from after before now checked result counted says session kept =
    kept_as_counted (groups_events at (m Image)) from after before now (checked_journal checked) (journal_in result) counted (says_journal n checked result says session) kept

pub units_if_err : (n : ℕ) (checked : Result (Vec Entry) CheckStop) (result : Result Judgement JudgeFault) → Says checked result → IsSession n checked → IfErr result (λ fault. HasFirstUnits (journal_at fault))
units_if_err n checked (Ok found) says session = tt
units_if_err n checked (Err fault) says session = says_units n checked fault says session

-- ---- with block 0

has_room : (n most : ℕ) → n < most → nat_lt n most ≡ true
has_room n most h = grind (arith, nat_tests)

begun_next : (journal : List Entry) (next : Event) (rest : List Event) → length journal < most_entries → begun_of journal (next ∷ rest) ≡ next.reads
begun_next journal next rest room = ap (λ (b : Bool). cond b next.reads 0) (has_room (length journal) most_entries room)

-- block 0 was read before
pub kept_behind : (events : List Event) (before mid now : ℕ) (journal : List Entry) → mid ≤ before + 1 → ReadsForEvents events mid now journal → ReadsForEvents (look ∷ events) before now journal
kept_behind events before mid now journal one k = record {
  done = look ∷ k.done;
  rest = k.rest;
  whole = ap (λ (es : List Event). look ∷ es) k.whole;
  entries = k.entries;
  read = omega (arith, one, k.read);
}

-- it was block 0 that couldn't be read
pub kept_none : (events : List Event) (before now : ℕ) → now ≤ before + 1 → ReadsForEvents (look ∷ events) before now []
kept_none events before now one = record {
  done = [];
  rest = look ∷ events;
  whole = refl;
  entries = refl;
  read = omega (arith, one, begun_next [] look events empty_room);
}

-- no more than block 0 was read
pub kept_first_block : (events : List Event) (before now : ℕ) → now ≤ before + 1 → ReadsForEvents (look ∷ events) before now []
kept_first_block events before now one = record { done = look ∷ []; rest = events; whole = refl; entries = refl; read = omega (arith, one) }

-- nothing was read
pub kept_unread : (events : List Event) (n : ℕ) → ReadsForEvents events n n []
kept_unread events n = record { done = []; rest = events; whole = refl; entries = refl; read = omega arith }
