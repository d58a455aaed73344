-- The units that a check judged stand in the order of a session; where all are good, it is one of a repair.
use Rattle.std.proofs.Common.{◌≡◌, ℕ, zero, suc, ◌+◌, List, [], ◌∷◌, ◌++◌, length, map, inl, inr, refl, sym, ◌∙◌, ap, append_assoc, append-nil, arith}
use Rattle.std.proofs.lemmas.Grind.{flat_map-append}
use Rattle.std.proofs.lemmas.List.Concat.{flat_map_single}
use Rattle.std.specs.Global.{Vec}
use Rattle.std.specs.Prelude.{Some, true, false, flat_map}
use Rattle.fs_state.specs.Lists.{numbers}
use Rattle.fs_state.specs.Session.{Place, VerdictsFit, unit_order, verdict_places}
use Rattle.fs_state.specs.declared.plan.Plan.TheVariants.{Repair}
use Rattle.fs_model.specs.declared.entry.Entry.{Entry}
use Rattle.fs_model.specs.declared.entry.Entry.TheVariants as entries
use Rattle.fs_model.specs.declared.fault.Fault.{Fault}
use Rattle.fs_model.specs.declared.unit.Unit.{Unit as ScrubUnit}
use Rattle.fs_model.specs.declared.unit.Unit.TheVariants as units
use Rattle.fs_model.specs.declared.verdict.Verdict.{Verdict}
use Rattle.fs_model.specs.declared.verdict.Verdict.TheVariants as verdicts
use Rattle.sblock.specs.Lists.{Each}
use Rattle.space_check.specs.Events.{Event, entries_of}
use Rattle.space_check.specs.Groups.{unit_entries, verdict_of}
use Rattle.check_phases.specs.Parts.{AreParts, IsInodePart, IsJudgedEvent, IsJudgedPart, IsSpacePart, skipped_event}
use Rattle.image_check.specs.Units.{AreMappings, AreUnits, HasUnits, IsMappingPart, IsSkippedPart}
use Rattle.quiet_repair.specs.Sound.{IsSoundOrder, is_good_entry}

-- ---- where the verdicts of events stand

abbrev places_of : List Event → List Place
places_of events = verdict_places (entries_of events)

places_joined : (es more : List Entry) → verdict_places (es ++ more) ≡ verdict_places es ++ verdict_places more
unfolding verdict_places
places_joined [] more = refl
places_joined (entries.Verdict g u v ∷ es) more = ap (λ (ps : List Place). (g, u) ∷ ps) (places_joined es more)
places_joined (e ∷ es) more = places_joined es more

entries_both : (es fs : List Event) → entries_of (es ++ fs) ≡ entries_of es ++ entries_of fs
entries_both [] fs = refl
entries_both (e ∷ es) fs = ap (λ (js : List Entry). e.entries ++ js) (entries_both es fs) ∙ sym (append_assoc e.entries (entries_of es) (entries_of fs))

places_both : (es fs : List Event) → places_of (es ++ fs) ≡ places_of es ++ places_of fs
places_both es fs = ap verdict_places (entries_both es fs) ∙ places_joined (entries_of es) (entries_of fs)

faults_silent : (g : ℕ) (u : ScrubUnit) (fs : List Fault) → verdict_places (map (entries.Fault g u) fs) ≡ []
unfolding verdict_places
faults_silent g u [] = refl
faults_silent g u (f ∷ fs) = faults_silent g u fs

one_verdict : (g : ℕ) (u : ScrubUnit) (v : Verdict) → verdict_places (entries.Verdict g u v ∷ []) ≡ (g, u) ∷ []
unfolding verdict_places
one_verdict g u v = refl

unit_place : (g : ℕ) (u : ScrubUnit) (fs : List Fault) → verdict_places (unit_entries g u fs) ≡ (g, u) ∷ []
unfolding unit_entries
unit_place g u fs =
    let verdict : List Entry = entries.Verdict g u (verdict_of (length fs)) ∷ [] in
    places_joined (map (entries.Fault g u) fs) verdict ∙ (ap (λ (ps : List Place). ps ++ verdict_places verdict) (faults_silent g u fs) ∙ one_verdict g u (verdict_of (length fs)))

event_place : (g : ℕ) (u : ScrubUnit) (e : Event) → IsJudgedEvent g u e → verdict_places e.entries ≡ (g, u) ∷ []
event_place g u e (inl judged) = ap (λ (x : Event). verdict_places x.entries) judged.1 ∙ unit_place g u judged.0
event_place g u e (inr given) = ap (λ (x : Event). verdict_places x.entries) given.1 ∙ one_verdict g u _

no_place : verdict_places [] ≡ []
unfolding verdict_places
no_place = refl

-- of one event, and of two
single : (e : Event) (ps : List Place) → verdict_places e.entries ≡ ps → places_of (e ∷ []) ≡ ps
single e ps is = ap verdict_places (append-nil e.entries) ∙ is

pair : (e f : Event) (ps qs : List Place) → verdict_places e.entries ≡ ps → verdict_places f.entries ≡ qs → places_of (e ∷ f ∷ []) ≡ ps ++ qs
pair e f ps qs is also = places_joined e.entries (entries_of (f ∷ [])) ∙ (λ i. is i ++ single f qs also i)

-- ---- group by group

numbers_last : (a n : ℕ) → numbers a (suc n) ≡ numbers a n ++ (a + n) ∷ []
numbers_last a zero = let e : a ≡ a + 0 = omega arith in ap (λ (x : ℕ). x ∷ []) e
numbers_last a (suc n) =
    let e : a + 1 + n ≡ a + suc n = omega arith in
    ap (λ (xs : List ℕ). a ∷ xs) (numbers_last (a + 1) n ∙ ap (λ (x : ℕ). numbers (a + 1) n ++ x ∷ []) e)

-- where each group's part stands at these places, all parts stand at those of all groups
parts_places : (Are : ℕ → List Event → Type 0) (at : ℕ → List Place) → ((g : ℕ) (es : List Event) → Are g es → places_of es ≡ at g) → (n : ℕ) (events : List Event) → AreParts Are n events
    → places_of events ≡ flat_map at (numbers 0 n)
parts_places Are at each zero events is = ap places_of is ∙ no_place
parts_places Are at each (suc n) events is =
    let before : places_of is.0 ≡ flat_map at (numbers 0 n) = parts_places Are at each n is.0 is.2 in
    let last : places_of is.1 ≡ at n = each n is.1 is.3 in
    let added : flat_map at (numbers 0 n ++ n ∷ []) ≡ flat_map at (numbers 0 n) ++ at n = flat_map-append at (numbers 0 n) (n ∷ []) ∙ ap (λ (ps : List Place). flat_map at (numbers 0 n) ++ ps) (append-nil (at n)) in
    let e : 0 + n ≡ n = omega arith in
    ap places_of is.4 ∙ (places_both is.0 is.1 ∙ ((λ i. before i ++ last i) ∙ (sym added ∙ sym (ap (flat_map at) (numbers_last 0 n ∙ ap (λ (x : ℕ). numbers 0 n ++ x ∷ []) e)))))

abbrev one_at : ScrubUnit → ℕ → List Place
one_at u g = (g, u) ∷ []

one_each : (u : ScrubUnit) (Are : ℕ → List Event → Type 0) → ((g : ℕ) (es : List Event) → Are g es → places_of es ≡ one_at u g) → (n : ℕ) (events : List Event) → AreParts Are n events
    → places_of events ≡ map (λ g. (g, u)) (numbers 0 n)
one_each u Are each n events is = parts_places Are (one_at u) each n events is ∙ flat_map_single (λ g. (g, u)) (numbers 0 n)

judged_place : (u : ScrubUnit) (g : ℕ) (es : List Event) → IsJudgedPart g u es → places_of es ≡ one_at u g
judged_place u g es is = ap places_of is.2 ∙ single is.0 (one_at u g) (event_place g u is.0 is.1)

skipped_place : (h g : ℕ) (es : List Event) → IsSkippedPart h g es → places_of es ≡ one_at units.Rmap g
skipped_place h g es is = ap places_of is ∙ single (skipped_event g units.Rmap h units.Inode) (one_at units.Rmap g) (one_verdict g units.Rmap _)

mappings_places : (n : ℕ) (events : List Event) → AreMappings n events → places_of events ≡ map (λ g. (g, units.Rmap)) (numbers 0 n)
mappings_places n events (inl all) = one_each units.Rmap IsMappingPart (judged_place units.Rmap) n events all
mappings_places n events (inr skipped) = one_each units.Rmap (IsSkippedPart skipped.0) (skipped_place skipped.0) n events skipped.2

abbrev two_at : ℕ → List Place
two_at g = (g, units.Free) ∷ (g, units.Refc) ∷ []

space_place : (g : ℕ) (es : List Event) → IsSpacePart g es → places_of es ≡ two_at g
space_place g es (inl judged) =
    ap places_of judged.both ∙ pair judged.free judged.counts (one_at units.Free g) (one_at units.Refc g) (event_place g units.Free judged.free judged.free_judged) (event_place g units.Refc judged.counts judged.counts_judged)
space_place g es (inr skipped) =
    ap places_of skipped ∙ pair (skipped_event g units.Free g units.Rmap) (skipped_event g units.Refc g units.Rmap) (one_at units.Free g) (one_at units.Refc g) (one_verdict g units.Free _) (one_verdict g units.Refc _)

units_places : (n : ℕ) (events : List Event) → AreUnits n events → places_of events ≡ unit_order n
unfolding unit_order
units_places n events are =
    let inodes = one_each units.Inode IsInodePart (judged_place units.Inode) n are.inodes are.inode_parts in
    let mappings = mappings_places n are.mappings are.mapping_parts in
    let space = parts_places IsSpacePart two_at space_place n are.space are.space_parts in
    ap places_of are.whole
    ∙ (places_both (are.inodes ++ are.mappings) are.space ∙ (λ i. (places_both are.inodes are.mappings ∙ (λ j. inodes j ++ mappings j)) i ++ space i))

has_order : (n : ℕ) (js : List Entry) → HasUnits n [] js → verdict_places js ≡ unit_order n
has_order n js has = ap verdict_places has.done.added ∙ units_places n has.events has.units

lie : false ≡ true → ⊥
lie e = cc

good_fit : (turns n : ℕ) (past js : List Entry) → Each is_good_entry js → VerdictsFit Repair turns n past js
good_fit turns n past [] good = tt
good_fit turns n past (entries.Verdict g u verdicts.Good ∷ es) good = (tt, good_fit turns n (entries.Verdict g u verdicts.Good ∷ past) es good.1)
good_fit turns n past (entries.Verdict g u (verdicts.Faulty k) ∷ es) good = absurd (lie good.0)
good_fit turns n past (entries.Verdict g u verdicts.Rebuilt ∷ es) good = (tt, good_fit turns n (entries.Verdict g u verdicts.Rebuilt ∷ past) es good.1)
good_fit turns n past (entries.Verdict g u (verdicts.Skipped h v) ∷ es) good = absurd (lie good.0)
good_fit turns n past (entries.Verdict g u (verdicts.GaveUp r) ∷ es) good = absurd (lie good.0)
good_fit turns n past (e ∷ es) good = (tt, good_fit turns n (e ∷ past) es good.1)

pub sound_order : (n : ℕ) (journal : Vec Entry) → HasUnits n [] journal.items → Each is_good_entry journal.items → IsSoundOrder n (Some journal)
sound_order n journal has good = λ turns. record {
  front = ([], sym (has_order n journal.items has) ∙ sym (append-nil (verdict_places journal.items)));
  whole = λ _. has_order n journal.items has;
  verdicts = good_fit turns n [] journal.items good;
}
