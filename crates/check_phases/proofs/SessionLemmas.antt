-- The phases, each by what the one before left, do what a session over the state does.
use Rattle.std.proofs.Common.{◌≡◌, ℕ, Bool, true, false, List, [], ◌∷◌, ◌++◌, length, map, Option, Some, None, refl, sym, ◌∙◌, ap}
use Rattle.std.specs.Prelude.{◌==◌, not, if◌then◌else◌}
use Rattle.std.specs.List.{filter}
use Rattle.fs_state.specs.Contradiction.{evidence}
use Rattle.fs_state.specs.Derive.{derive}
use Rattle.fs_state.specs.Faults.{counter_fault, faults, faults_of_counter, faults_of_kind, index_faults, kind_of_fault, wanted}
use Rattle.fs_state.specs.Records.{kind_of_counter, shown_of, unit_of}
use Rattle.fs_state.specs.Lists.{only_if}
use Rattle.fs_state.specs.Session.{Place, first_unready, is_at, is_passed, stands}
use Rattle.fs_model.specs.declared.claim.Evidence.{Evidence}
use Rattle.fs_model.specs.declared.entry.Entry.{Entry}
use Rattle.fs_model.specs.declared.entry.Entry.TheVariants as entries
use Rattle.fs_model.specs.declared.fault.Counter.{Counter}
use Rattle.fs_model.specs.declared.fault.Counter.TheVariants as counters
use Rattle.fs_model.specs.declared.fault.Fault.{Fault}
use Rattle.fs_model.specs.declared.fault.Fault.TheVariants as faulty
use Rattle.fs_model.specs.declared.unit.Unit.{Unit as ScrubUnit}
use Rattle.fs_model.specs.declared.unit.Unit.TheVariants as units
use Rattle.fs_model.specs.declared.verdict.Verdict.TheVariants.{Good, Faulty}
use Rattle.fs_state.specs.Kinds.{RecOf, form_of}
use Rattle.fs_state.specs.State.{Readable, Reading, State, Unreadable}
use Rattle.sblock.specs.declared.kind.Kind.{Kind}
use Rattle.sblock.specs.declared.kind.Kind.TheVariants.{Bno, Cnt, Rmap, Refc, Ino, Fino}
use Rattle.space_check.specs.Events.{Event}
use Rattle.space_check.specs.Groups.{event, unit_entries as fault_entries, verdict_of}
use Rattle.xref_scrub.specs.Differences.{comes_before, differences, lacks}
use Rattle.xref_scrub.specs.Merging.{from, merged, until}
use Rattle.check_phases.specs.Entries.{passes_after, passes_by, passes_judged}
use Rattle.quiet_check.specs.Entries.{entries_after, entries_by, judged_entries, unit_entries}
use Rattle.check_phases.specs.Phases.{unit_event}
use Rattle.check_phases.specs.Session.{session_events, with_entries}

-- ---- each fault of a unit is of its kinds

abbrev pub AreOf : ScrubUnit → List Fault → Type 0
AreOf v [] = Unit {0}
AreOf v (f ∷ fs) = (unit_of (kind_of_fault f) ≡ v) × AreOf v fs

of_both : (v : ScrubUnit) (fs gs : List Fault) → AreOf v fs → AreOf v gs → AreOf v (fs ++ gs)
of_both v [] gs h k = k
of_both v (f ∷ fs) gs h k = (h.0, of_both v fs gs h.1 k)

shown_kind : (k : Kind) (r : RecOf k) → (kind_of_fault (faulty.Missing (shown_of k r)) ≡ k) × (kind_of_fault (faulty.Extra (shown_of k r)) ≡ k)
shown_kind Bno r = (refl, refl)
shown_kind Cnt r = (refl, refl)
shown_kind Rmap r = (refl, refl)
shown_kind Refc r = (refl, refl)
shown_kind Ino r = (refl, refl)
shown_kind Fino r = (refl, refl)

module _ (v : ScrubUnit) (R : Type 0) (before : R → R → Bool) (first second : R → Fault) (of_first : (r : R) → unit_of (kind_of_fault (first r)) ≡ v) (of_second : (r : R) → unit_of (kind_of_fault (second r)) ≡ v) where
  of_map : (ss : List R) → AreOf v (map second ss)
  of_map [] = tt
  of_map (s ∷ ss) = (of_second s, of_map ss)

  of_merged : (rs ss : List R) → AreOf v (merged before first second rs ss)
  unfolding merged
  of_merged [] ss = of_map ss
  of_merged (r ∷ rs) ss =
      let rest : AreOf v (first r ∷ merged before first second rs (from before r ss)) = (of_first r, of_merged rs (from before r ss)) in
      of_both v (map second (until before r ss)) (first r ∷ merged before first second rs (from before r ss)) (of_map (until before r ss)) rest

of_index : (k : Kind) (derived : List (RecOf k)) (read : Reading (RecOf k)) → AreOf (unit_of k) (index_faults k derived read)
unfolding differences
of_index k derived (Readable recs blocks) =
    of_merged (unit_of k) (RecOf k) (comes_before (form_of k)) (λ r. faulty.Missing (shown_of k r)) (λ r. faulty.Extra (shown_of k r))
    (λ r. ap unit_of (shown_kind k r).0) (λ r. ap unit_of (shown_kind k r).1) (filter (lacks (form_of k) recs) derived) (filter (lacks (form_of k) derived) recs)
of_index k derived (Unreadable block fault claims) = (refl, tt)

of_only : (v : ScrubUnit) (b : Bool) (f : Fault) → unit_of (kind_of_fault f) ≡ v → AreOf v (only_if b f)
of_only v true f is = (is, tt)
of_only v false f is = tt

of_counter : (name : Counter) (found : ℕ) (number : Option ℕ) → AreOf (unit_of (kind_of_counter name)) (counter_fault name found number)
of_counter name found None = tt
of_counter name found (Some number) = of_only (unit_of (kind_of_counter name)) (not (found == number)) (faulty.Counter name found number) refl

module _ (a : State) (g : ℕ) where
  of_kind : (k : Kind) → AreOf (unit_of k) (faults_of_kind a g k)
  of_kind k = of_index k (derive a g k) ((a.group g).tree k).reading

  of_number : (name : Counter) → AreOf (unit_of (kind_of_counter name)) (faults_of_counter a g name)
  of_number name = of_counter name ((a.group g).counters name) (wanted a g name)

  one_tree : (v : ScrubUnit) (fs : List Fault) → AreOf v fs → AreOf v (fs ++ [])
  one_tree v fs h = of_both v fs [] h tt

  pub faults_of_unit : (v : ScrubUnit) → AreOf v (faults a g v)
  unfolding faults
  faults_of_unit units.Inode =
      of_both units.Inode _ _ (of_both units.Inode _ _ (of_kind Ino) (one_tree units.Inode _ (of_kind Fino)))
      (of_both units.Inode _ _ (of_number counters.Count) (of_both units.Inode _ _ (of_number counters.Freecount) (of_both units.Inode _ _ (of_number counters.Iblocks) (one_tree units.Inode _ (of_number counters.Fblocks)))))
  faults_of_unit units.Rmap = of_both units.Rmap _ _ (one_tree units.Rmap _ (of_kind Rmap)) (one_tree units.Rmap _ (of_number counters.RmapBlocks))
  faults_of_unit units.Free =
      of_both units.Free _ _ (of_both units.Free _ _ (of_kind Bno) (one_tree units.Free _ (of_kind Cnt)))
      (of_both units.Free _ _ (of_number counters.Freeblks) (of_both units.Free _ _ (of_number counters.Longest) (one_tree units.Free _ (of_number counters.Btreeblks))))
  faults_of_unit units.Refc = of_both units.Refc _ _ (one_tree units.Refc _ (of_kind Refc)) (one_tree units.Refc _ (of_number counters.RefcountBlocks))

-- ---- what one unit's entries say of each unit

pub with_both : (past es fs : List Entry) → with_entries past (es ++ fs) ≡ with_entries (with_entries past es) fs
with_both past [] fs = refl
with_both past (e ∷ es) fs = with_both (e ∷ past) es fs

if_same : (b : Bool) (x y z : Bool) → (b ≡ false → x ≡ y) → (if b then z else x) ≡ (if b then z else y)
if_same true x y z h = refl
if_same false x y z h = h refl

passed_as : (n : ℕ) → is_passed (verdict_of n) ≡ (n == 0)
passed_as n = by_test (n == 0)
  where
    by_test : (b : Bool) → is_passed (if b then Good else Faulty n) ≡ b
    by_test true = refl
    by_test false = refl

module _ (g : ℕ) (u : ScrubUnit) (h : ℕ) (v : ScrubUnit) where
  skip_fault : (past : List Entry) (f : Fault) → unit_of (kind_of_fault f) ≡ v → is_at g u h v ≡ false → stands g u (entries.Fault h v f ∷ past) ≡ stands g u past
  unfolding stands
  skip_fault past f is other =
      ap (λ (b : Bool). if b then false else stands g u past) (ap (λ w. is_at g u h w) is ∙ other)

  skip_faults : (past : List Entry) (fs : List Fault) → AreOf v fs → is_at g u h v ≡ false → stands g u (with_entries past (map (entries.Fault h v) fs)) ≡ stands g u past
  skip_faults past [] of other = refl
  skip_faults past (f ∷ fs) of other = skip_faults (entries.Fault h v f ∷ past) fs of.1 other ∙ skip_fault past f of.0 other

  by_faults : (past : List Entry) (fs : List Fault) → AreOf v fs → stands g u (with_entries past (fault_entries h v fs)) ≡ (if is_at g u h v then length fs == 0 else stands g u past)
  unfolding stands fault_entries
  by_faults past fs of =
      ap (stands g u) (with_both past (map (entries.Fault h v) fs) (entries.Verdict h v (verdict_of (length fs)) ∷ []))
      ∙ ap (λ (p : Bool). if is_at g u h v then p else stands g u (with_entries past (map (entries.Fault h v) fs))) (passed_as (length fs))
      ∙ if_same (is_at g u h v) (stands g u (with_entries past (map (entries.Fault h v) fs))) (stands g u past) (length fs == 0) (skip_faults past fs of)

  by_found : (past : List Entry) (found : Option Evidence) (fs : List Fault) → AreOf v fs → stands g u (with_entries past (entries_by h v found fs)) ≡ (if is_at g u h v then passes_by found fs else stands g u past)
  unfolding stands
  by_found past (Some e) fs of = refl
  by_found past None fs of = by_faults past fs of

  -- the unit's own verdict decides for it, and says nothing of another
  pub said_after : (a : State) (past : List Entry) (lack : Option Place) → stands g u (with_entries past (entries_after a h v lack)) ≡ (if is_at g u h v then passes_after a h v lack else stands g u past)
  unfolding stands judged_entries passes_judged
  said_after a past (Some place) = refl
  said_after a past None = by_found past (evidence a h v) (faults a h v) (faults_of_unit a h v)

-- ---- lists of units

-- these units, each by what it lacks
abbrev pub units_events : State → (Place → Option Place) → List Place → List Event
units_events a lack [] = []
units_events a lack (p ∷ ps) = unit_event a p.0 (lack p) p.1 ∷ units_events a lack ps

abbrev pub past_units : State → (Place → Option Place) → List Entry → List Place → List Entry
past_units a lack past [] = past
past_units a lack past (p ∷ ps) = past_units a lack (with_entries past (entries_after a p.0 p.1 (lack p))) ps

module _ (a : State) (lack : Place → Option Place) where
  past_both : (past : List Entry) (ps qs : List Place) → past_units a lack past (ps ++ qs) ≡ past_units a lack (past_units a lack past ps) qs
  past_both past [] qs = refl
  past_both past (p ∷ ps) qs = past_both (with_entries past (entries_after a p.0 p.1 (lack p))) ps qs

  abbrev pub AreOther : ℕ → ScrubUnit → List Place → Type 0
  AreOther g u [] = Unit {0}
  AreOther g u (p ∷ ps) = (is_at g u p.0 p.1 ≡ false) × AreOther g u ps

  -- other units say nothing of this one
  pub others_silent : (g : ℕ) (u : ScrubUnit) (past : List Entry) (ps : List Place) → AreOther g u ps → stands g u (past_units a lack past ps) ≡ stands g u past
  others_silent g u past [] h = refl
  others_silent g u past (p ∷ ps) h =
      others_silent g u (with_entries past (entries_after a p.0 p.1 (lack p))) ps h.1
      ∙ said_after g u p.0 p.1 a past (lack p)
      ∙ ap (λ (b : Bool). if b then passes_after a p.0 p.1 (lack p) else stands g u past) h.0

  -- each unit of these lacks what a session says that it lacks
  abbrev pub AreReady : ℕ → List Entry → List Place → Type 0
  AreReady n past [] = Unit {0}
  AreReady n past (p ∷ ps) = (first_unready n past p.0 p.1 ≡ lack p) × AreReady n (with_entries past (entries_after a p.0 p.1 (lack p))) ps

  pub ready_session : (past : List Entry) (ps : List Place) → AreReady a.geometry.agcount past ps → session_events a past ps ≡ units_events a lack ps
  unfolding unit_entries
  ready_session past [] h = refl
  ready_session past (p ∷ ps) h =
      let es : unit_entries a past p.0 p.1 ≡ entries_after a p.0 p.1 (lack p) = ap (entries_after a p.0 p.1) h.0 in
      (λ i. event 0 (es i) ∷ session_events a (with_entries past (es i)) ps)
      ∙ ap (λ (x : List Event). unit_event a p.0 (lack p) p.1 ∷ x) (ready_session (with_entries past (entries_after a p.0 p.1 (lack p))) ps h.1)

  pub ready_past : (past : List Entry) (ps : List Place) (qs : List Place) → AreReady a.geometry.agcount past ps → session_events a past (ps ++ qs) ≡ session_events a past ps ++ session_events a (past_units a lack past ps) qs
  unfolding unit_entries
  ready_past past [] qs h = refl
  ready_past past (p ∷ ps) qs h =
      let es : unit_entries a past p.0 p.1 ≡ entries_after a p.0 p.1 (lack p) = ap (entries_after a p.0 p.1) h.0 in
      (λ i. event 0 (es i) ∷ session_events a (with_entries past (es i)) (ps ++ qs))
      ∙ ap (λ (x : List Event). unit_event a p.0 (lack p) p.1 ∷ x) (ready_past (with_entries past (entries_after a p.0 p.1 (lack p))) ps qs h.1)
      ∙ sym (λ i. event 0 (es i) ∷ (session_events a (with_entries past (es i)) ps ++ session_events a (past_units a lack (with_entries past (entries_after a p.0 p.1 (lack p))) ps) qs))
