-- The three phases, each by what the one before left, are a session over the state.
use Rattle.std.proofs.Common.{◌≡◌, ℕ, zero, suc, ◌+◌, ◌<◌, ◌≤◌, Bool, true, false, List, [], ◌∷◌, ◌++◌, get_or, length, map, Option, Some, None, inl, inr, refl, sym, ◌∙◌, ap, append_assoc, arith}
use Rattle.std.specs.Prelude.{◌==◌, ◌&&◌, flat_map, if◌then◌else◌}
use Rattle.std.proofs.lemmas.Bool.{eqb-true, eq-eqb, cases_Bool, cases_lt, false≢true}
use Rattle.fs_state.specs.Contradiction.{evidence}
use Rattle.fs_state.specs.Derive.{derive}
use Rattle.fs_state.specs.Faults.{faults, faults_of_counter, index_faults}
use Rattle.fs_state.specs.Lists.{numbers}
use Rattle.fs_state.specs.Session.{Place, first_fallen, first_unready, is_same_unit, needed, stands}
use Rattle.fs_model.specs.declared.claim.Evidence.{Evidence}
use Rattle.fs_model.specs.declared.entry.Entry.{Entry}
use Rattle.fs_model.specs.declared.fault.Counter.TheVariants.{RmapBlocks}
use Rattle.fs_model.specs.declared.fault.Fault.{Fault}
use Rattle.fs_model.specs.declared.fault.Fault.TheVariants as faulty
use Rattle.fs_model.specs.declared.unit.Unit.{Unit as ScrubUnit}
use Rattle.fs_model.specs.declared.unit.Unit.TheVariants as units
use Rattle.fs_state.specs.State.{Readable, Reading, State, Unreadable}
use Rattle.rmap_recs.specs.declared.records.RmapRec.{RmapRec}
use Rattle.sblock.specs.declared.kind.Kind.TheVariants.{Rmap}
use Rattle.space_check.specs.Events.{Event}
use Rattle.check_phases.specs.Checks.{HasMappings}
use Rattle.check_phases.specs.Entries.{passes_after, passes_by, passes_judged}
use Rattle.quiet_check.specs.Entries.{entries_after}
use Rattle.check_phases.specs.Phases.{Inodes, Mappings, Phase, Space, group_events, inode_lacked, lacks_inodes, lacks_mappings, lacks_nothing, mapping_lacked, phase_events, phase_passes, places, unit_event, units_in}
use Rattle.check_phases.specs.Session.{PassedCanBeRead, PhasesAreSession, check_events, first_fallen_from, inode_fallen, mappings_passed, phases_events, session_events, with_entries}
use Rattle.check_phases.proofs.OrderLemmas.{phases_in_order}
use Rattle.check_phases.proofs.SessionLemmas.{AreOther, AreReady, others_silent, past_units, ready_past, ready_session, said_after, units_events}

and_no : (b : Bool) → (b && false) ≡ false
and_no true = refl
and_no false = refl

no_and : (b c : Bool) → b ≡ false → (b && c) ≡ false
no_and b c e = ap (λ x. x && c) e

yes_and : (b c : Bool) → b ≡ true → c ≡ true → (b && c) ≡ true
yes_and b c e f = λ i. e i && f i

not_same : (m n : ℕ) → n < m → (m == n) ≡ false
not_same m n lt = elim (cases_Bool (m == n)) [
  | inl same ↦ absurd (let e = eqb-true m n same in omega (arith, e, lt))
  | inr other ↦ other
]

-- one unit of each of these groups
abbrev single : ScrubUnit → ℕ → ℕ → List Place
single v k n = flat_map (λ h. (h, v) ∷ []) (numbers k n)

module _ (a : State) (v : ScrubUnit) (same : is_same_unit v v ≡ true) (lack : Place → Option Place) where
  later_others : (h k n : ℕ) → h < k → AreOther a lack h v (single v k n)
  later_others h k zero lt = tt
  later_others h k (suc n) lt = (no_and (k == h) (is_same_unit v v) (not_same k h lt), later_others h (k + 1) n (omega (arith, lt)))

  -- each unit passes as its own check says
  said_single : (k n h : ℕ) (past : List Entry) → k ≤ h → h < k + n → stands h v (past_units a lack past (single v k n)) ≡ passes_after a h v (lack (h, v))
  said_single k zero h past le lt = absurd (omega (arith, le, lt))
  said_single k (suc n) h past le lt = elim (cases_lt k h) [
    | inl less ↦ said_single (k + 1) n h (with_entries past (entries_after a k v (lack (k, v)))) (omega (arith, less)) (omega (arith, lt))
    | inr not_less ↦ here (omega (arith, le, not_less))
  ] where
    here : k ≡ h → stands h v (past_units a lack past (single v k (suc n))) ≡ passes_after a h v (lack (h, v))
    here is =
        others_silent a lack h v (with_entries past (entries_after a k v (lack (k, v)))) (single v (k + 1) n) (later_others h (k + 1) n (omega (arith, is)))
        ∙ said_after h v k v a past (lack (k, v))
        ∙ ap (λ (b : Bool). if b then passes_after a k v (lack (k, v)) else stands h v past) (yes_and (k == h) (is_same_unit v v) (eq-eqb k h is) same)
        ∙ ap (λ x. passes_after a x v (lack (x, v))) is

-- ---- which of them passed

get_single : (f : ℕ → Bool) (d : Bool) (k n i : ℕ) → i < n → get_or (flat_map (λ g. f g ∷ []) (numbers k n)) i d ≡ f (k + i)
get_single f d k zero i lt = absurd (omega (arith, lt))
get_single f d k (suc n) zero lt = let e : k ≡ k + 0 = omega arith in ap f e
get_single f d k (suc n) (suc i) lt = let e : (k + 1) + i ≡ k + suc i = omega arith in get_single f d (k + 1) n i (omega (arith, lt)) ∙ ap f e

get_first : (f : ℕ → Bool) (d : Bool) (n i : ℕ) → i < n → get_or (flat_map (λ g. f g ∷ []) (numbers 0 n)) i d ≡ f i
get_first f d n i lt = let e : 0 + i ≡ i = omega arith in get_single f d 0 n i lt ∙ ap f e

get_none : (f : ℕ → Bool) (d : Bool) (k n i : ℕ) → n ≤ i → get_or (flat_map (λ g. f g ∷ []) (numbers k n)) i d ≡ d
get_none f d k zero i le = refl
get_none f d k (suc n) zero le = absurd (omega (arith, le))
get_none f d k (suc n) (suc i) le = get_none f d (k + 1) n i (omega (arith, le))

if_place : (b : Bool) (g : ℕ) (x : Option Place) (y : Option ℕ) → x ≡ inode_lacked y → (if b then x else Some (g, units.Inode)) ≡ inode_lacked (if b then y else Some g)
if_place true g x y is = is
if_place false g x y is = refl

-- the first group whose inodes didn't pass
first_lacked : (f : ℕ → Bool) (past : List Entry) (k n : ℕ) → ((h : ℕ) → k ≤ h → h < k + n → stands h units.Inode past ≡ f h) → first_fallen past (map (λ h. (h, units.Inode)) (numbers k n)) ≡ inode_lacked (first_fallen_from k (flat_map (λ g. f g ∷ []) (numbers k n)))
first_lacked f past k zero said = refl
first_lacked f past k (suc n) said =
    ap (λ (b : Bool). if b then first_fallen past (map (λ h. (h, units.Inode)) (numbers (k + 1) n)) else Some (k, units.Inode)) (said k (omega arith) (omega arith))
    ∙ if_place (f k) k (first_fallen past (map (λ h. (h, units.Inode)) (numbers (k + 1) n))) (first_fallen_from (k + 1) (flat_map (λ g. f g ∷ []) (numbers (k + 1) n)))
    (first_lacked f past (k + 1) n (λ h le lt. said h (omega (arith, le)) (omega (arith, lt))))

same_fallen : (past later : List Entry) (hs : List ℕ) → ((h : ℕ) → stands h units.Inode later ≡ stands h units.Inode past) → first_fallen later (map (λ h. (h, units.Inode)) hs) ≡ first_fallen past (map (λ h. (h, units.Inode)) hs)
same_fallen past later [] same = refl
same_fallen past later (h ∷ hs) same = λ i. if same h i then same_fallen past later hs same i else Some (h, units.Inode)

module _ (a : State) where
  abbrev N : ℕ
  N = a.geometry.agcount

  phase_units : (phase : Phase) (lacks : ℕ → Option Place) (hs : List ℕ) → units_events a (λ p. lacks p.0) (flat_map (λ h. map (λ unit. (h, unit)) (units_in phase)) hs) ≡ flat_map (group_events a phase lacks) hs
  phase_units Inodes lacks [] = refl
  phase_units Inodes lacks (h ∷ hs) = ap (λ (es : List Event). unit_event a h (lacks h) units.Inode ∷ es) (phase_units Inodes lacks hs)
  phase_units Mappings lacks [] = refl
  phase_units Mappings lacks (h ∷ hs) = ap (λ (es : List Event). unit_event a h (lacks h) units.Rmap ∷ es) (phase_units Mappings lacks hs)
  phase_units Space lacks [] = refl
  phase_units Space lacks (h ∷ hs) = ap (λ (es : List Event). unit_event a h (lacks h) units.Free ∷ unit_event a h (lacks h) units.Refc ∷ es) (phase_units Space lacks hs)

  -- ---- inodes

  abbrev lack_none : Place → Option Place
  lack_none p = lacks_nothing p.0

  inodes_ready : (past : List Entry) (hs : List ℕ) → AreReady a lack_none N past (flat_map (λ h. (h, units.Inode) ∷ []) hs)
  unfolding first_unready needed
  inodes_ready past [] = tt
  inodes_ready past (h ∷ hs) = (refl, inodes_ready (with_entries past (entries_after a h units.Inode None)) hs)

  abbrev after_inodes : List Entry
  after_inodes = past_units a lack_none [] (places Inodes 0 N)

  -- ---- reverse mappings

  abbrev lack_inodes : Place → Option Place
  lack_inodes p = lacks_inodes (inode_fallen a) p.0

  inodes_lack : first_fallen after_inodes (map (λ h. (h, units.Inode)) (numbers 0 N)) ≡ inode_lacked (inode_fallen a)
  unfolding phase_passes
  inodes_lack = first_lacked (λ h. passes_after a h units.Inode None) after_inodes 0 N (λ h le lt. said_single a units.Inode refl lack_none 0 N h [] le lt)

  mappings_ready : (past : List Entry) (hs : List ℕ) → first_fallen past (map (λ h. (h, units.Inode)) (numbers 0 N)) ≡ inode_lacked (inode_fallen a) → AreReady a lack_inodes N past (flat_map (λ h. (h, units.Rmap) ∷ []) hs)
  unfolding first_unready needed
  mappings_ready past [] so = tt
  mappings_ready past (g ∷ hs) so =
      let later = with_entries past (entries_after a g units.Rmap (lack_inodes (g, units.Rmap))) in (
        so,
        mappings_ready later hs (same_fallen past later (numbers 0 N) (λ h.
            said_after h units.Inode g units.Rmap a past (lack_inodes (g, units.Rmap))
            ∙ ap (λ (b : Bool). if b then passes_after a g units.Rmap (lack_inodes (g, units.Rmap)) else stands h units.Inode past) (and_no (g == h))) ∙ so),
      )

  abbrev after_mappings : List Entry
  after_mappings = past_units a lack_inodes after_inodes (places Mappings 0 N)

  -- ---- free space and reference counts

  abbrev lack_mappings : Place → Option Place
  lack_mappings p = lacks_mappings (mappings_passed a) p.0

  mappings_said : (h : ℕ) → h < N → stands h units.Rmap after_mappings ≡ get_or (mappings_passed a) h false
  unfolding phase_passes
  mappings_said h lt =
      said_single a units.Rmap refl lack_inodes 0 N h after_inodes (omega arith) (omega (arith, lt))
      ∙ sym (get_first (λ g. passes_after a g units.Rmap (lacks_inodes (inode_fallen a) g)) false N h lt)

  if_lacked : (b : Bool) (g : ℕ) → (if b then None else Some (g, units.Rmap)) ≡ mapping_lacked b g
  if_lacked true g = refl
  if_lacked false g = refl

  lacks_said : (past : List Entry) (g : ℕ) → stands g units.Rmap past ≡ get_or (mappings_passed a) g false → (if stands g units.Rmap past then None else Some (g, units.Rmap)) ≡ lack_mappings (g, units.Free)
  unfolding lacks_mappings
  lacks_said past g is = ap (λ (b : Bool). if b then None else Some (g, units.Rmap)) is ∙ if_lacked (get_or (mappings_passed a) g false) g

  space_silent : (past : List Entry) (g h : ℕ) (u : ScrubUnit) (lack : Option Place) → is_same_unit units.Rmap u ≡ false → stands h units.Rmap (with_entries past (entries_after a g u lack)) ≡ stands h units.Rmap past
  space_silent past g h u lack other =
      said_after h units.Rmap g u a past lack
      ∙ ap (λ (b : Bool). if b then passes_after a g u lack else stands h units.Rmap past) (ap (λ (c : Bool). (g == h) && c) other ∙ and_no (g == h))

  space_ready : (past : List Entry) (k n : ℕ) → k + n ≤ N → ((h : ℕ) → h < N → stands h units.Rmap past ≡ get_or (mappings_passed a) h false) → AreReady a lack_mappings N past (flat_map (λ h. (h, units.Free) ∷ (h, units.Refc) ∷ []) (numbers k n))
  unfolding first_unready needed
  space_ready past k zero le said = tt
  space_ready past k (suc n) le said =
      let first = with_entries past (entries_after a k units.Free (lack_mappings (k, units.Free))) in
      let second = with_entries first (entries_after a k units.Refc (lack_mappings (k, units.Refc))) in
      let after_first : (h : ℕ) → stands h units.Rmap first ≡ stands h units.Rmap past = λ h. space_silent past k h units.Free (lack_mappings (k, units.Free)) refl in
      let after_second : (h : ℕ) → stands h units.Rmap second ≡ stands h units.Rmap first = λ h. space_silent first k h units.Refc (lack_mappings (k, units.Refc)) refl in (
        lacks_said past k (said k (omega (arith, le))),
        (
          lacks_said first k (after_first k ∙ said k (omega (arith, le))),
          space_ready second (k + 1) n (omega (arith, le)) (λ h lt. after_second h ∙ after_first h ∙ said h lt),
        ),
      )

  -- ---- the whole

  pub session_said : phases_events a ≡ check_events a
  unfolding check_events phase_events
  session_said =
      let p = places Inodes 0 N in
      let q = places Mappings 0 N in
      let r = places Space 0 N in
      let h0 = inodes_ready [] (numbers 0 N) in
      let h1 = mappings_ready after_inodes (numbers 0 N) inodes_lack in
      let h2 = space_ready after_mappings 0 N (omega arith) mappings_said in
      let e0 = ready_session a lack_none [] p h0 ∙ phase_units Inodes lacks_nothing (numbers 0 N) in
      let e1 = ready_session a lack_inodes after_inodes q h1 ∙ phase_units Mappings (lacks_inodes (inode_fallen a)) (numbers 0 N) in
      let e2 = ready_session a lack_mappings after_mappings r h2 ∙ phase_units Space (lacks_mappings (mappings_passed a)) (numbers 0 N) in
      sym (ap (session_events a []) (sym (phases_in_order N) ∙ append_assoc p q r)
      ∙ ready_past a lack_none [] p (q ++ r) h0
      ∙ ap (λ (es : List Event). session_events a [] p ++ es) (ready_past a lack_inodes after_inodes q r h1)
      ∙ (λ i. e0 i ++ (e1 i ++ e2 i))
      ∙ sym (append_assoc (flat_map (group_events a Inodes lacks_nothing) (numbers 0 N)) (flat_map (group_events a Mappings (lacks_inodes (inode_fallen a))) (numbers 0 N)) (flat_map (group_events a Space (lacks_mappings (mappings_passed a))) (numbers 0 N))))

pub phases_are_session : PhasesAreSession
phases_are_session a = session_said a

-- ---- reverse mappings that passed can be read

some_fault : (f : Fault) (fs : List Fault) → (length (f ∷ fs) == 0) ≡ true → ⊥
some_fault f fs none = let e = eqb-true (length (f ∷ fs)) 0 none in absurd (omega (arith, e))

readable_by : (r : Reading RmapRec) (derived : List RmapRec) (more : List Fault) → (length ((index_faults Rmap derived r ++ []) ++ more) == 0) ≡ true → (recs : List RmapRec) × (blocks : List ℕ) × (r ≡ Readable recs blocks)
readable_by (Readable recs blocks) derived more none = (recs, blocks, refl)
readable_by (Unreadable block fault claims) derived more none = absurd (some_fault (faulty.Block Rmap block fault) ([] ++ more) none)

module _ (a : State) (g : ℕ) where
  readable_judged : (found : Option Evidence) → passes_by found (faults a g units.Rmap) ≡ true → HasMappings a g
  unfolding faults
  readable_judged (Some e) passes = absurd (false≢true passes)
  readable_judged None passes = readable_by ((a.group g).tree Rmap).reading (derive a g Rmap) (faults_of_counter a g RmapBlocks ++ []) passes

  readable_after : (lack : Option Place) → passes_after a g units.Rmap lack ≡ true → HasMappings a g
  unfolding passes_judged
  readable_after (Some p) passes = absurd (false≢true passes)
  readable_after None passes = readable_judged (evidence a g units.Rmap) passes

pub passed_can_be_read : PassedCanBeRead
unfolding phase_passes
passed_can_be_read a g passed =
    elim (cases_lt g a.geometry.agcount) [
      | inl lt ↦ readable_after a g (lacks_inodes (inode_fallen a) g) (sym (get_first (λ h. passes_after a h units.Rmap (lacks_inodes (inode_fallen a) h)) false a.geometry.agcount g lt) ∙ passed)
      | inr le ↦ absurd (false≢true (sym (get_none (λ h. passes_after a h units.Rmap (lacks_inodes (inode_fallen a) h)) false 0 a.geometry.agcount g le) ∙ passed))
    ]
