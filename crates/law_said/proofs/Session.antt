-- A session of a repair, entry by entry, from image to image: each unit that stands at its end holds what it should, and so
-- has no faults in what a new session finds.
use Rattle.std.proofs.Common.{◌≡◌, ℕ, ◌<◌, true, false, List, [], ◌∷◌, refl, ap, sym, subst, ◌∙◌, inr, append-nil, reverse, None, arith}
use Rattle.std.specs.List.{list_all}
use Rattle.std.proofs.lemmas.Bool.{and_parts, false≢true, ltb-true, true≢false}
use Rattle.fs_change.specs.Edited.{group_of_entry}
use Rattle.fs_change.specs.Forget.{Forget, found_in}
use Rattle.fs_change.specs.Marks.{Due, dues}
use Rattle.fs_change.specs.Step.{Step}
use Rattle.fs_state.specs.Derive.{derive}
use Rattle.fs_state.specs.Faults.{faults}
use Rattle.fs_state.specs.Records.{unit_of}
use Rattle.fs_state.specs.Laws.{IsGood, IsGoodTree}
use Rattle.fs_state.specs.Session.{first_fallen, stands, unit_order, verdict_places}
use Rattle.fs_state.specs.declared.plan.Plan.{Plan}
use Rattle.fs_state.specs.declared.plan.Plan.TheVariants.{Rebuild}
use Rattle.fs_model.specs.declared.entry.Entry.{Entry}
use Rattle.fs_model.specs.declared.entry.Entry.TheVariants as entries
use Rattle.fs_model.specs.declared.unit.Unit.{Unit as ScrubUnit}
use Rattle.fs_model.specs.declared.unit.Unit.TheVariants as units
use Rattle.fs_said.specs.Said.{IsSaid, MayBegin, SaysOn, Told, nothing_told, told_after}
use Rattle.fs_state.specs.Group.{is_among}
use Rattle.fs_state.specs.Kinds.{Image}
use Rattle.fs_state.specs.Read.{opened, state_of}
use Rattle.fs_state.specs.State.{Kept, Reading, Readable, State, is_readable}
use Rattle.geom.proofs.ApartLemmas.{splits_in}
use Rattle.geom.specs.Apart.{HasFitting}
use Rattle.geom.specs.Layout.{Layout}
use Rattle.law_cuts.specs.Unclaimed.Repairs.{AreKnownWell, GivenKeepsMemory, IsGiven, IsGivenBeside, KnownFollow}
use Rattle.law_repairs.specs.Letter.Known.{Letters, is_of_repair}
use Rattle.law_repairs.specs.Memory.Memory.{AreKeptWell, IsFit}
use Rattle.law_repairs.specs.Order.Kept.{LogLiesInside}
use Rattle.law_repairs.specs.Order.Repairs.{OpenedIsKeptWell}
use Rattle.law_repairs.specs.Repair.Ends.{EndsWithoutFaults, IsDone}
use Rattle.law_repairs.specs.Repair.Letters.{Holds, IsTrusted, Stands}
use Rattle.sblock.specs.declared.kind.Kind.{Kind}
use Rattle.sblock.specs.declared.kind.Kind.TheVariants.{Bno, Cnt, Rmap, Refc, Ino, Fino}
use Rattle.law_said.proofs.Dues.{left_unjudged}
use Rattle.law_said.proofs.Letters.{StandingKnown, SwitchKnown, known_after, last_after, next_letters}
use Rattle.law_said.proofs.Places.{NoneFell, OnceEach, all_stand, none_at_end, none_fell, once_on, onto, order_once, times}
use Rattle.law_said.proofs.Timely.{Timely, in_time, may_begin, nothing_timely, timely_after}
use Rattle.law_said.proofs.Trusted.{AreTrusted, SwitchTrusted, past_is_journal, switch_after, trusted_after}
use Rattle.law_said.specs.Ends.{IsEmptied, SessionLeavesNoFault}
use Rattle.law_said.specs.InTime.{AllInTime, MakesInTime, is_repair_in, was_judged}
use Rattle.law_said.specs.Through.{IsOfImage, Passes}
use Rattle.law_said.specs.Truth.{SaidOfImages}

-- ---- entries and their groups

group_inside : (n : ℕ) (a : State) (e : Entry) → 0 < n → is_repair_in n e ≡ true → group_of_entry a e < n
group_inside n a (entries.Marked h k cause) some repair = ltb-true h n repair
group_inside n a (entries.Fault h v fault) some repair = ltb-true h n repair
group_inside n a (entries.Verdict h v w) some repair = ltb-true h n repair
group_inside n a (entries.Reserved h v block spare) some repair = ltb-true h n repair
group_inside n a (entries.Released h v) some repair = ltb-true h n repair
group_inside n a (entries.Switched h v root second) some repair = ltb-true h n repair
group_inside n a (entries.Reaped e) some repair = ltb-true e.group n repair
group_inside n a (entries.Reply writer line code done refused begun) some repair = some
group_inside n a e some repair = absurd (false≢true repair)

repairs : (e : Entry) (n : ℕ) → is_repair_in n e ≡ true → is_of_repair e ≡ true
repairs (entries.Marked h k cause) n repair = refl
repairs (entries.Fault h v fault) n repair = refl
repairs (entries.Verdict h v w) n repair = refl
repairs (entries.Reply writer line code done refused begun) n repair = refl
repairs (entries.Released h v) n repair = refl
repairs (entries.Reserved h v block spare) n repair = refl
repairs (entries.Switched h v root second) n repair = refl
repairs (entries.Reaped e) n repair = refl
repairs e n repair = absurd (false≢true repair)

-- ---- what is known at each moment

-- of an image, with what is kept, and what was told
pub record IsKnown (at : Layout) (image : Image) (kept : Kept) (letters : ℕ → Letters) (t : Told) : Type 0 where
  pub well : AreKeptWell at image kept
  pub known : (g : ℕ) → AreKnownWell (state_of at image kept) g (letters g)
  pub standing : StandingKnown letters t.past
  pub last : SwitchKnown letters t.past
  pub trusted : AreTrusted t.past (state_of at image kept)
  pub switched : SwitchTrusted t.past (state_of at image kept)
  pub timely : Timely t

abbrev pub Here : Layout → Told → State → Type 0
Here at t x = (image : Image) × (kept : Kept) × (letters : ℕ → Letters) × (x ≡ state_of at image kept) × IsKnown at image kept letters t

module _ (at : Layout) (fit : HasFitting at) (log : LogLiesInside at) (some : 0 < at.agcount) (plan : Plan) (truth : SaidOfImages) (memory : GivenKeepsMemory) (follow : KnownFollow) where
  module _ (image : Image) (kept : Kept) (letters : ℕ → Letters) (t : Told) (now : IsKnown at image kept letters t) (none : NoneFell t.past) where
    -- the mappings of a group whose free space may begin are known
    maps_known : (g : ℕ) → g < at.agcount → MayBegin (state_of at image kept) t.past g units.Free (t.stage g units.Free) → letters g units.Rmap ≡ true
    maps_known g lt may =
        now.standing g units.Rmap (none g units.Rmap (may_begin plan (state_of at image kept) (state_of at image kept) at.agcount refl [] t now.timely g units.Free lt may))

    given : (e : Entry) → is_repair_in at.agcount e ≡ true → IsSaid plan (state_of at image kept) t e → IsGiven (state_of at image kept) e
    given (entries.Verdict h v w) repair said = truth plan at image kept t h v w fit log (now.well h (ltb-true h at.agcount repair)) said
    given (entries.Reserved h units.Free block true) repair said =
        let known : letters h units.Rmap ≡ true = maps_known h (ltb-true h at.agcount repair) said.so.judged.begins in
        inr ((now.known h).0 units.Rmap known, (now.known h).1 known)
    given e repair said = tt

    beside : (e : Entry) → is_repair_in at.agcount e ≡ true → IsSaid plan (state_of at image kept) t e → IsGivenBeside (state_of at image kept) letters e
    beside (entries.Verdict h v w) repair said = truth plan at image kept t h v w fit log (now.well h (ltb-true h at.agcount repair)) said
    beside (entries.Reserved h units.Free block true) repair said = λ unknown.
        let known : letters h units.Rmap ≡ true = maps_known h (ltb-true h at.agcount repair) said.so.judged.begins in
        absurd (true≢false (sym known ∙ unknown))
    beside e repair said = tt

    -- so it is behind each entry
    module _ (image' : Image) (kept' : Kept) (fits : IsFit at image' kept') (left : List Kind) (e : Entry) (repair : is_repair_in at.agcount e ≡ true)
        (said : IsSaid plan (state_of at image kept) t e) (s : Step (state_of at image kept) left e (state_of at image' kept')) where
      inside : group_of_entry (state_of at image kept) e < at.agcount
      inside = group_inside at.agcount (state_of at image kept) e some repair

      next : MakesInTime t.past e → ((k : Kind) → is_among k left ≡ true → was_judged (group_of_entry (state_of at image kept) e) (unit_of k) (e ∷ t.past) ≡ false)
          → IsKnown at image' kept' (next_letters (state_of at image kept) left letters e) (told_after (state_of at image kept) e t)
      next early free =
          let a : State = state_of at image kept in
          record {
            well = λ h lt. memory at image image' kept kept' left e h fit (now.well (group_of_entry a e) inside) (repairs e at.agcount repair) (given e repair said) s (now.well h lt) fits.firm (fits.bytes h lt) (fits.lists h lt);
            known = λ h. follow at image image' kept kept' left e h letters fit log (now.well (group_of_entry a e) inside) fits.firm (fits.bytes (group_of_entry a e) inside) (fits.lists (group_of_entry a e) inside) (beside e repair said) s now.known;
            standing = known_after a left letters t.past now.standing now.last none now.timely.passed e at.agcount repair said.behind early free;
            last = last_after a left letters t.past now.standing now.last none now.timely.passed e;
            trusted = trusted_after a (state_of at image' kept') left t.past now.trusted now.switched e said.behind s;
            switched = switch_after a (state_of at image' kept') left t.past now.trusted now.switched e s;
            timely = timely_after plan a (state_of at image' kept') at.agcount refl left t now.timely e repair said s;
          }

  -- ---- one entry of a journal

  unit_early : (a : State) (t : Told) (e : Entry) → a.geometry.agcount ≡ at.agcount → Timely t → NoneFell t.past → IsSaid plan a t e → (plan ≡ Rebuild → MakesInTime t.past e) → MakesInTime t.past e
  unit_early a t e counts timely none said given = in_time plan a a at.agcount counts [] t timely e none said given

  step_on : (a x : State) (t : Told) (left : List Kind) (e : Entry) → Here at t a → IsOfImage at x → is_repair_in at.agcount e ≡ true → NoneFell t.past → (plan ≡ Rebuild → MakesInTime t.past e)
      → ((k : Kind) → is_among k left ≡ true → was_judged (group_of_entry a e) (unit_of k) (e ∷ t.past) ≡ false) → IsSaid plan a t e → Step a left e x → Here at (told_after a e t) x
  step_on a x t left e here there repair none given free said s =
      let image : Image = here.0 in
      let kept : Kept = here.1 in
      let letters : ℕ → Letters = here.2 in
      let is : a ≡ state_of at image kept = here.3 in
      let image' : Image = there.0 in
      let kept' : Kept = there.1 in
      let said' : IsSaid plan (state_of at image kept) t e = subst (λ (y : State). IsSaid plan y t e) is said in
      let s' : Step (state_of at image kept) left e (state_of at image' kept') =
      subst (λ (y : State). Step y left e (state_of at image' kept')) is (subst (λ (y : State). Step a left e y) there.2 s) in
      let free' : (k : Kind) → is_among k left ≡ true → was_judged (group_of_entry (state_of at image kept) e) (unit_of k) (e ∷ t.past) ≡ false =
      subst (λ (y : State). (k : Kind) → is_among k left ≡ true → was_judged (group_of_entry y e) (unit_of k) (e ∷ t.past) ≡ false) is free in
      let early : MakesInTime t.past e = unit_early (state_of at image kept) t e refl here.4.timely none said' given in
      subst (λ (y : State). Here at (told_after y e t) x) (sym is)
      (image', kept', next_letters (state_of at image kept) left letters e, there.2, next image kept letters t here.4 none image' kept' there.3 left e repair said' s' early free')

  -- ---- the journal

  leads_on : (ds : List Due) (t u : Told) (a b : State) (es : List Entry) (s : SaysOn plan ds t a es u b) → Passes (IsOfImage at) plan ds t a es u b s → list_all (is_repair_in at.agcount) es ≡ true
      → (plan ≡ Rebuild → AllInTime t.past es) → OnceEach t.past es → NoneFell (onto es t.past) → Here at t a → Here at u b
  leads_on [] t u a b [] s p all early once none here = subst (λ (x : Told). Here at x b) (sym s.0) (subst (Here at t) (sym s.1) here)
  leads_on (d ∷ ds) t u a b [] s p all early once none here = absurd s
  leads_on [] t u a b (e ∷ es) s p all early once none here =
      let both = and_parts (is_repair_in at.agcount e) (list_all (is_repair_in at.agcount) es) all in
      let later = once_on e t.past es once in
      leads_on (dues a s.1 e s.3.decided s.2) (told_after a e t) u s.2 b es s.5 p.1 both.1 (λ is. (early is).1) later none
      (step_on a s.2 t s.1 e here p.0 both.0 (none_fell (e ∷ es) t.past once none) (λ is. (early is).0) (left_unjudged plan t u a s.3.decided s.2 b s.1 e es s.5 later none) s.0 s.3)
  leads_on (d ∷ ds) t u a b (e ∷ es) s p all early once none here =
      let both = and_parts (is_repair_in at.agcount e) (list_all (is_repair_in at.agcount) es) all in
      leads_on ds (told_after a e t) u s.2 b es s.4 p.1 both.1 (λ is. (early is).1) (once_on e t.past es once) none
      (step_on a s.2 t [] e here p.0 both.0 (none_fell (e ∷ es) t.past once none) (λ is. (early is).0) (λ k among. absurd (false≢true among)) s.0 s.3)

-- ---- the beginning

begins : (at : Layout) (image : Image) → OpenedIsKeptWell → IsFit at image (opened at image) → IsKnown at image (opened at image) (λ g u. false) nothing_told
unfolding stands
begins at image law fits = record {
  well = λ g lt. law at image g lt fits.firm.apart (fits.bytes g lt) (fits.lists g lt);
  known = λ g. (λ u is. absurd (false≢true is), λ is. absurd (false≢true is));
  standing = λ g u st. st;
  last = tt;
  trusted = λ g u st. absurd (false≢true st);
  switched = tt;
  timely = nothing_timely nothing_told refl (λ g u. refl);
}

-- ---- the end

is_read : {R : Type 0} (r : Reading R) (recs : List R) (blocks : List ℕ) → r ≡ Readable recs blocks → is_readable r ≡ true
is_read r recs blocks is = ap is_readable is

good_of : (a : State) (g : ℕ) (u : ScrubUnit) → Holds a g u → IsGood a g u
good_of a g units.Inode held = held
good_of a g units.Rmap held = held.0
good_of a g units.Free held = held
good_of a g units.Refc held = held

good_tree : (a : State) (g : ℕ) (k : Kind) → IsGood a g (unit_of k) → IsGoodTree a g k
good_tree a g Bno good = good.0.0
good_tree a g Cnt good = good.0.1.0
good_tree a g Rmap good = good.0.0
good_tree a g Refc good = good.0.0
good_tree a g Ino good = good.0.0
good_tree a g Fino good = good.0.1.0

module _ (a : State) (n : ℕ) (counts : a.geometry.agcount ≡ n) (held : (g : ℕ) (u : ScrubUnit) → g < n → Holds a g u) (emptied : IsEmptied a) where
  readable : (g : ℕ) (k : Kind) → g < a.geometry.agcount → is_readable ((a.group g).tree k).reading ≡ true
  readable g k lt =
      let tree = good_tree a g k (good_of a g (unit_of k) (held g (unit_of k) (subst (λ (m : ℕ). g < m) counts lt))) in
      is_read ((a.group g).tree k).reading (derive a g k) tree.0 tree.1

  done : (g : ℕ) → g < n → IsDone a
  done g lt = record { readable = readable; reserve = emptied.reserve; limbo = emptied.limbo; forks = (held g units.Rmap lt).1.forks }

module _ (at : Layout) (image : Image) (kept : Kept) (letters : ℕ → Letters) (t : Told) (now : IsKnown at image kept letters t) (n : ℕ) (all : first_fallen t.past (unit_order n) ≡ None) where
  trusted_at_end : (g : ℕ) (u : ScrubUnit) → g < n → IsTrusted (state_of at image kept) g u
  trusted_at_end g u lt = now.trusted g u (all_stand n t.past g u all lt)

  known_at_end : (g : ℕ) (u : ScrubUnit) → g < n → Stands (state_of at image kept) g u
  known_at_end g u lt = (now.known g).0 u (now.standing g u (all_stand n t.past g u all lt))

ends_at : (at : Layout) (fit : HasFitting at) (law : EndsWithoutFaults) (b c : State) (t : Told) (g : ℕ) (u : ScrubUnit) → g < at.agcount → first_fallen t.past (unit_order at.agcount) ≡ None
    → Here at t b → IsEmptied b → Forget b c → faults c g u ≡ []
ends_at at fit law b c t g u lt all here emptied forgets =
    let image : Image = here.0 in
    let kept : Kept = here.1 in
    let x : State = state_of at image kept in
    let known = known_at_end at image kept here.2 t here.4 at.agcount all in
    let trusted = trusted_at_end at image kept here.2 t here.4 at.agcount all in
    let empty : IsEmptied x = subst IsEmptied here.3 emptied in
    let forgot : Forget x c = subst (λ (y : State). Forget y c) here.3 forgets in
    law x c g u lt (splits_in at fit) (done x at.agcount refl (λ h v less. known h v less (trusted h v less)) empty g lt) forgot (known g u lt) (trusted g u lt)

once_each : (n : ℕ) (es : List Entry) → verdict_places es ≡ unit_order n → OnceEach [] es
unfolding verdict_places
once_each n es are g u = let most = order_once n g u in let same = ap (times g u) are in omega (arith, most, same)

pub session_leaves_no_fault : SaidOfImages → GivenKeepsMemory → KnownFollow → OpenedIsKeptWell → EndsWithoutFaults → SessionLeavesNoFault
session_leaves_no_fault truth memory follow opening ending at image plan turns b c es g unit fit log fits l passes all early session stand emptied forgets lt =
    let past : l.0.past ≡ reverse es = past_is_journal plan [] nothing_told l.0 (found_in at image) b es l.1 ∙ append-nil (reverse es) in
    let some : 0 < at.agcount = omega (arith, lt) in
    let start : Here at nothing_told (found_in at image) = (image, opened at image, λ h u. false, refl, begins at image opening fits) in
    let end : Here at l.0 b =
    leads_on at fit log some plan truth memory follow [] nothing_told l.0 (found_in at image) b es l.1 passes all early (once_each at.agcount es session.order_kept) (none_at_end at.agcount es all stand) start in
    ends_at at fit ending b c l.0 g unit lt (ap (λ (p : List Entry). first_fallen p (unit_order at.agcount)) past ∙ stand) end emptied forgets
