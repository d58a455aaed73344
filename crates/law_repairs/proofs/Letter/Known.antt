-- What is known of the units of a group, entry by entry.
use Rattle.std.proofs.Common.{◌≡◌, ℕ, ◌==◌, ◌&&◌, ◌||◌, Bool, true, false, not, List, refl, ap, sym, subst, ◌∙◌, inl, inr, eqb-true}
use Rattle.std.specs.Prelude.{◌⊎◌, if◌then◌else◌}
use Rattle.std.specs.List.{list_any}
use Rattle.std.proofs.lemmas.Bool.{and_parts, cases_Bool, true≢false}
use Rattle.fs_change.specs.Edited.{group_of_entry}
use Rattle.fs_change.specs.Step.{Step}
use Rattle.fs_change.specs.Switch.{unit_owner}
use Rattle.fs_model.specs.declared.entry.Entry.{Entry}
use Rattle.fs_model.specs.declared.entry.Entry.TheVariants as entries
use Rattle.fs_model.specs.declared.unit.Unit.{Unit as ScrubUnit}
use Rattle.fs_model.specs.declared.unit.Unit.TheVariants as units
use Rattle.fs_model.specs.declared.verdict.Verdict.TheVariants as verdicts
use Rattle.fs_state.specs.Group.{is_among}
use Rattle.fs_state.specs.State.{State, is_readable}
use Rattle.geom.proofs.ApartLemmas.{splits_in}
use Rattle.geom.specs.Apart.{HasFitting}
use Rattle.sblock.specs.declared.kind.Kind.{Kind}
use Rattle.sblock.specs.declared.kind.Kind.TheVariants.{Ino, Fino}
use Rattle.law_repairs.specs.Repair.Letters.{Holds, Stands}
use Rattle.law_repairs.specs.Repair.Made.{CanBeMade}
use Rattle.law_repairs.specs.Repair.Owners.{AreOwners}
use Rattle.law_repairs.proofs.Repair.Ending.{ends_without_faults}
use Rattle.law_repairs.proofs.Repair.Keeping.{fault_keeps, marked_keeps, reply_keeps, verdict_keeps}
use Rattle.law_repairs.proofs.Repair.Made.{beside_stays, inodes_keep_mappings, unit_is_made}
use Rattle.law_repairs.proofs.Repair.Owners.{space_keeps_mappings}
use Rattle.law_repairs.proofs.Repair.Pieces.{reaped_keeps, reserved_keeps}
use Rattle.law_repairs.proofs.Repair.Releases.{released_keeps}
use Rattle.law_repairs.specs.Move.Order.{IsInOrder}
use Rattle.law_repairs.specs.Letter.Known.{AreKnown, Facts, Letters, LettersEnd, LettersFollow, are_made, is_of_repair, is_same_unit, outlasts, own_letters, rests}
use Rattle.law_repairs.specs.Letter.Reaping.{RestsOn}
use Rattle.law_repairs.specs.Reserve.Reserving.{ends_known, kept_by_edits}
use Rattle.law_repairs.proofs.Reserve.OwnGroup.{reserved_keeps_own}
use Rattle.law_repairs.proofs.Reserve.Owning.{runs_now}
use Rattle.law_repairs.proofs.Reserve.Reserved.{plain_owner}
use Rattle.law_repairs.proofs.Letter.Plain.{plain_words}
use Rattle.law_repairs.proofs.Letter.Reaped.{reaped_keeps_own}

same_unit : (own unit : ScrubUnit) → is_same_unit own unit ≡ true → own ≡ unit
same_unit units.Inode units.Inode h = refl
same_unit units.Rmap units.Rmap h = refl
same_unit units.Free units.Free h = refl
same_unit units.Refc units.Refc h = refl
same_unit own unit h = absurd (true≢false (sym h))

either_true : (x y : Bool) → (x || y) ≡ true → (x ≡ true) ⊎ (y ≡ true)
either_true true y h = inl refl
either_true false y h = inr h

none_is : (k : Bool) → not k ≡ true → k ≡ false
none_is true h = absurd (true≢false (sym h))
none_is false h = refl

owners_of : (a : State) (g : ℕ) (unit : ScrubUnit) → HasFitting a.geometry → IsInOrder a g → AreOwners a g unit
owners_of a g unit fit order = record { inside = order.inside; plain = plain_words a g (unit_owner unit) fit (plain_owner unit); runs = runs_now a g order.tuples order.next }

-- ---- a switch

switch_leaves : (a b : State) (left : List Kind) (g : ℕ) (own : ScrubUnit) (root second : ℕ) (unit : ScrubUnit) → HasFitting a.geometry → (s : Step a left (entries.Switched g own root second) b) → CanBeMade a g own s.row.0
    → AreOwners a g own → outlasts (a.group g) own unit ≡ true → Stands a g unit → Stands b g unit
switch_leaves a b left g units.Inode root second units.Rmap fit s can owners out stands =
    let read = and_parts (is_readable ((a.group g).tree Ino).reading) (is_readable ((a.group g).tree Fino).reading) out in
    inodes_keep_mappings a b left g root second (splits_in a.geometry fit) s (read.0, (read.1, tt)) stands
switch_leaves a b left g units.Free root second units.Rmap fit s can owners out stands = space_keeps_mappings a b left g units.Free root second (inl refl) (splits_in a.geometry fit) s owners stands
switch_leaves a b left g units.Refc root second units.Rmap fit s can owners out stands = space_keeps_mappings a b left g units.Refc root second (inr refl) (splits_in a.geometry fit) s owners stands
switch_leaves a b left g own root second unit fit s can owners out stands = beside_stays a b left g own root second g unit (splits_in a.geometry fit) s can (inr out) stands

switch_makes : (a b : State) (left : List Kind) (g : ℕ) (own : ScrubUnit) (root second : ℕ) (unit : ScrubUnit) → HasFitting a.geometry → (s : Step a left (entries.Switched g own root second) b) → CanBeMade a g own s.row.0
    → own ≡ unit → Stands b g unit
switch_makes a b left g own root second unit fit s can same trusted = subst (Holds b g) same (unit_is_made a b left g own root second (splits_in a.geometry fit) s can)

-- ---- a verdict

judged : (a b : State) (left : List Kind) (g : ℕ) (own : ScrubUnit) (unit : ScrubUnit) → HasFitting a.geometry → Step a left (entries.Verdict g own verdicts.Good) b → Holds a g own → own ≡ unit → Stands b g unit
judged a b left g own unit fit s holds same = verdict_keeps a b left g own verdicts.Good g unit (splits_in a.geometry fit) s holds (λ trusted. subst (Holds a g) same holds)

-- ---- a run that joins free space

rests_on : (a : State) (g : ℕ) (letters : Letters) (unit : ScrubUnit) → AreKnown a g letters → rests letters unit ≡ true → RestsOn a g unit
rests_on a g letters units.Free known h = known units.Rmap h
rests_on a g letters units.Inode known h = tt
rests_on a g letters units.Rmap known h = tt
rests_on a g letters units.Refc known h = tt

-- ---- the entry's own group

own_follow : (a b : State) (left : List Kind) (e : Entry) (letters : Letters) (unit : ScrubUnit) → HasFitting a.geometry → (s : Step a left e b) → Facts a b left e s → AreKnown a (group_of_entry a e) letters
    → own_letters a left e letters unit ≡ true → Stands b (group_of_entry a e) unit
own_follow a b left (entries.Marked g k cause) letters unit fit s facts known is = marked_keeps g k cause a b left g unit (splits_in a.geometry fit) s (known unit is)
own_follow a b left (entries.Fault g own fault) letters unit fit s facts known is = fault_keeps g own fault a b left g unit (splits_in a.geometry fit) s (known unit is)
own_follow a b left (entries.Reply writer line code done refused begun) letters unit fit s facts known is = reply_keeps writer line code done refused begun a b left 0 unit (splits_in a.geometry fit) s (known unit is)
own_follow a b left (entries.Released g own) letters unit fit s facts known is = released_keeps g own a b left g unit (splits_in a.geometry fit) s (known unit is)
own_follow a b left (entries.Verdict g own verdicts.Good) letters unit fit s facts known is = elim (either_true (is_same_unit own unit) (letters unit) is) [
  | inl same ↦ judged a b left g own unit fit s facts (same_unit own unit same)
  | inr was ↦ verdict_keeps a b left g own verdicts.Good g unit (splits_in a.geometry fit) s facts (known unit was)
]
own_follow a b left (entries.Verdict g own verdict) letters unit fit s facts known is = verdict_keeps a b left g own verdict g unit (splits_in a.geometry fit) s facts (known unit is)
own_follow a b left (entries.Reserved g own block spare) letters unit fit s facts known is =
    let parts = and_parts (letters unit) (not (ends_known own spare unit) && are_made left unit) is in
    let more = and_parts (not (ends_known own spare unit)) (are_made left unit) parts.1 in
    reserved_keeps_own a b left g own block spare unit fit s facts.0 facts.1 facts.2 facts.3 (none_is (ends_known own spare unit) more.0) (none_is (list_any (λ k. is_among k left) (kept_by_edits unit)) more.1) (known unit parts.0)
own_follow a b left (entries.Switched g own root second) letters unit fit s facts known is = elim (either_true (is_same_unit own unit) (letters unit && outlasts (a.group g) own unit) is) [
  | inl same ↦ switch_makes a b left g own root second unit fit s facts.0 (same_unit own unit same)
  | inr was ↦
      let parts = and_parts (letters unit) (outlasts (a.group g) own unit) was in
      switch_leaves a b left g own root second unit fit s facts.0 (owners_of a g own fit facts.1) parts.1 (known unit parts.0)
]
own_follow a b left (entries.Reaped e) letters unit fit s facts known is =
    let parts = and_parts (letters unit) (rests letters unit && are_made left unit) is in
    let more = and_parts (rests letters unit) (are_made left unit) parts.1 in
    reaped_keeps_own a b left e unit fit s facts.0 facts.1 facts.2 (none_is (list_any (λ k. is_among k left) (kept_by_edits unit)) more.1) (rests_on a e.group letters unit known more.0) (known unit parts.0)
own_follow a b left e letters unit fit s facts known is = absurd (true≢false (sym is))

-- ---- all other groups

others_follow : (a b : State) (left : List Kind) (e : Entry) (h : ℕ) (unit : ScrubUnit) → HasFitting a.geometry → (s : Step a left e b) → Facts a b left e s → is_of_repair e ≡ true → (h == group_of_entry a e) ≡ false
    → Stands a h unit → Stands b h unit
others_follow a b left (entries.Marked g k cause) h unit fit s facts is away stands = marked_keeps g k cause a b left h unit (splits_in a.geometry fit) s stands
others_follow a b left (entries.Fault g own fault) h unit fit s facts is away stands = fault_keeps g own fault a b left h unit (splits_in a.geometry fit) s stands
others_follow a b left (entries.Reply writer line code done refused begun) h unit fit s facts is away stands = reply_keeps writer line code done refused begun a b left h unit (splits_in a.geometry fit) s stands
others_follow a b left (entries.Released g own) h unit fit s facts is away stands = released_keeps g own a b left h unit (splits_in a.geometry fit) s stands
others_follow a b left (entries.Verdict g own verdict) h unit fit s facts is away stands = verdict_keeps a b left g own verdict h unit (splits_in a.geometry fit) s facts stands
others_follow a b left (entries.Reserved g own block spare) h unit fit s facts is away stands = reserved_keeps a b left g own block spare h unit (splits_in a.geometry fit) s facts.0 facts.1 facts.2.words (inl away) stands
others_follow a b left (entries.Switched g own root second) h unit fit s facts is away stands = beside_stays a b left g own root second h unit (splits_in a.geometry fit) s facts.0 (inl away) stands
others_follow a b left (entries.Reaped e) h unit fit s facts is away stands = reaped_keeps a b left e h unit (splits_in a.geometry fit) s facts.0 facts.1.words (inl away) stands
others_follow a b left e h unit fit s facts is away stands = absurd (true≢false (sym is))

pub letters_follow : LettersFollow
letters_follow a b left e h letters fit s facts known unit is = elim (cases_Bool (h == group_of_entry a e)) [
  | inl here ↦
      let same : h ≡ group_of_entry a e = eqb-true h (group_of_entry a e) here in
      subst (λ (n : ℕ). Stands b n unit) (sym same)
      (own_follow a b left e letters unit fit s facts (subst (λ (n : ℕ). AreKnown a n letters) same known)
      (sym (ap (λ (t : Bool). if t then own_letters a left e letters unit else is_of_repair e && letters unit) here) ∙ is))
  | inr away ↦
      let parts = and_parts (is_of_repair e) (letters unit) (sym (ap (λ (t : Bool). if t then own_letters a left e letters unit else is_of_repair e && letters unit) away) ∙ is) in
      others_follow a b left e h unit fit s facts parts.0 away (known unit parts.1)
]

pub letters_end : LettersEnd
letters_end a b g letters unit lt fit done forget known is trusted = ends_without_faults a b g unit lt (splits_in a.geometry fit) done forget (known unit is) trusted
