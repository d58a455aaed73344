-- Blocks that the check of all units reads, and that of a whole image, by what its phases read.
use Rattle.std.proofs.Common.{◌≡◌, ℕ, zero, suc, ◌+◌, ◌-◌, ◌<◌, Bool, List, [], ◌∷◌, ◌++◌, length, map, Option, None, Some, Result, Ok, Err, refl, sym, ◌∙◌, ap, subst, append_assoc, arith}
use Rattle.std.specs.Prelude.{flat_map}
use Rattle.std.proofs.lemmas.List.{append-nil}
use Rattle.ag_headers.specs.declared.fault.HeadFault.{HeadFault}
use Rattle.blk_device.specs.Contents.{Contents}
use Rattle.check_phases.proofs.KeptLemmas.{as_kept, begun_here, stops_early, then_keeps}
use Rattle.check_phases.proofs.OrderLemmas.{phases_in_order}
use Rattle.check_phases.proofs.PhaseLemmas.{phases_are_session}
use Rattle.check_phases.specs.Kept.{AreKept, KeepsEvents, KeepsTold, StopsKept, come, group_kept, most_in, phase_kept}
use Rattle.check_phases.specs.Phases.{Inodes, Mappings, Phase, Space, group_events, lacks_inodes, lacks_mappings, lacks_nothing, phase_events, places, units_in}
use Rattle.check_phases.specs.Session.{inode_fallen, mappings_passed}
use Rattle.check_phases.specs.declared.part.Part.{Part}
use Rattle.check_phases.specs.declared.tally.Tally.{Tally}
use Rattle.fs_state.specs.Lists.{numbers}
use Rattle.fs_state.specs.Session.{Place}
use Rattle.fs_model.specs.declared.entry.Entry.{Entry}
use Rattle.fs_model.specs.declared.unit.Head.{Head}
use Rattle.fs_model.specs.declared.unit.Unit.{Unit as ScrubUnit}
use Rattle.fs_model.specs.declared.unit.Unit.TheVariants as units
use Rattle.fs_state.specs.Kinds.{Image}
use Rattle.fs_state.specs.State.{State}
use Rattle.geom.specs.Layout.{Layout}
use Rattle.inode_pass.specs.Units.{opened_state}
use Rattle.quiet_check.specs.Entries.{entries_after}
use Rattle.space_check.specs.Checked.{HaltsInHeads, bad_head_from, look, looked_at, looks}
use Rattle.space_check.specs.Events.{Event, Moment, entries_of, moment, reads_of}
use Rattle.space_check.specs.Groups.{event}
use Rattle.space_check.specs.declared.halt.Halt.{Halt}
use Rattle.space_check.specs.declared.halt.Halt.TheVariants as halts
use Rattle.space_check.specs.declared.journal.Journal.{Journal}
use Rattle.image_check.proofs.DecidedLemmas.{empty_room, events_judged}
use Rattle.image_check.specs.Image.{ReadsForEvents, bounded, image_events, units_events}
use Rattle.image_check.specs.Kept.{KeepsMappings, all_kept, mappings_kept, units_kept}
use Rattle.image_check.specs.Reads.{most_read}

-- ---- the events of a session, with what they may read

bounded_both : (most : ℕ → ScrubUnit → ℕ) (ps qs : List Place) (es fs : List Event) → length es ≡ length ps → bounded most (ps ++ qs) (es ++ fs) ≡ bounded most ps es ++ bounded most qs fs
bounded_both most [] qs [] fs long = refl
bounded_both most [] qs (e ∷ es) fs long = absurd (omega (arith, long))
bounded_both most (p ∷ ps) qs [] fs long = absurd (omega (arith, long))
bounded_both most (p ∷ ps) qs (e ∷ es) fs long = ap (λ (x : List Event). event (most p.0 p.1) e.entries ∷ x) (bounded_both most ps qs es fs (omega (arith, long)))

both_long : (es fs : List Event) (ps qs : List Place) → length es ≡ length ps → length fs ≡ length qs → length (es ++ fs) ≡ length (ps ++ qs)
both_long [] fs [] qs h k = k
both_long [] fs (p ∷ ps) qs h k = absurd (omega (arith, h))
both_long (e ∷ es) fs [] qs h k = absurd (omega (arith, h))
both_long (e ∷ es) fs (p ∷ ps) qs h k = ap suc (both_long es fs ps qs (omega (arith, h)) k)

module _ (most : ℕ → ScrubUnit → ℕ) (a : State) (lacks : ℕ → Option Place) where
  abbrev at_places : Phase → List ℕ → List Place
  at_places phase hs = flat_map (λ h. map (λ unit. (h, unit)) (units_in phase)) hs

  long : (phase : Phase) (hs : List ℕ) → length (flat_map (group_events a phase lacks) hs) ≡ length (at_places phase hs)
  long Inodes [] = refl
  long Inodes (h ∷ hs) = ap suc (long Inodes hs)
  long Mappings [] = refl
  long Mappings (h ∷ hs) = ap suc (long Mappings hs)
  long Space [] = refl
  long Space (h ∷ hs) = ap (λ n. suc (suc n)) (long Space hs)

  kept : (phase : Phase) (hs : List ℕ) → bounded most (at_places phase hs) (flat_map (group_events a phase lacks) hs) ≡ flat_map (group_kept most a phase lacks) hs
  kept Inodes [] = refl
  kept Inodes (h ∷ hs) = ap (λ (x : List Event). event (most h units.Inode) (entries_after a h units.Inode (lacks h)) ∷ x) (kept Inodes hs)
  kept Mappings [] = refl
  kept Mappings (h ∷ hs) = ap (λ (x : List Event). event (most h units.Rmap) (entries_after a h units.Rmap (lacks h)) ∷ x) (kept Mappings hs)
  kept Space [] = refl
  kept Space (h ∷ hs) = ap (λ (x : List Event). event (most h units.Free) (entries_after a h units.Free (lacks h)) ∷ event (most h units.Refc) (entries_after a h units.Refc (lacks h)) ∷ x) (kept Space hs)

  phase_long : (phase : Phase) (n : ℕ) → length (phase_events a phase lacks 0 n) ≡ length (places phase 0 n)
  unfolding phase_events
  phase_long phase n = long phase (numbers 0 n)

  phase_is : (phase : Phase) (n : ℕ) → bounded most (places phase 0 n) (phase_events a phase lacks 0 n) ≡ phase_kept most a phase lacks 0 n
  unfolding phase_events phase_kept
  phase_is phase n = kept phase (numbers 0 n)

module _ (at : Layout) (image : Image) where
  abbrev a : State
  a = opened_state at image

  abbrev first : List Event
  first = phase_kept (most_read at image) a Inodes lacks_nothing 0 at.agcount

  abbrev second : List Event
  second = phase_kept (most_read at image) a Mappings (lacks_inodes (inode_fallen a)) 0 at.agcount

  abbrev third : List Event
  third = phase_kept (most_read at image) a Space (lacks_mappings (mappings_passed a)) 0 at.agcount

  units_are : first ++ second ++ third ≡ units_kept at image
  units_are =
      let most = most_read at image in
      let n = at.agcount in
      let p = places Inodes 0 n in
      let q = places Mappings 0 n in
      let r = places Space 0 n in
      let es = phase_events a Inodes lacks_nothing 0 n in
      let fs = phase_events a Mappings (lacks_inodes (inode_fallen a)) 0 n in
      let gs = phase_events a Space (lacks_mappings (mappings_passed a)) 0 n in
      let two = both_long es fs p q (phase_long most a lacks_nothing Inodes n) (phase_long most a (lacks_inodes (inode_fallen a)) Mappings n) in
      (λ i. sym (phase_is most a lacks_nothing Inodes n) i ++ sym (phase_is most a (lacks_inodes (inode_fallen a)) Mappings n) i ++ sym (phase_is most a (lacks_mappings (mappings_passed a)) Space n) i)
      ∙ ap (λ (x : List Event). x ++ bounded most r gs) (sym (bounded_both most p q es fs (phase_long most a lacks_nothing Inodes n)))
      ∙ sym (bounded_both most (p ++ q) r (es ++ fs) gs two)
      ∙ (λ i. bounded most (phases_in_order n i) (phases_are_session a i))

  as_inodes : phase_kept (most_in at image) a Inodes lacks_nothing 0 at.agcount ≡ first
  unfolding phase_kept most_read
  as_inodes = refl

  as_space : (passed : List Bool) → phase_kept (most_in at image) a Space (lacks_mappings passed) 0 at.agcount ≡ phase_kept (most_read at image) a Space (lacks_mappings passed) 0 at.agcount
  unfolding phase_kept most_read
  as_space passed = refl

  -- ---- how they end

  pub inodes_stop : (x y : Moment) → StopsKept (phase_kept (most_in at image) a Inodes lacks_nothing 0 at.agcount) x y → StopsKept (units_kept at image) x y
  inodes_stop x y h =
      subst (λ (es : List Event). StopsKept es x y) units_are
      (stops_early (first ++ second) third x y (stops_early first second x y (subst (λ (es : List Event). StopsKept es x y) as_inodes h)))

  -- inodes were judged, and reverse mappings were or stopped
  then_mappings : {T : Type 0} (x y z : Moment) (fallen : Option ℕ) (result : Result T Halt) → fallen ≡ inode_fallen a → AreKept (phase_kept (most_in at image) a Inodes lacks_nothing 0 at.agcount) x y → KeepsEvents (all_kept at fallen image) y z result → KeepsEvents (first ++ second) x z result
  then_mappings x y z fallen result is inodes mappings =
      then_keeps first second x y z result (subst (λ (es : List Event). AreKept es x y) as_inodes inodes) (subst (λ (o : Option ℕ). KeepsEvents (all_kept at o image) y z result) is mappings)

  pub mappings_stop : (x y z : Moment) (fallen : Option ℕ) → fallen ≡ inode_fallen a → AreKept (phase_kept (most_in at image) a Inodes lacks_nothing 0 at.agcount) x y → StopsKept (all_kept at fallen image) y z → StopsKept (units_kept at image) x z
  mappings_stop x y z fallen is inodes mappings =
      subst (λ (es : List Event). StopsKept es x z) units_are (stops_early (first ++ second) third x z (then_mappings {T = Unit {0}} x y z fallen (Err halts.Memory) is inodes mappings))

  pub units_keep : {T : Type 0} (x y z w : Moment) (fallen : Option ℕ) (passed : List Bool) (result : Result T Halt) → fallen ≡ inode_fallen a → passed ≡ mappings_passed a → AreKept (phase_kept (most_in at image) a Inodes lacks_nothing 0 at.agcount) x y → AreKept (all_kept at fallen image) y z
      → KeepsEvents (phase_kept (most_in at image) a Space (lacks_mappings passed) 0 at.agcount) z w result → KeepsEvents (units_kept at image) x w result
  units_keep x y z w fallen passed result is are inodes mappings space =
      let both = then_mappings {T = Unit {0}} x y z fallen (Ok tt) is inodes mappings in
      let last = subst (λ (ps : List Bool). KeepsEvents (phase_kept (most_read at image) a Space (lacks_mappings ps) 0 at.agcount) z w result) are (as_kept (phase_kept (most_in at image) a Space (lacks_mappings passed) 0 at.agcount) (phase_kept (most_read at image) a Space (lacks_mappings passed) 0 at.agcount) z w result (as_space passed) space) in
      as_kept (first ++ second ++ third) (units_kept at image) x w result units_are (then_keeps (first ++ second) third x z w result both last)

-- ---- phases over all groups

pub from_same : {T : Type 0} (events : List Event) (x y : Tally) (reads : ℕ) (z : Moment) (result : Result T Halt) → y.journal ≡ x.journal → KeepsEvents events (come y reads) z result → KeepsEvents events (come x reads) z result
from_same events x y reads z result same h = subst (λ (j : Journal). KeepsEvents events (moment j.entries.items reads) z result) same h

pub mappings_of_whole : {T : Type 0} (at : Layout) (told : Option Contents) (part : Part) (n : ℕ) (x y : Tally) (reads reads' : ℕ) (result : Result T Halt) → part.from ≡ 0 → part.to ≡ n → KeepsMappings at told part x reads y reads' result → KeepsTold told (mappings_kept at 0 n) x reads y reads' result
mappings_of_whole at told part n x y reads reads' result none all h =
    let some : part.to - part.from ≡ n = omega (arith, none, all) in
    subst (λ k. KeepsTold told (mappings_kept at k n) x reads y reads' result) none (subst (λ k. KeepsTold told (mappings_kept at part.from k) x reads y reads' result) some h)

module _ {T : Type 0} (at : Layout) (image : Image) where
  of_whole : (phase : Phase) (lacks : ℕ → Option Place) (part : Part) (n : ℕ) (x y : Moment) (result : Result T Halt) → part.from ≡ 0 → part.to ≡ n → KeepsEvents (phase_kept (most_in at image) (opened_state at image) phase lacks part.from (part.to - part.from)) x y result → KeepsEvents (phase_kept (most_in at image) (opened_state at image) phase lacks 0 n) x y result
  of_whole phase lacks part n x y result none all h =
      let some : part.to - part.from ≡ n = omega (arith, none, all) in
      subst (λ k. KeepsEvents (phase_kept (most_in at image) (opened_state at image) phase lacks k n) x y result) none (subst (λ k. KeepsEvents (phase_kept (most_in at image) (opened_state at image) phase lacks part.from k) x y result) some h)

  pub inodes_of_whole : (part : Part) (n : ℕ) (x y : Moment) (result : Result T Halt) → part.from ≡ 0 → part.to ≡ n → KeepsEvents (phase_kept (most_in at image) (opened_state at image) Inodes lacks_nothing part.from (part.to - part.from)) x y result → KeepsEvents (phase_kept (most_in at image) (opened_state at image) Inodes lacks_nothing 0 n) x y result
  inodes_of_whole part n x y result none all h = of_whole Inodes lacks_nothing part n x y result none all h

  pub space_of_whole : (passed : List Bool) (part : Part) (n : ℕ) (x y : Tally) (reads : ℕ) (z : Moment) (result : Result T Halt) → part.from ≡ 0 → part.to ≡ n → y.journal ≡ x.journal
      → KeepsEvents (phase_kept (most_in at image) (opened_state at image) Space (lacks_mappings passed) part.from (part.to - part.from)) (come y reads) z result → KeepsEvents (phase_kept (most_in at image) (opened_state at image) Space (lacks_mappings passed) 0 n) (come x reads) z result
  space_of_whole passed part n x y reads z result none all same h =
      from_same (phase_kept (most_in at image) (opened_state at image) Space (lacks_mappings passed) 0 n) x y reads z result same (of_whole Space (lacks_mappings passed) part n (come y reads) z result none all h)

-- ---- a whole image

entries_looks : (n : ℕ) → entries_of (looks n) ≡ []
entries_looks zero = refl
entries_looks (suc n) = entries_looks n

reads_looks : (n : ℕ) → reads_of (looks n) ≡ n
reads_looks zero = refl
reads_looks (suc n) = omega (arith, reads_looks n)

looks_at : (i k n : ℕ) → n ≡ i + suc k → looks n ≡ looks i ++ look ∷ looks k
looks_at zero k n e = let same : n ≡ suc k = omega (arith, e) in ap looks same
looks_at (suc i) k n e =
    let same : n ≡ suc (i + suc k) = omega (arith, e) in
    ap looks same ∙ ap (λ (es : List Event). look ∷ es) (looks_at i k (i + suc k) refl)

looks_kept : (n before after : ℕ) → after ≡ before + n → AreKept (looks n) (moment [] before) (moment [] after)
looks_kept n before after read = record { entries = sym (entries_looks n); read = omega (arith, read, reads_looks n) }

module _ (at : Layout) (image : Image) where
  looked_none : bad_head_from at image 0 at.agcount ≡ None → looked_at at image ≡ at.agcount
  unfolding looked_at
  looked_none none = rw (none, looked_at) refl

  looked_some : (bad : ℕ × (Head × HeadFault)) → bad_head_from at image 0 at.agcount ≡ Some bad → looked_at at image ≡ bad.0 + 1
  unfolding looked_at
  looked_some bad is = rw (is, looked_at) refl

  no_units : (bad : ℕ × (Head × HeadFault)) → bad_head_from at image 0 at.agcount ≡ Some bad → units_events at image ≡ []
  unfolding units_events
  no_units bad is = rw (is, units_events) refl

  -- a look was cut off
  look_kept : (i before after : ℕ) → i < looked_at at image → after ≡ before + (i + 1) → ReadsForEvents (image_events at image) before after []
  unfolding image_events
  look_kept i before after lt read =
      let k = looked_at at image - suc i in
      let parts : looked_at at image ≡ i + suc k = omega (arith, lt) in
      let begun = begun_here [] look (looks k ++ units_events at image) empty_room in
      record {
        done = looks i;
        rest = look ∷ (looks k ++ units_events at image);
        whole = ap (λ (es : List Event). es ++ units_events at image) (looks_at i k (looked_at at image) parts) ∙ append_assoc (looks i) (look ∷ looks k) (units_events at image);
        entries = sym (entries_looks i);
        read = omega (arith, read, begun, reads_looks i);
      }

  by_halt : (halt : Halt) (before after : ℕ) → HaltsInHeads at image before after halt → ReadsForEvents (image_events at image) before after []
  unfolding image_events
  by_halt (halts.Head g head fault) before after h =
      let looked = looked_some (g, (head, fault)) h.0 in
      record {
        done = looks (g + 1);
        rest = [];
        whole = (λ i. looks (looked i) ++ no_units (g, (head, fault)) h.0 i);
        entries = sym (entries_looks (g + 1));
        read = omega (arith, h.1, reads_looks (g + 1));
      }
  by_halt halts.Full before after h = absurd h
  by_halt halts.Failed before after h = look_kept h.0 before after h.1 h.2
  by_halt halts.Memory before after h = look_kept h.0 before after h.1 h.2

  pub heads_end : (halt : Halt) (before after : ℕ) (journal : List Entry) → journal ≡ [] → HaltsInHeads at image before after halt → ReadsForEvents (image_events at image) before after journal
  heads_end halt before after journal empty h = subst (λ (j : List Entry). ReadsForEvents (image_events at image) before after j) (sym empty) (by_halt halt before after h)

  is_kept : {T : Type 0} (before after : ℕ) (journal : List Entry) (result : Result T Halt) → KeepsEvents (image_events at image) (moment [] before) (moment journal after) result → ReadsForEvents (image_events at image) before after journal
  is_kept before after journal (Ok done) h = record { done = image_events at image; rest = []; whole = sym (append-nil (image_events at image)); entries = h.entries; read = omega (arith, h.read) }
  is_kept before after journal (Err halt) h = record { done = h.done; rest = h.rest; whole = h.whole; entries = h.entries; read = h.read }

  pub units_end : {T : Type 0} (before mid after : ℕ) (empty journal : List Entry) (result : Result T Halt) → bad_head_from at image 0 at.agcount ≡ None → mid ≡ before + at.agcount → empty ≡ [] → KeepsEvents (units_kept at image) (moment empty mid) (moment journal after) result → ReadsForEvents (image_events at image) before after journal
  unfolding image_events
  units_end before mid after empty journal result none read is h =
      let here = subst (λ (j : List Entry). KeepsEvents (units_kept at image) (moment j mid) (moment journal after) result) is h in
      let whole = then_keeps (looks at.agcount) (units_kept at image) (moment [] before) (moment [] mid) (moment journal after) result (looks_kept at.agcount before mid read) here in
      is_kept before after journal result
      (as_kept (looks at.agcount ++ units_kept at image) (image_events at image) (moment [] before) (moment journal after) result (λ i. looks (sym (looked_none none) i) ++ sym (events_judged at image none) i) whole)
