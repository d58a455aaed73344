-- How the check of a whole image ends, by how its heads and its units do.
use Rattle.std.proofs.Common.{◌≡◌, ℕ, zero, suc, ◌<◌, ◌≤◌, Bool, true, false, List, [], ◌∷◌, ◌++◌, length, None, Some, Result, Ok, Err, refl, sym, ◌∙◌, ap, subst, append_assoc, arith, lit<}
use Rattle.std.specs.Prelude.{nat_lt, cond}
use Rattle.std.proofs.lemmas.Bool.Decides.{nat_tests}
use Rattle.std.proofs.lemmas.List.{append-nil}
use Rattle.ag_headers.specs.declared.fault.HeadFault.{HeadFault}
use Rattle.blk_device.specs.Taken.{IsFront}
use Rattle.check_phases.specs.Session.{check_events, session_events, with_entries}
use Rattle.fs_state.specs.Session.{Place, unit_order}
use Rattle.fs_model.specs.declared.entry.Entry.{Entry}
use Rattle.fs_model.specs.declared.unit.Head.{Head}
use Rattle.fs_model.specs.declared.unit.Unit.{Unit as ScrubUnit}
use Rattle.fs_state.specs.Kinds.{Image}
use Rattle.fs_state.specs.State.{State}
use Rattle.geom.specs.Layout.{Layout}
use Rattle.inode_pass.specs.Units.{opened_state}
use Rattle.quiet_check.specs.Entries.{unit_entries}
use Rattle.space_check.specs.Checked.{Checked, Filled, HaltsInHeads, Judged, RefusedHead, bad_head_from, journal_of, looked_at, looks, recorded}
use Rattle.space_check.specs.Events.{Does, Event, HasRoom, Moment, AreDone, StopsIn, entries_of, most_entries}
use Rattle.space_check.specs.Session.{come_to}
use Rattle.space_check.specs.declared.halt.Halt.{Halt}
use Rattle.space_check.specs.declared.halt.Halt.TheVariants as halts
use Rattle.image_check.specs.Image.{MeetsEnd, bounded, image_checked, image_events, units_events}
use Rattle.image_check.specs.Reads.{most_read}

-- ---- what events record

has_room : (n most : ℕ) → n < most → nat_lt n most ≡ true
has_room n most h = grind (arith, nat_tests)

has_none : (n most : ℕ) → most ≤ n → nat_lt n most ≡ false
has_none n most h = grind (arith, nat_tests)

pub empty_room : length {A = Entry} [] < most_entries
unfolding most_entries
empty_room = lit< tt

recorded_on : (journal : List Entry) (es fs : List Event) → HasRoom journal es → recorded journal (es ++ fs) ≡ recorded (journal ++ entries_of es) fs
recorded_on journal [] fs h = ap (λ (j : List Entry). recorded j fs) (sym (append-nil journal))
recorded_on journal (e ∷ es) fs h =
    ap (λ (b : Bool). cond b (recorded (journal ++ e.entries) (es ++ fs)) (Filled journal)) (has_room (length journal) most_entries h.0)
    ∙ recorded_on (journal ++ e.entries) es fs h.1
    ∙ ap (λ (j : List Entry). recorded j fs) (append_assoc journal e.entries (entries_of es))

recorded_all : (es : List Event) (a b : Moment) → AreDone es a b → recorded a.journal es ≡ Judged b.journal
recorded_all es a b d = ap (recorded a.journal) (sym (append-nil es)) ∙ recorded_on a.journal es [] d.room ∙ ap Judged (sym d.added)

recorded_full : (journal : List Entry) (e : Event) (es : List Event) → most_entries ≤ length journal → recorded journal (e ∷ es) ≡ Filled journal
recorded_full journal e es h = ap (λ (b : Bool). cond b (recorded (journal ++ e.entries) es) (Filled journal)) (has_none (length journal) most_entries h)

front_recorded : (es : List Event) (journal : List Entry) → IsFront journal (journal_of (recorded journal es))
front_recorded [] journal = ([], sym (append-nil journal))
front_recorded (e ∷ es) journal = by_room (nat_lt (length journal) most_entries) (front_recorded es (journal ++ e.entries))
  where
    by_room : (b : Bool) → IsFront (journal ++ e.entries) (journal_of (recorded (journal ++ e.entries) es)) → IsFront journal (journal_of (cond b (recorded (journal ++ e.entries) es) (Filled journal)))
    by_room true more = (e.entries ++ more.0, more.1 ∙ append_assoc journal e.entries more.0)
    by_room false more = ([], sym (append-nil journal))

-- what the events before the last one left
recorded_then : (halt : Halt) (es : List Event) (a b : Moment) (s : StopsIn halt es a b) → recorded a.journal es ≡ recorded s.reached.journal (s.next ∷ s.rest)
recorded_then halt es a b s =
    ap (recorded a.journal) s.whole ∙ recorded_on a.journal s.done (s.next ∷ s.rest) s.front.room ∙ ap (λ (j : List Entry). recorded j (s.next ∷ s.rest)) (sym s.front.added)

front_at : (halt : Halt) (es : List Event) (a b : Moment) (s : StopsIn halt es a b) → b.journal ≡ s.reached.journal → IsFront b.journal (journal_of (recorded a.journal es))
front_at halt es a b s same =
    subst (λ (whole : Checked). IsFront b.journal (journal_of whole)) (sym (recorded_then halt es a b s))
    (subst (λ (j : List Entry). IsFront j (journal_of (recorded s.reached.journal (s.next ∷ s.rest)))) (sym same) (front_recorded (s.next ∷ s.rest) s.reached.journal))

-- events that were done, or of which the first were, end so
ends_recorded : {T : Type 0} (es : List Event) (a b : Moment) (result : Result T Halt) → Does es a b result → MeetsEnd (recorded a.journal es) b.journal result
ends_recorded es a b (Ok done) h = recorded_all es a b h
ends_recorded es a b (Err (halts.Head g head fault)) h = absurd h.ended
ends_recorded es a b (Err halts.Full) h = recorded_then halts.Full es a b h ∙ recorded_full h.reached.journal h.next h.rest h.ended.0 ∙ ap (λ (m : Moment). Filled m.journal) (sym h.ended.1)
ends_recorded es a b (Err halts.Failed) h = front_at halts.Failed es a b h h.ended.none
ends_recorded es a b (Err halts.Memory) h = front_at halts.Memory es a b h h.ended.none

-- ---- looks record nothing, and how much is read isn't recorded

recorded_looks : (n : ℕ) (es : List Event) → recorded [] (looks n ++ es) ≡ recorded [] es
recorded_looks zero es = refl
recorded_looks (suc n) es = ap (λ (b : Bool). cond b (recorded [] (looks n ++ es)) (Filled [])) (has_room 0 most_entries empty_room) ∙ recorded_looks n es

recorded_bounded : (most : ℕ → ScrubUnit → ℕ) (ps : List Place) (es : List Event) (journal : List Entry) → length es ≡ length ps → recorded journal (bounded most ps es) ≡ recorded journal es
recorded_bounded most [] [] journal long = refl
recorded_bounded most [] (e ∷ es) journal long = absurd (omega (arith, long))
recorded_bounded most (p ∷ ps) [] journal long = refl
recorded_bounded most (p ∷ ps) (e ∷ es) journal long =
    ap (λ (c : Checked). cond (nat_lt (length journal) most_entries) c (Filled journal)) (recorded_bounded most ps es (journal ++ e.entries) (omega (arith, long)))

session_long : (a : State) (past : List Entry) (ps : List Place) → length (session_events a past ps) ≡ length ps
session_long a past [] = refl
session_long a past (p ∷ ps) = ap suc (session_long a (with_entries past (unit_entries a past p.0 p.1)) ps)

-- ---- the whole

module _ (at : Layout) (image : Image) where
  pub events_judged : bad_head_from at image 0 at.agcount ≡ None → units_events at image ≡ bounded (most_read at image) (unit_order at.agcount) (check_events (opened_state at image))
  unfolding units_events
  events_judged none = rw (none, units_events) refl

  checked_judged : bad_head_from at image 0 at.agcount ≡ None → image_checked at image ≡ recorded [] (image_events at image)
  unfolding image_checked
  checked_judged none = rw (none, image_checked) refl

  checked_refused : (g : ℕ) (head : Head) (fault : HeadFault) → bad_head_from at image 0 at.agcount ≡ Some (g, (head, fault)) → image_checked at image ≡ RefusedHead g head fault
  unfolding image_checked
  checked_refused g head fault is = rw (is, image_checked) refl

  -- where no head is refused, the units decide
  units_decide : bad_head_from at image 0 at.agcount ≡ None → image_checked at image ≡ recorded [] (check_events (opened_state at image))
  unfolding image_events check_events
  units_decide none =
      let a = opened_state at image in
      checked_judged none ∙ recorded_looks (looked_at at image) (units_events at image) ∙ ap (recorded []) (events_judged none)
      ∙ recorded_bounded (most_read at image) (unit_order at.agcount) (check_events a) [] (session_long a [] (unit_order at.agcount))

  -- the heads ended it
  pub ends_in_heads : (T : Type 0) (before after : ℕ) (journal : List Entry) (halt : Halt) → journal ≡ [] → HaltsInHeads at image before after halt → MeetsEnd {T = T} (image_checked at image) journal (Err halt)
  ends_in_heads T before after journal (halts.Head g head fault) empty h = (checked_refused g head fault h.0, empty)
  ends_in_heads T before after journal halts.Full empty h = absurd h
  ends_in_heads T before after journal halts.Failed empty h = (journal_of (image_checked at image), ap (λ (j : List Entry). j ++ journal_of (image_checked at image)) (sym empty))
  ends_in_heads T before after journal halts.Memory empty h = (journal_of (image_checked at image), ap (λ (j : List Entry). j ++ journal_of (image_checked at image)) (sym empty))

  -- the units did
  pub ends_in_units : {T : Type 0} (empty journal : List Entry) (result : Result T Halt) → bad_head_from at image 0 at.agcount ≡ None → empty ≡ [] → Does (check_events (opened_state at image)) (come_to empty) (come_to journal) result → MeetsEnd (image_checked at image) journal result
  ends_in_units {T} empty journal result none is h =
      let a = opened_state at image in
      subst (λ (decided : Checked). MeetsEnd decided journal result) (sym (units_decide none))
      (ends_recorded (check_events a) (come_to []) (come_to journal) result (subst (λ (j : List Entry). Does (check_events a) (come_to j) (come_to journal) result) is h))
