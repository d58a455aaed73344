-- What an event leaves of the open unit and of what is known of its group, from what its own crate says of it.
use Rattle.std.proofs.Common.{◌≡◌, ◌∙◌, ℕ, Bool, true, false, refl, sym, ap, subst, inl, inr}
use Rattle.std.proofs.lemmas.List.{append-nil, append_cancel_left}
use Rattle.std.specs.Prelude.{List, [], ◌∷◌, ◌++◌, ◌⊎◌, ⊤, Option, Some, None, Result, Ok, Err, IfErr, OnErr, OnOk, slice_set}
use Rattle.std.specs.List.{slice_get}
use Rattle.block_reap.specs.declared.runs.LimboRun.{LimboRun}
use Rattle.core_begin.specs.After.{IsOtherPhase, IsSetAside, MayMove}
use Rattle.core_begin.specs.Starts.{Clears, IsOpened, MayBar}
use Rattle.core_build.specs.Says.{Does, Reserves, SaysReserving, Takes}
use Rattle.core_check.specs.Entries.{GivesEvidence, IsLeftByGathering}
use Rattle.core_calls.specs.declared.answers.Answer.{Answer}
use Rattle.core_calls.specs.declared.answers.Answer.TheVariants as answers
use Rattle.core_calls.specs.declared.answers.Moved.{Moved}
use Rattle.core_calls.specs.declared.answers.Moved.TheVariants.{At, End}
use Rattle.core_calls.specs.declared.answers.ScrubFault.{ScrubFault}
use Rattle.core_calls.specs.declared.answers.ScrubFault.TheVariants as faults
use Rattle.core_parts.specs.Common.Entries.{HasMore, IsShutBy, entries_of, entries_on}
use Rattle.core_parts.specs.Common.Kinds.{with_trust}
use Rattle.core_parts.specs.Common.Marks.{mark_of, marks_of, sick_by, sick_if}
use Rattle.core_parts.specs.declared.desk.Desk.{Desk}
use Rattle.core_parts.specs.declared.groups.GroupKept.{GroupKept}
use Rattle.core_parts.specs.declared.groups.Passed.{Passed}
use Rattle.core_parts.specs.declared.groups.Trusts.{Trusts}
use Rattle.core_parts.specs.declared.parts.Parts.{Parts}
use Rattle.core_parts.specs.declared.units.UnitState.{UnitState}
use Rattle.core_parts.specs.declared.units.Work.{Work}
use Rattle.core_parts.specs.declared.units.Work.TheVariants as works
use Rattle.core_switch.specs.Says.{IsNextRun, MarksRmap, ReapsNone, ReapsRun, SaysReaping, SaysRun}
use Rattle.core_switch.specs.Switched.{HasSwitched, HasSwitchedBy}
use Rattle.core_units.specs.declared.rebuild.Next.{Next}
use Rattle.core_units.specs.declared.rebuild.Next.TheVariants as nexts
use Rattle.core_units.specs.declared.rebuild.Rebuild.{Rebuild}
use Rattle.fs_model.specs.declared.entry.Entry.{Entry}
use Rattle.fs_model.specs.declared.fault.Cause.{Cause}
use Rattle.fs_model.specs.declared.unit.Unit.{Unit as ScrubUnit}
use Rattle.fs_state.specs.declared.plan.Plan.{Plan}
use Rattle.fsck_core.specs.Entries.{IsStarted, IsUnopened, NoneSaid, SaysStarting, entries_told}
use Rattle.fsck_core.specs.Moves.{IsNamed, Knows, KnowsDone, MayGather, MayRefuse, MayTell, MovesIn}
use Rattle.fsck_core.specs.Told.{told_done, told_moved, told_piece}
use Rattle.fsck_core.specs.declared.events.Event.{Event}
use Rattle.core_edit.specs.declared.place.IndexesLeft.{IndexesLeft}
use Rattle.sblock.specs.declared.kind.Kind.TheVariants.{Bno, Cnt, Rmap}
use Rattle.unit_trust.specs.Trusts.{KnownBy, lacks, passed_after, trust_after}
use Rattle.fsck_core.proofs.SayLemmas.{done_says}

-- ---- the unit

pub named_work : (u v : UnitState) → v ≡ record u { work = v.work } → IsNamed u v
named_work u v is = record { unit = ap (λ (x : UnitState). x.unit) is; plan = ap (λ (x : UnitState). x.plan) is; turns = ap (λ (x : UnitState). x.turns) is }

pub named_early : (u v : UnitState) → v ≡ record u { work = v.work; asked = v.asked } → IsNamed u v
named_early u v is = record { unit = ap (λ (x : UnitState). x.unit) is; plan = ap (λ (x : UnitState). x.plan) is; turns = ap (λ (x : UnitState). x.turns) is }

pub named_same : (u v : UnitState) → v ≡ u → IsNamed u v
named_same u v is = record { unit = ap (λ (x : UnitState). x.unit) is; plan = ap (λ (x : UnitState). x.plan) is; turns = ap (λ (x : UnitState). x.turns) is }

-- ---- which refusals come

piece_refused : (event : Event) (turns : ℕ) (r : Result Bool ScrubFault) → IfErr r (MayRefuse event turns) → MayTell event turns (told_piece r)
piece_refused event turns (Ok b) may = tt
piece_refused event turns (Err fault) may = may

pub piece_may : (event : Event) (turns : ℕ) (r : Result Bool ScrubFault) (a : Answer) → a ≡ told_piece r → IfErr r (MayRefuse event turns) → MayTell event turns a
piece_may event turns r a is may = subst (MayTell event turns) (sym is) (piece_refused event turns r may)

moved_refused : (event : Event) (turns : ℕ) (r : Result Moved ScrubFault) → IfErr r (MayRefuse event turns) → MayTell event turns (told_moved r)
moved_refused event turns (Ok (At ino)) may = tt
moved_refused event turns (Ok End) may = tt
moved_refused event turns (Err fault) may = may

pub moved_may : (event : Event) (turns : ℕ) (r : Result Moved ScrubFault) (a : Answer) → a ≡ told_moved r → IfErr r (MayRefuse event turns) → MayTell event turns a
moved_may event turns r a is may = subst (MayTell event turns) (sym is) (moved_refused event turns r may)

done_refused : {T : Type 0} (event : Event) (turns : ℕ) (r : Result T ScrubFault) → IfErr r (MayRefuse event turns) → MayTell event turns (told_done r)
done_refused event turns (Ok b) may = tt
done_refused event turns (Err fault) may = may

pub done_may : {T : Type 0} (event : Event) (turns : ℕ) (r : Result T ScrubFault) (a : Answer) → a ≡ told_done r → IfErr r (MayRefuse event turns) → MayTell event turns a
done_may event turns r a is may = subst (MayTell event turns) (sym is) (done_refused event turns r may)

-- a gathering skips no unit
pub gather_may : (r : Result Bool ScrubFault) (was now : Work) → IfErr r GivesEvidence → IfErr r (λ fault. IsLeftByGathering was fault now) → IfErr r MayGather
gather_may (Ok b) was now gives left = tt
gather_may (Err (faults.Skipped h u)) was now gives left = absurd left
gather_may (Err fault) was now gives left = gives

-- in another phase a scan doesn't move
pub other_move : (turns : ℕ) (fault : ScrubFault) → IsOtherPhase fault → MayMove turns fault
other_move turns (faults.OtherPhase phase) is = tt
other_move turns fault is = absurd is

-- nothing is said of the refusals of some
pub any_err : {T : Type 0} (r : Result T ScrubFault) → IfErr r (λ fault. ⊤)
any_err (Ok t) = tt
any_err (Err fault) = tt

-- ---- what is known of the group

-- nothing is said that changes it
pub self_known : (p : GroupKept) → KnownBy [] p p
self_known p = record { trust = refl; passed = refl }

on_known : (g : ℕ) (unit : ScrubUnit) (fault : ScrubFault) (p : GroupKept) → KnownBy (entries_on g unit fault) p p
on_known g unit (faults.Skipped h other) p = record { trust = refl; passed = refl }
on_known g unit (faults.GaveUp reason) p = record { trust = refl; passed = refl }
on_known g unit fault p = self_known p

told_known : (g : ℕ) (unit : ScrubUnit) (a : Answer) (p : GroupKept) → KnownBy (entries_told g unit a) p p
told_known g unit (answers.Scrub fault) p = on_known g unit fault p
told_known g unit a p = self_known p

same_known : (es : List Entry) (p q : GroupKept) → q ≡ p → KnownBy es p p → KnownBy es p q
same_known es p q is known = subst (KnownBy es p) (sym is) known

-- one for each index that was left
marks_trust : (g : ℕ) (b c r : Option Cause) (t : Trusts) → trust_after (mark_of g Bno b ++ (mark_of g Cnt c ++ mark_of g Rmap r)) t ≡ sick_if Rmap r (sick_if Cnt c (sick_if Bno b t))
marks_trust g None None None t = refl
marks_trust g None None (Some r) t = refl
marks_trust g None (Some c) None t = refl
marks_trust g None (Some c) (Some r) t = refl
marks_trust g (Some b) None None t = refl
marks_trust g (Some b) None (Some r) t = refl
marks_trust g (Some b) (Some c) None t = refl
marks_trust g (Some b) (Some c) (Some r) t = refl

marks_passed : (g : ℕ) (b c r : Option Cause) (p : Passed) → passed_after (mark_of g Bno b ++ (mark_of g Cnt c ++ mark_of g Rmap r)) p ≡ p
marks_passed g None None None p = refl
marks_passed g None None (Some r) p = refl
marks_passed g None (Some c) None p = refl
marks_passed g None (Some c) (Some r) p = refl
marks_passed g (Some b) None None p = refl
marks_passed g (Some b) None (Some r) p = refl
marks_passed g (Some b) (Some c) None p = refl
marks_passed g (Some b) (Some c) (Some r) p = refl

marks_known : (g : ℕ) (left : IndexesLeft) (p q : GroupKept) → q.trust ≡ sick_by left p.trust → q.passed ≡ p.passed → KnownBy (marks_of g left) p q
marks_known g left p q trust passed = record {
  trust = trust ∙ sym (marks_trust g left.bno left.cnt left.rmap p.trust);
  passed = passed ∙ sym (marks_passed g left.bno left.cnt left.rmap p.passed);
}

trust_known : (g : ℕ) (unit : ScrubUnit) (fault : ScrubFault) (p q : GroupKept) → q.trust ≡ p.trust → q.passed ≡ p.passed → KnownBy (entries_on g unit fault) p q
trust_known g unit fault p q trust passed = record { trust = trust ∙ (on_known g unit fault p).trust; passed = passed ∙ (on_known g unit fault p).passed }

same_back : (p q : GroupKept) → q ≡ p → record q { passed = p.passed } ≡ p
same_back p q is = ap (λ (k : GroupKept). record k { passed = p.passed }) is

module _ {D : Type 0} where
  same_more : (old new : Desk D) (xs ys : List Entry) → HasMore old new xs → HasMore old new ys → xs ≡ ys
  same_more old new xs ys at is = append_cancel_left old.book.journal.items xs ys (sym at ∙ is)

  -- the entries that came are those
  pub knows_by : (old new : Desk D) (xs : List Entry) (p q : GroupKept) → HasMore old new xs → KnownBy xs p q → Knows old new p q
  knows_by old new xs p q more known es is = subst (λ (ys : List Entry). KnownBy ys p q) (same_more old new xs es more is) known

  none_more : (old new : Desk D) → NoneSaid old new → HasMore old new []
  none_more old new is = is ∙ sym (append-nil old.book.journal.items)

  pub same_none : (old new : Desk D) → new ≡ old → HasMore old new []
  same_none old new same = none_more old new (ap (λ (k : Desk D). k.book.journal.items) same)

  pub other_more : (old new : Desk D) (g : ℕ) (unit : ScrubUnit) (fault : ScrubFault) → new ≡ old → IsOtherPhase fault → HasMore old new (entries_on g unit fault)
  other_more old new g unit (faults.OtherPhase phase) same is = same_none old new same
  other_more old new g unit fault same is = absurd is

  pub told_knows : (old new : Desk D) (g : ℕ) (unit : ScrubUnit) (a : Answer) (p q : GroupKept) → HasMore old new (entries_told g unit a) → q ≡ p → Knows old new p q
  told_knows old new g unit a p q more same = knows_by old new (entries_told g unit a) p q more (same_known (entries_told g unit a) p q same (told_known g unit a p))

  pub none_knows : (old new : Desk D) (p q : GroupKept) → NoneSaid old new → q ≡ p → Knows old new p q
  none_knows old new p q none same = knows_by old new [] p q (none_more old new none) (same_known [] p q same (self_known p))

  pub compare_knows : (old new : Desk D) (p q : GroupKept) (r : Result Bool ScrubFault) → OnOk r (Knows old new p q) → OnErr r (q ≡ p) → OnErr r (NoneSaid old new) → Knows old new p q
  compare_knows old new p q (Ok b) known same none = known
  compare_knows old new p q (Err fault) known same none = none_knows old new p q none same

  -- ---- of a piece of the reserving

  takes_knows : (g : ℕ) (unit : ScrubUnit) (block : ℕ) (spare : Bool) (r s : Rebuild) (p q : GroupKept) (old new : Desk D) → Takes g unit block spare r s p q old new → q.passed ≡ p.passed → Knows old new p q
  takes_knows g unit block spare r s p q old new takes passed = knows_by old new _ p q takes.entries (record { trust = (marks_known g takes.left p q takes.trust passed).trust; passed = (marks_known g takes.left p q takes.trust passed).passed })

  does_knows : (g : ℕ) (unit : ScrubUnit) (next : Next) (answer : Bool) (r s : Rebuild) (p q : GroupKept) (old new : Desk D) → Does g unit next answer r s p q old new → q.passed ≡ p.passed → Knows old new p q
  does_knows g unit nexts.Met answer r s p q old new does passed = knows_by old new [] p q does.1 (record { trust = does.2; passed = passed })
  does_knows g unit (nexts.GaveUp reason) answer r s p q old new does passed = absurd does
  does_knows g unit (nexts.Listed block) answer r s p q old new does passed = takes_knows g unit block false r s p q old new does passed
  does_knows g unit (nexts.Spare block) answer r s p q old new (inl takes) passed = takes_knows g unit block true r s p q old new takes passed
  does_knows g unit (nexts.Spare block) answer r s p q old new (inr leaves) passed = knows_by old new _ p q leaves.unnoted.entries (record { trust = leaves.unnoted.trust; passed = passed })

  pub reserve_knows : (g : ℕ) (unit : ScrubUnit) (was w : Work) (p q : GroupKept) (old new : Desk D) (r : Result Bool ScrubFault) → SaysReserving g unit was w p q old new r → OnErr r (q.trust ≡ p.trust) → q.passed ≡ p.passed → Knows old new p q
  reserve_knows g unit was w p q old new (Ok answer) (r, begun, reserves) trust passed = does_knows g unit reserves.next answer r reserves.built p q old new reserves.does passed
  reserve_knows g unit was w p q old new (Err fault) says trust passed = knows_by old new (entries_on g unit fault) p q says.1 (trust_known g unit fault p q trust passed)

  -- ---- of a switch

  switched_by : (work : Work) (u : UnitState) (p q : GroupKept) (old new : Desk D) → HasSwitchedBy work u old.book new.book p q → Knows old new p q
  switched_by (works.Staged rebuild staged) u p q old new has = knows_by old new _ p q has.1 (record { trust = has.0.trust; passed = has.0.passed })
  switched_by (works.Scanning s) u p q old new has = absurd has
  switched_by (works.Open o) u p q old new has = absurd has
  switched_by (works.Closed o) u p q old new has = absurd has
  switched_by (works.Gathering x) u p q old new has = absurd has
  switched_by (works.Gathered j) u p q old new has = absurd has
  switched_by (works.Chosen j) u p q old new has = absurd has
  switched_by (works.Building r) u p q old new has = absurd has
  switched_by (works.Reserved r s) u p q old new has = absurd has
  switched_by (works.Spent r) u p q old new has = absurd has
  switched_by works.Judged u p q old new has = absurd has

  pub switch_knows : {T : Type 0} (u : UnitState) (p q : GroupKept) (old new : Desk D) (r : Result T ScrubFault) → OnOk r (HasSwitched u old.book new.book p q) → OnErr r (q ≡ p) → OnErr r (NoneSaid old new) → Knows old new p q
  switch_knows u p q old new (Ok t) has same none = switched_by u.work u p q old new has
  switch_knows u p q old new (Err fault) has same none = none_knows old new p q none same

  -- ---- of a reaping

  run_knows : (g : ℕ) (run : LimboRun) (answer : Bool) (p q : GroupKept) (old new : Desk D) → SaysRun g run p q old new (Ok answer) → q.passed ≡ p.passed → Knows old new p q
  run_knows g run answer p q old new (inl reaps) passed = knows_by old new _ p q reaps.entries (record { trust = (marks_known g reaps.left p q reaps.trust passed).trust; passed = (marks_known g reaps.left p q reaps.trust passed).passed })
  run_knows g run answer p q old new (inr marks) passed = knows_by old new _ p q marks.entries (record { trust = marks.trust; passed = passed })

  reap_ok : (g : ℕ) (answer : Bool) (p q : GroupKept) (old new : Desk D) → SaysReaping g p q old new (Ok answer) → q.passed ≡ p.passed → Knows old new p q
  reap_ok g answer p q old new (inl none) passed = knows_by old new [] p q none.entries (same_known [] p q none.kept (self_known p))
  reap_ok g answer p q old new (inr says) passed = run_knows g says.0 answer p q old new says.1.1 passed

  reap_told : (g : ℕ) (p q : GroupKept) (old new : Desk D) (r : Result Bool ScrubFault) → SaysReaping g p q old new r → q.passed ≡ p.passed → KnowsDone old new p q (told_piece r)
  reap_told g p q old new (Ok answer) says passed = reap_ok g answer p q old new says passed
  reap_told g p q old new (Err fault) says passed = tt

  pub reap_knows : (g : ℕ) (p q : GroupKept) (old new : Desk D) (r : Result Bool ScrubFault) (a : Answer) → a ≡ told_piece r → SaysReaping g p q old new r → q.passed ≡ p.passed → KnowsDone old new p q a
  reap_knows g p q old new r a is says passed = subst (λ (b : Answer). KnowsDone old new p q b) (sym is) (reap_told g p q old new r says passed)

  -- what passed is put back, which is no part of what a reaping says
  run_back : (g : ℕ) (run : LimboRun) (answer : Bool) (x : Passed) (p q : GroupKept) (old new : Desk D) → SaysRun g run p q old new (Ok answer) → SaysRun g run p (record q { passed = x }) old new (Ok answer)
  run_back g run answer x p q old new (inl reaps) = inl (record { left = reaps.left; entries = reaps.entries; trust = reaps.trust })
  run_back g run answer x p q old new (inr marks) = inr (record { cause = marks.cause; entries = marks.entries; trust = marks.trust; limbo = marks.limbo; told = marks.told })

  pub reap_back : (g : ℕ) (p q : GroupKept) (old new : Desk D) (r : Result Bool ScrubFault) → SaysReaping g p q old new r → SaysReaping g p (record q { passed = p.passed }) old new r
  reap_back g p q old new (Ok answer) (inl none) = inl (record { idle = none.idle; told = none.told; entries = none.entries; kept = same_back p q none.kept })
  reap_back g p q old new (Ok answer) (inr says) = inr (says.0, (says.1.0, run_back g says.0 answer p.passed p q old new says.1.1))
  reap_back g p q old new (Err fault) says = says

  -- ---- among events

  pub moves_in : (e f : Event) (u v : UnitState) (p q : GroupKept) (old new : Desk D) (a : Answer) → e ≡ f → MovesIn f u v p q old new a → MovesIn e u v p q old new a
  moves_in e f u v p q old new a is moves = subst (λ (x : Event). MovesIn x u v p q old new a) (sym is) moves

  -- ---- a unit that is opened

  starts_told : {T : Type 0} (g : ℕ) (unit : ScrubUnit) (plan : Plan) (turns : ℕ) (old new : Parts D) (r : Result T ScrubFault)
      → OnOk r (lacks old.groups.items old.desk.store.geo.agcount g unit ≡ None) → OnOk r (IsOpened g unit plan turns old.units.items new.units.items) → OnOk r (Clears g unit old.groups.items new.groups.items)
      → IfErr r (MayBar (lacks old.groups.items old.desk.store.geo.agcount g unit)) → OnErr r (IsSetAside old new) → IsUnopened g unit old new (told_done r) ⊎ IsStarted g unit plan turns old new (told_done r)
  starts_told g unit plan turns old new (Ok t) ready opened cleared bars aside = inr (record { told = refl; ready = ready; opened = opened; cleared = cleared })
  starts_told g unit plan turns old new (Err fault) ready opened cleared bars aside = inl (record { fault = fault; told = refl; why = inr bars; aside = aside })

  pub starts_from : {T : Type 0} (g : ℕ) (unit : ScrubUnit) (plan : Plan) (turns : ℕ) (old new : Parts D) (r : Result T ScrubFault) (a : Answer) → a ≡ told_done r → HasMore old.desk new.desk (entries_of g unit r)
      → OnOk r (lacks old.groups.items old.desk.store.geo.agcount g unit ≡ None) → OnOk r (IsOpened g unit plan turns old.units.items new.units.items) → OnOk r (Clears g unit old.groups.items new.groups.items)
      → IfErr r (MayBar (lacks old.groups.items old.desk.store.geo.agcount g unit)) → OnErr r (IsSetAside old new) → SaysStarting g unit plan turns old new a
  starts_from g unit plan turns old new r a is more ready opened cleared bars aside = record {
    entries = done_says old.desk new.desk g unit r a is more;
    comes = subst (λ (b : Answer). IsUnopened g unit old new b ⊎ IsStarted g unit plan turns old new b) (sym is) (starts_told g unit plan turns old new r ready opened cleared bars aside);
  }
