-- How a piece of a comparison ends, from what it tells.
use Rattle.std.proofs.Common.{◌≡◌, ◌∙◌, ℕ, ◌==◌, refl, sym, ap, subst, inl, inr}
use Rattle.std.proofs.lemmas.List.{append-nil}
use Rattle.std.specs.Prelude.{◌++◌, ◌⊎◌, ◌∷◌, [], Bool, true, false, List, Result, Ok, map, if◌then◌else◌}
use Rattle.core_calls.specs.declared.answers.ScrubFault.{ScrubFault}
use Rattle.core_edit.specs.declared.heads.EditHeads.{EditHeads}
use Rattle.core_parts.specs.Common.Entries.{HasMore}
use Rattle.core_parts.specs.Phases.{phase_in}
use Rattle.core_parts.specs.declared.desk.Desk.{Desk}
use Rattle.core_parts.specs.declared.units.UnitState.{UnitState}
use Rattle.core_parts.specs.declared.units.Work.{Work}
use Rattle.core_units.specs.declared.compare.Place.{Place}
use Rattle.core_units.specs.declared.compare.Place.TheVariants.{First, Second, Counters, End}
use Rattle.core_units.specs.declared.judging.Judging.{Judging}
use Rattle.fs_model.specs.declared.entry.Entry.{Entry}
use Rattle.fs_model.specs.declared.fault.Fault.{Fault}
use Rattle.fs_model.specs.declared.unit.Unit.{Unit as ScrubUnit}
use Rattle.fs_model.specs.declared.verdict.Verdict.TheVariants as verdicts
use Rattle.fs_state.specs.Session.{MayBeFaulty, MayBeGood}
use Rattle.fs_state.specs.declared.plan.Plan.{Plan}
use Rattle.fs_state.specs.declared.plan.Plan.TheVariants as plans
use Rattle.core_check.specs.Ended.{EndsAs, EndsJudged, EndsOpen}
use Rattle.core_check.specs.Ends.{end_of}
use Rattle.core_check.specs.Entries.{TellsPiece, is_end, told_by, which_of, work_by}
use Rattle.core_check.specs.Told.{entry_of}
use Rattle.core_check.specs.declared.tell.Outcome.{Outcome}
use Rattle.core_check.specs.declared.tell.Outcome.TheVariants as outcomes

more_good : outcomes.More ≡ outcomes.Good → ⊥
more_good is = cc

rebuild_good : outcomes.Rebuild ≡ outcomes.Good → ⊥
rebuild_good is = cc

good_faulty : (k : ℕ) → outcomes.Good ≡ outcomes.Faulty k → ⊥
good_faulty k is = cc

more_faulty : (k : ℕ) → outcomes.More ≡ outcomes.Faulty k → ⊥
more_faulty k is = cc

rebuild_faulty : (k : ℕ) → outcomes.Rebuild ≡ outcomes.Faulty k → ⊥
rebuild_faulty k is = cc

good_plan : (plan : Plan) (at : Place) (found : ℕ) → end_of plan at found ≡ outcomes.Good → MayBeGood plan
good_plan plans.Check at found is = tt
good_plan plans.Repair at found is = tt
good_plan plans.Rebuild (First from) found is = absurd (more_good is)
good_plan plans.Rebuild (Second from) found is = absurd (more_good is)
good_plan plans.Rebuild Counters found is = absurd (more_good is)
good_plan plans.Rebuild End found is = absurd (rebuild_good is)

by_found : (b : Bool) (k : ℕ) → (if b then outcomes.Good else outcomes.Rebuild) ≡ outcomes.Faulty k → ⊥
by_found true k is = good_faulty k is
by_found false k is = rebuild_faulty k is

faulty_plan : (plan : Plan) (at : Place) (found k : ℕ) → end_of plan at found ≡ outcomes.Faulty k → MayBeFaulty plan
faulty_plan plans.Check at found k is = tt
faulty_plan plans.Repair (First from) found k is = absurd (more_faulty k is)
faulty_plan plans.Repair (Second from) found k is = absurd (more_faulty k is)
faulty_plan plans.Repair Counters found k is = absurd (more_faulty k is)
faulty_plan plans.Repair End found k is = absurd (by_found (found == 0) k is)
faulty_plan plans.Rebuild (First from) found k is = absurd (more_faulty k is)
faulty_plan plans.Rebuild (Second from) found k is = absurd (more_faulty k is)
faulty_plan plans.Rebuild Counters found k is = absurd (more_faulty k is)
faulty_plan plans.Rebuild End found k is = absurd (rebuild_faulty k is)

abbrev ok : Bool → Result Bool ScrubFault
ok b = Ok b

ok_same : (x y : Bool) → ok x ≡ ok y → x ≡ y
ok_same x y is = cc

module _ {D : Type 0} where
  none_more : (old new : Desk D) (es : List Entry) → HasMore old new (es ++ []) → HasMore old new es
  none_more old new es more = subst (HasMore old new) (append-nil es) more

  by_outcome : (u : UnitState) (old new : Desk D) (w : Work) (b : Bool) (next : Judging) (piece : List Fault) (oc : Outcome) → end_of u.plan next.at next.found ≡ oc → HasMore old new (told_by u.group u.unit piece oc) → w ≡ work_by next oc
      → ok b ≡ ok (is_end oc) → EndsOpen u.group u.unit piece old new w b ⊎ EndsJudged u.group u.unit u.plan piece old new w b
  by_outcome u old new w b next piece outcomes.More ends more work told = inl (record { entries = none_more old new (map (entry_of u.group u.unit) piece) more; going = inl (ok_same b false told) })
  by_outcome u old new w b next piece outcomes.Good ends more work told =
      inr (record { verdict = verdicts.Good; entries = more; told = ok_same b true told; judged = work; fits = good_plan u.plan next.at next.found ends })
  by_outcome u old new w b next piece (outcomes.Faulty k) ends more work told =
      inr (record { verdict = verdicts.Faulty k; entries = more; told = ok_same b true told; judged = work; fits = faulty_plan u.plan next.at next.found k ends })
  by_outcome u old new w b next piece outcomes.Rebuild ends more work told = inl (record { entries = none_more old new (map (entry_of u.group u.unit) piece) more; going = inr (ap phase_in work) })

  pub ends_as : (u : UnitState) (heads : EditHeads) (old new : Desk D) (w : Work) (b : Bool) → TellsPiece (which_of u) heads u.work old new (record { work = w; answer = Ok b }) → EndsAs u.group u.unit u.plan old new w b
  ends_as u heads old new w b tells = (
    tells.tells.piece,
    by_outcome u old new w b tells.tells.next tells.tells.piece (end_of u.plan tells.tells.next.at tells.tells.next.found) refl tells.tells.follows.entries tells.tells.follows.work tells.tells.follows.answer,
  )
