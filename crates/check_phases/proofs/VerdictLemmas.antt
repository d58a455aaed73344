-- The entries of a check over a state are a session: one verdict for each unit, in their order, each as those before
-- allow.
use Rattle.std.proofs.Common.{◌≡◌, ℕ, Bool, true, false, List, [], ◌∷◌, ◌++◌, length, map, Option, Some, None, refl, sym, ◌∙◌, ap, subst, append_assoc}
use Rattle.std.specs.Prelude.{◌==◌, if◌then◌else◌}
use Rattle.fs_state.specs.Contradiction.{evidence}
use Rattle.fs_state.specs.Faults.{faults}
use Rattle.fs_state.specs.Session.{AreOf, FitsVerdict, Place, VerdictsFit, first_unready, is_refused, unit_order, verdict_places}
use Rattle.fs_state.specs.declared.plan.Plan.TheVariants.{Check}
use Rattle.fs_model.specs.declared.claim.Evidence.{Evidence}
use Rattle.fs_model.specs.declared.entry.Entry.{Entry}
use Rattle.fs_model.specs.declared.entry.Entry.TheVariants as entries
use Rattle.fs_model.specs.declared.fault.Fault.{Fault}
use Rattle.fs_model.specs.declared.unit.Unit.{Unit as ScrubUnit}
use Rattle.fs_model.specs.declared.verdict.Verdict.TheVariants.{Good, Faulty}
use Rattle.fs_state.specs.State.{State}
use Rattle.quiet_check.specs.Entries.{entries_after, entries_by, judged_entries, unit_entries}
use Rattle.space_check.specs.Events.{entries_of}
use Rattle.space_check.specs.Groups.{unit_entries as fault_entries, verdict_of}
use Rattle.check_phases.proofs.SessionLemmas.{with_both}
use Rattle.check_phases.specs.Session.{CheckIsSession, CutIsSession, check_events, session_events, with_entries}

-- ---- where the verdicts stand

places_of_faults : (g : ℕ) (u : ScrubUnit) (fs : List Fault) (more : List Entry) → verdict_places (map (entries.Fault g u) fs ++ more) ≡ verdict_places more
unfolding verdict_places
places_of_faults g u [] more = refl
places_of_faults g u (f ∷ fs) more = places_of_faults g u fs more

places_by : (g : ℕ) (u : ScrubUnit) (found : Option Evidence) (fs : List Fault) (more : List Entry) → verdict_places (entries_by g u found fs ++ more) ≡ (g, u) ∷ verdict_places more
unfolding verdict_places fault_entries
places_by g u (Some e) fs more = refl
places_by g u None fs more =
    ap verdict_places (append_assoc (map (entries.Fault g u) fs) (entries.Verdict g u (verdict_of (length fs)) ∷ []) more) ∙ places_of_faults g u fs (entries.Verdict g u (verdict_of (length fs)) ∷ more)

places_after : (a : State) (g : ℕ) (u : ScrubUnit) (lack : Option Place) (more : List Entry) → verdict_places (entries_after a g u lack ++ more) ≡ (g, u) ∷ verdict_places more
unfolding verdict_places judged_entries
places_after a g u (Some p) more = refl
places_after a g u None more = places_by g u (evidence a g u) (faults a g u) more

places_said : (a : State) (past : List Entry) (ps : List Place) → verdict_places (entries_of (session_events a past ps)) ≡ ps
unfolding verdict_places unit_entries
places_said a past [] = refl
places_said a past (p ∷ ps) =
    places_after a p.0 p.1 (first_unready a.geometry.agcount past p.0 p.1) (entries_of (session_events a (with_entries past (unit_entries a past p.0 p.1)) ps))
    ∙ ap (λ (qs : List Place). p ∷ qs) (places_said a (with_entries past (unit_entries a past p.0 p.1)) ps)

-- ---- which verdicts there are

module _ (turns n : ℕ) where
  faults_fit : (g : ℕ) (u : ScrubUnit) (past : List Entry) (fs : List Fault) (more : List Entry) → VerdictsFit Check turns n (with_entries past (map (entries.Fault g u) fs)) more → VerdictsFit Check turns n past (map (entries.Fault g u) fs ++ more)
  faults_fit g u past [] more h = h
  faults_fit g u past (f ∷ fs) more h = (tt, faults_fit g u (entries.Fault g u f ∷ past) fs more h)

  told : (past : List Entry) (g : ℕ) (u : ScrubUnit) (k : ℕ) (b : Bool) → FitsVerdict Check turns n past g u (if b then Good else Faulty k)
  told past g u k true = tt
  told past g u k false = tt

  found_fit : (g : ℕ) (u : ScrubUnit) (past : List Entry) (found : Option Evidence) (fs : List Fault) (more : List Entry) → VerdictsFit Check turns n (with_entries past (entries_by g u found fs)) more → VerdictsFit Check turns n past (entries_by g u found fs ++ more)
  unfolding fault_entries
  found_fit g u past (Some e) fs more h = (tt, h)
  found_fit g u past None fs more h =
      let verdict = entries.Verdict g u (verdict_of (length fs)) in
      let before = with_entries past (map (entries.Fault g u) fs) in
      let behind : VerdictsFit Check turns n (verdict ∷ before) more = subst (λ (es : List Entry). VerdictsFit Check turns n es more) (with_both past (map (entries.Fault g u) fs) (verdict ∷ [])) h in
      let tail : VerdictsFit Check turns n before (verdict ∷ more) = (told before g u (length fs) (length fs == 0), behind) in
      subst (λ (es : List Entry). VerdictsFit Check turns n past es) (sym (append_assoc (map (entries.Fault g u) fs) (verdict ∷ []) more)) (faults_fit g u past fs (verdict ∷ more) tail)

  unit_fits : (a : State) (g : ℕ) (u : ScrubUnit) (past : List Entry) (lack : Option Place) (more : List Entry) → first_unready n past g u ≡ lack → VerdictsFit Check turns n (with_entries past (entries_after a g u lack)) more → VerdictsFit Check turns n past (entries_after a g u lack ++ more)
  unfolding judged_entries
  unit_fits a g u past (Some p) more is h = (is, h)
  unit_fits a g u past None more is h = found_fit g u past (evidence a g u) (faults a g u) more h

verdicts_fit : (a : State) (turns : ℕ) (past : List Entry) (ps : List Place) → VerdictsFit Check turns a.geometry.agcount past (entries_of (session_events a past ps))
unfolding unit_entries
verdicts_fit a turns past [] = tt
verdicts_fit a turns past (p ∷ ps) =
    let next = with_entries past (unit_entries a past p.0 p.1) in
    unit_fits turns a.geometry.agcount a p.0 p.1 past (first_unready a.geometry.agcount past p.0 p.1) (entries_of (session_events a next ps)) refl (verdicts_fit a turns next ps)

-- ---- the whole

pub check_is_session : CheckIsSession
unfolding check_events
check_is_session a turns status whole begun = record {
  order_kept = subst (λ (b : Bool). AreOf b (is_refused status) (unit_order a.geometry.agcount) (verdict_places (entries_of (session_events a [] (unit_order a.geometry.agcount))))) (sym whole)
      (subst (λ (b : Bool). AreOf false b (unit_order a.geometry.agcount) (verdict_places (entries_of (session_events a [] (unit_order a.geometry.agcount))))) (sym begun)
      (places_said a [] (unit_order a.geometry.agcount)));
  verdicts = verdicts_fit a turns [] (unit_order a.geometry.agcount);
}

pub cut_is_session : CutIsSession
cut_is_session a turns status ps qs order cut = record {
  order_kept = subst (λ (b : Bool). AreOf b (is_refused status) (unit_order a.geometry.agcount) (verdict_places (entries_of (session_events a [] ps)))) (sym cut)
      (qs, order ∙ ap (λ (xs : List Place). xs ++ qs) (sym (places_said a [] ps)));
  verdicts = verdicts_fit a turns [] ps;
}
