-- One unit, and both of free space and reference counts, as they are checked or skipped.
use Rattle.std.proofs.Common.{◌≡◌, ℕ, ◌<◌, Bool, false, List, [], ◌∷◌, ◌++◌, length, Option, Some, None, Result, Ok, Err, OnOk, subst}
use Rattle.fs_state.specs.Session.{Place}
use Rattle.fs_model.specs.declared.entry.Entry.{Entry}
use Rattle.fs_model.specs.declared.unit.Unit.{Unit as ScrubUnit}
use Rattle.fs_model.specs.declared.unit.Unit.TheVariants as units
use Rattle.fs_state.specs.State.{State}
use Rattle.quiet_check.specs.Judged.{IsJudged}
use Rattle.quiet_check.specs.declared.judge.Judged.{Judged}
use Rattle.space_check.specs.Events.{most_entries}
use Rattle.space_check.specs.Progress.{Adds, Begins, IsOutside}
use Rattle.space_check.specs.declared.halt.Halt.{Halt}
use Rattle.check_phases.specs.Checks.{ChecksSpace, ChecksUnit}
use Rattle.check_phases.specs.Entries.{passes_after, passes_as}
use Rattle.quiet_check.specs.Entries.{entries_after, entries_of}
use Rattle.check_phases.specs.Phases.{unit_event}
use Rattle.check_phases.specs.declared.tally.Tally.{Tally}
use Rattle.check_phases.proofs.CheckLemmas.{cut_checks, full_checks, stops_before, then_checks, unit_checks}
use Rattle.check_phases.proofs.JudgedLemmas.{passes_said}
use Rattle.quiet_check.proofs.EntryLemmas.{entries_said}

module _ {T : Type 0} (a : State) (g : ℕ) (unit : ScrubUnit) (before after : Tally) (result : Result T Halt) where
  -- what was found was added
  pub unit_added : (j : Judged) → IsJudged a g unit j → length before.journal.entries.items < most_entries → Adds before.journal.entries.items (entries_of g unit j) after.journal.entries.items result → OnOk result (after.passed.items ≡ before.passed.items ++ passes_as j ∷ []) → ChecksUnit a None g unit before after result
  unit_added j is room added passed =
      unit_checks (entries_after a g unit None) (passes_after a g unit None) before after result room
      (subst (λ (es : List Entry). Adds before.journal.entries.items es after.journal.entries.items result) (entries_said a g unit j is) added)
      (subst (λ (p : Bool). OnOk result (after.passed.items ≡ before.passed.items ++ p ∷ [])) (passes_said a g unit j is) passed)

  pub unit_skipped : (lack : Place) → length before.journal.entries.items < most_entries → Adds before.journal.entries.items (entries_after a g unit (Some lack)) after.journal.entries.items result → OnOk result (after.passed.items ≡ before.passed.items ++ false ∷ []) → ChecksUnit a (Some lack) g unit before after result
  unit_skipped lack room added passed = unit_checks (entries_after a g unit (Some lack)) false before after result room added passed

module _ (a : State) (lack : Option Place) (g : ℕ) where
  pub unit_full : (S T : Type 0) (unit : ScrubUnit) (t : Tally) (halt : Halt) → Begins {T = S} t.journal.entries.items (Err halt) → ChecksUnit {T = T} a lack g unit t t (Err halt)
  unit_full S T unit t halt full = full_checks (S) (T) (unit_event a g lack unit) [] (passes_after a g unit lack ∷ []) t halt full

  pub unit_cut : (T : Type 0) (unit : ScrubUnit) (t : Tally) (halt : Halt) → length t.journal.entries.items < most_entries → IsOutside halt → ChecksUnit {T = T} a lack g unit t t (Err halt)
  unit_cut T unit t halt room out = cut_checks (T) (entries_after a g unit lack) [] (passes_after a g unit lack ∷ []) t halt room out

  pub both_full : (S T : Type 0) (t : Tally) (halt : Halt) → Begins {T = S} t.journal.entries.items (Err halt) → ChecksSpace {T = T} a lack g t t (Err halt)
  both_full S T t halt full = full_checks (S) (T) (unit_event a g lack units.Free) (unit_event a g lack units.Refc ∷ []) (passes_after a g units.Free lack ∷ passes_after a g units.Refc lack ∷ []) t halt full

  pub both_cut : (T : Type 0) (t : Tally) (halt : Halt) → length t.journal.entries.items < most_entries → IsOutside halt → ChecksSpace {T = T} a lack g t t (Err halt)
  both_cut T t halt room out = cut_checks (T) (entries_after a g units.Free lack) (unit_event a g lack units.Refc ∷ []) (passes_after a g units.Free lack ∷ passes_after a g units.Refc lack ∷ []) t halt room out

  pub first_stops : (S T : Type 0) (before after : Tally) (halt : Halt) → ChecksUnit {T = S} a lack g units.Free before after (Err halt) → ChecksSpace {T = T} a lack g before after (Err halt)
  first_stops S T before after halt h = stops_before (S) (T) (unit_event a g lack units.Free ∷ []) (unit_event a g lack units.Refc ∷ []) (passes_after a g units.Free lack ∷ []) (passes_after a g units.Free lack ∷ passes_after a g units.Refc lack ∷ []) before after halt h

  pub second_checks : (S T : Type 0) (before now after : Tally) (done : S) (result : Result T Halt) → ChecksUnit {T = S} a lack g units.Free before now (Ok done) → ChecksUnit a lack g units.Refc now after result → ChecksSpace a lack g before after result
  second_checks S T before now after done result first second = then_checks {S = S} {T = T} (unit_event a g lack units.Free ∷ []) (unit_event a g lack units.Refc ∷ []) (passes_after a g units.Free lack ∷ []) (passes_after a g units.Refc lack ∷ []) before now after done result first second
