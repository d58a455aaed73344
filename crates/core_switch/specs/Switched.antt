-- What a switch leaves in memory, and says.
use Rattle.std.specs.Prelude.{◌≡◌, ℕ, true, List, [], ◌∷◌, ◌++◌}
use Rattle.block_reap.specs.declared.runs.LimboRun.{LimboRun}
use Rattle.core_parts.specs.Common.Kinds.{with_pass, with_unit}
use Rattle.core_parts.specs.declared.book.Book.{Book}
use Rattle.core_parts.specs.declared.groups.GroupKept.{GroupKept}
use Rattle.core_parts.specs.declared.units.UnitState.{UnitState}
use Rattle.core_parts.specs.declared.units.Work.{Work}
use Rattle.core_parts.specs.declared.units.Work.TheVariants as works
use Rattle.core_units.specs.declared.released.Staged.{Staged}
use Rattle.fs_model.specs.declared.entry.Entry.{Entry}
use Rattle.fs_model.specs.declared.entry.Entry.TheVariants as entries
use Rattle.fs_model.specs.declared.unit.Trust.TheVariants as trusts
use Rattle.fs_model.specs.declared.unit.Unit.{Unit as ScrubUnit}
use Rattle.fs_model.specs.declared.verdict.Verdict.TheVariants as verdicts

-- the unit's btrees are good, it passed, and this waits to be freed
pub record IsRebuilt (unit : ScrubUnit) (limbo : List LimboRun) (old new : GroupKept) : Type 0 where
  pub trust : new.trust ≡ with_unit old.trust unit trusts.Good
  pub passed : new.passed ≡ with_pass old.passed unit true
  pub limbo_is : new.limbo.items ≡ limbo

-- two entries came: that of the switch with the new roots, and the verdict
abbrev pub SaysSwitched : ℕ → ScrubUnit → Staged → (old new : List Entry) → Type 0
SaysSwitched g unit s old new = new ≡ old ++ entries.Switched g unit s.root s.second_root ∷ entries.Verdict g unit verdicts.Rebuilt ∷ []

-- the unit's blocks were staged, and what was ready is done
abbrev pub HasSwitchedBy : Work → UnitState → (was now : Book) → (old new : GroupKept) → Type 0
HasSwitchedBy (works.Staged rebuild staged) u was now old new = IsRebuilt u.unit staged.limbo.items old new × SaysSwitched u.group u.unit staged was.journal.items now.journal.items
HasSwitchedBy work u was now old new = ⊥

abbrev pub HasSwitched : UnitState → (was now : Book) → (old new : GroupKept) → Type 0
HasSwitched u was now old new = HasSwitchedBy u.work u was now old new
