-- What was found of a unit, as entries, is what the state decides.
use Rattle.std.proofs.Common.{◌≡◌, ℕ, List, [], ◌++◌, Option, refl, ap, sym, ◌∙◌}
use Rattle.fs_state.specs.Contradiction.{evidence}
use Rattle.fs_state.specs.Faults.{faults}
use Rattle.fs_state.specs.Session.{first_unready, needed}
use Rattle.fs_model.specs.declared.claim.Evidence.{Evidence}
use Rattle.fs_model.specs.declared.entry.Entry.{Entry}
use Rattle.fs_model.specs.declared.fault.Fault.{Fault}
use Rattle.fs_model.specs.declared.unit.Unit.{Unit as ScrubUnit}
use Rattle.fs_model.specs.declared.unit.Unit.TheVariants as units
use Rattle.fs_state.specs.State.{State}
use Rattle.quiet_check.specs.Entries.{entries_by, entries_of, judged_entries, unit_entries}
use Rattle.space_check.specs.Groups.{unit_entries as fault_entries}
use Rattle.quiet_check.specs.Judged.{Decided, IsJudged}
use Rattle.quiet_check.specs.declared.judge.Judged.{Judged}
use Rattle.quiet_check.specs.declared.judge.Judged.TheVariants as judged

decided_entries : (g : ℕ) (unit : ScrubUnit) (found : Option Evidence) (wanted : List Fault) (j : Judged) → Decided found wanted j → entries_of g unit j ≡ entries_by g unit found wanted
decided_entries g unit found wanted (judged.Faults fs) is = ap (fault_entries g unit) is.1 ∙ ap (λ o. entries_by g unit o wanted) (sym is.0)
decided_entries g unit found wanted (judged.GaveUp e) is = ap (λ o. entries_by g unit o wanted) (sym is)

pub entries_said : (a : State) (g : ℕ) (unit : ScrubUnit) (j : Judged) → IsJudged a g unit j → entries_of g unit j ≡ judged_entries a g unit
unfolding judged_entries
entries_said a g unit j is = decided_entries g unit (evidence a g unit) (faults a g unit) j is

-- the inodes of a group need no other unit
inodes_first : (a : State) (past : List Entry) (g : ℕ) → judged_entries a g units.Inode ≡ unit_entries a past g units.Inode
unfolding unit_entries first_unready needed
inodes_first a past g = refl

-- the journal of one unit, that was empty before it
pub inodes_added : (a : State) (past : List Entry) (g : ℕ) (j : Judged) (before after : List Entry) → before ≡ [] → after ≡ before ++ entries_of g units.Inode j → IsJudged a g units.Inode j → after ≡ unit_entries a past g units.Inode
inodes_added a past g j before after empty added is =
    added ∙ ap (λ (es : List Entry). es ++ entries_of g units.Inode j) empty ∙ entries_said a g units.Inode j is ∙ inodes_first a past g
