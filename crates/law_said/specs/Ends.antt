-- What the end of a repair leaves: no fault of a unit, where all units stand (Online Fsck Design, "Metadata Repair").
use Rattle.std.specs.Prelude.{◌≡◌, ℕ, ◌<◌, true, false, List, [], ◌∷◌, reverse, None}
use Rattle.std.specs.List.{list_all}
use Rattle.fs_change.specs.Forget.{Forget, found_in}
use Rattle.fs_change.specs.Parts.{sick_in}
use Rattle.fs_state.specs.Faults.{faults}
use Rattle.fs_state.specs.Session.{Session, first_fallen, is_passed, unit_order}
use Rattle.fs_state.specs.declared.plan.Plan.{Plan}
use Rattle.fs_state.specs.declared.plan.Plan.TheVariants.{Rebuild}
use Rattle.fs_model.specs.declared.entry.Entry.{Entry}
use Rattle.fs_model.specs.declared.entry.Entry.TheVariants as entries
use Rattle.fs_model.specs.declared.unit.Unit.{Unit as ScrubUnit}
use Rattle.fs_said.specs.Said.{LeadsTruly, nothing_told}
use Rattle.fs_state.specs.Kinds.{Image}
use Rattle.fs_state.specs.Read.{opened}
use Rattle.fs_state.specs.State.{State}
use Rattle.geom.specs.Apart.{HasFitting}
use Rattle.geom.specs.Layout.{Layout}
use Rattle.law_repairs.specs.Memory.Memory.{IsFit}
use Rattle.law_repairs.specs.Order.Kept.{LogLiesInside}
use Rattle.sblock.specs.declared.kind.Kind.{Kind}
use Rattle.law_said.specs.InTime.{AllInTime, is_repair_in}
use Rattle.law_said.specs.Through.{IsOfImage, Passes}

-- ---- how a session ends

-- Does a session end clean? Each unit's last verdict is Good or Rebuilt, and no fault or mark of its kinds came since.
abbrev pub AllStand : ℕ → List Entry → Type 0
AllStand n journal = first_fallen (reverse journal) (unit_order n) ≡ None

-- each verdict is Good or Rebuilt
abbrev pub AllPass : List Entry → Type 0
AllPass [] = Unit {0}
AllPass (entries.Verdict g unit verdict ∷ es) = (is_passed verdict ≡ true) × AllPass es
AllPass (e ∷ es) = AllPass es

-- no tree of n groups is sick
abbrev pub NoneSick : ℕ → State → Type 0
NoneSick n b = (g : ℕ) (k : Kind) → g < n → sick_in (b.group g) k ≡ false

-- so a session ends whose status is 0: each verdict passed, and no tree is sick at the end
abbrev pub PassedStand : Type 0
PassedStand = (plan : Plan) (turns n : ℕ) (a b : State) (es : List Entry) → LeadsTruly plan a es b
    → list_all (is_repair_in n) es ≡ true → AllInTime [] es → Session (unit_order n) plan turns n 0 es → AllPass es
    → NoneSick n b → AllStand n es

-- no block of a group waits to be used or freed
pub record IsEmptied (a : State) : Type 0 where
  pub reserve : (g : ℕ) → g < a.geometry.agcount → (a.group g).reserve ≡ []
  pub limbo : (g : ℕ) → g < a.geometry.agcount → (a.group g).limbo ≡ []

-- ---- what they leave

-- A session that was begun on an image, with no writer beside it, that tells the truth and ends clean leaves nothing that a
-- new session would find of any unit. Where all is rebuilt, whatever its faults, no unit is begun again behind its verdict.
abbrev pub SessionLeavesNoFault : Type 0
SessionLeavesNoFault = (at : Layout) (image : Image) (plan : Plan) (turns : ℕ) (b c : State) (es : List Entry) (g : ℕ)
    → (unit : ScrubUnit) → HasFitting at → LogLiesInside at → IsFit at image (opened at image)
    → (l : LeadsTruly plan (found_in at image) es b)
    → Passes (IsOfImage at) plan [] nothing_told (found_in at image) es l.0 b l.1
    → list_all (is_repair_in at.agcount) es ≡ true → (plan ≡ Rebuild → AllInTime [] es)
    → Session (unit_order at.agcount) plan turns at.agcount 0 es → AllStand at.agcount es → IsEmptied b
    → Forget b c → g < at.agcount → faults c g unit ≡ []
