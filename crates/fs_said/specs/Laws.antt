-- What follows of journals that say what is so: two in a row are one, and the faults that they say are those of one state.
use Rattle.std.specs.Prelude.{◌≡◌, ℕ, List, [], ◌∷◌, ◌++◌, length, if◌then◌else◌}
use Rattle.fs_model.specs.declared.entry.Entry.{Entry}
use Rattle.fs_model.specs.declared.entry.Entry.TheVariants as entries
use Rattle.fs_model.specs.declared.fault.Fault.{Fault}
use Rattle.fs_model.specs.declared.unit.Unit.{Unit as ScrubUnit}
use Rattle.fs_state.specs.State.{State}
use Rattle.fs_state.specs.Faults.{faults}
use Rattle.fs_state.specs.Session.{is_at}
use Rattle.fs_state.specs.declared.plan.Plan.{Plan}
use Rattle.fs_change.specs.Run.{Leads}
use Rattle.fs_said.specs.Said.{Stage, Unbegun, Begun, Told, nothing_told, SaysOn, LeadsTruly}

-- ---- journals in a row

-- what says what is so leads from state to state, as every journal does
abbrev pub TrulyLeads : Type 0
TrulyLeads = (plan : Plan) (a b : State) (es : List Entry) → LeadsTruly plan a es b → Leads a es b

-- two runs of entries are one, the second from what the first told on
abbrev pub SaysCompose : Type 0
SaysCompose = (plan : Plan) (t u v : Told) (a b c : State) (js ks : List Entry)
    → SaysOn plan [] t a js u b → SaysOn plan [] u b ks v c → SaysOn plan [] t a (js ++ ks) v c

-- ---- what was said of a unit

-- the faults that a journal, whose last entry comes first, says of a unit since its last verdict or release, oldest first
unfoldable pub found_since : ℕ → ScrubUnit → List Entry → List Fault
found_since g unit [] = []
found_since g unit (entries.Verdict h u verdict ∷ es) = if is_at g unit h u then [] else found_since g unit es
found_since g unit (entries.Released h u ∷ es) = if is_at g unit h u then [] else found_since g unit es
found_since g unit (entries.Fault h u fault ∷ es) = if is_at g unit h u then found_since g unit es ++ fault ∷ [] else found_since g unit es
found_since g unit (e ∷ es) = found_since g unit es

-- these are counted, and, with those that are left, all faults of one state: that before the unit's first entry since
abbrev pub AreFound : ℕ → ScrubUnit → List Fault → Stage → Type 0
AreFound g unit found Unbegun = found ≡ []
AreFound g unit found (Begun count left) = (count ≡ length found) × (x : State) × (faults x g unit ≡ found ++ left)

abbrev pub FaultsAreFound : Type 0
FaultsAreFound = (plan : Plan) (t : Told) (a b : State) (es : List Entry) (g : ℕ) (unit : ScrubUnit)
    → SaysOn plan [] nothing_told a es t b → AreFound g unit (found_since g unit t.past) (t.stage g unit)
