-- What an entry of a session says is so: how far the work on each unit is, and what its next entry may say (Online Fsck
-- Design, "Metadata Scrubbing", "Cross-Referencing Space Metadata", "Reserving New B+Tree Blocks").
use Rattle.std.specs.Prelude.{◌≡◌, ◌⊎◌, ℕ, ◌+◌, ◌<◌, ◌||◌, Bool, true, false, List, [], ◌∷◌, drop, length, Option, Some, None, is_none, if◌then◌else◌}
use Rattle.dinode_core.specs.declared.mapping.ForkFault.TheVariants.{Order}
use Rattle.fs_model.specs.declared.claim.Evidence.{Evidence}
use Rattle.fs_model.specs.declared.claim.Evidence.TheVariants.{BadFork}
use Rattle.fs_model.specs.declared.entry.Entry.{Entry}
use Rattle.fs_model.specs.declared.entry.Entry.TheVariants as entries
use Rattle.fs_model.specs.declared.fault.Fault.{Fault}
use Rattle.fs_model.specs.declared.unit.Unit.{Unit as ScrubUnit}
use Rattle.fs_model.specs.declared.verdict.Reason.{Reason}
use Rattle.fs_model.specs.declared.verdict.Reason.TheVariants.{Space, Contradiction, TurnLimit}
use Rattle.fs_model.specs.declared.verdict.Verdict.{Verdict}
use Rattle.fs_model.specs.declared.verdict.Verdict.TheVariants.{Good, Faulty, Rebuilt, Skipped, GaveUp}
use Rattle.sblock.specs.declared.kind.Kind.{Kind}
use Rattle.fs_state.specs.State.{State}
use Rattle.fs_state.specs.Contradiction.{evidence}
use Rattle.fs_state.specs.Faults.{faults}
use Rattle.fs_state.specs.Session.{is_at, first_unready}
use Rattle.fs_state.specs.declared.plan.Plan.{Plan}
use Rattle.fs_state.specs.declared.plan.Plan.TheVariants.{Check, Repair, Rebuild}
use Rattle.fs_change.specs.Choice.{spare_block}
use Rattle.fs_change.specs.Marks.{Due, IsDue, dues, MayStandAlone}
use Rattle.fs_change.specs.Step.{Step}
use Rattle.fs_change.specs.Switch.{is_reserve_of, need}

-- ---- how far the work on a unit is

-- Nothing was entered of it since its last verdict. Or it was begun: so many of its faults were said, and these are left to
-- be said, of all that it had in the state before its first entry.
pub data Stage : Type 0 where
  Unbegun : Stage
  Begun : (count : ℕ) → (left : List Fault) → Stage

abbrev pub count_said : Stage → ℕ
count_said Unbegun = 0
count_said (Begun count left) = count

-- a unit that isn't begun has all its faults to say
abbrev pub left_to_say : State → ℕ → ScrubUnit → Stage → List Fault
left_to_say a g unit Unbegun = faults a g unit
left_to_say a g unit (Begun count left) = left

-- a session that goes on: its entries, the last of them first, and how far each unit is
pub record Told : Type 0 where
  pub past : List Entry
  pub stage : ℕ → ScrubUnit → Stage

abbrev pub nothing_told : Told
nothing_told = record { past = []; stage = λ g unit. Unbegun }

-- what an entry of this unit makes of its stage; a released reserve lets it go without a verdict
abbrev pub stage_after : State → ℕ → ScrubUnit → Entry → Stage → Stage
stage_after a g unit (entries.Fault h u fault) s = Begun (1 + count_said s) (drop 1 (left_to_say a g unit s))
stage_after a g unit (entries.Reserved h u b spare) s = Begun (count_said s) (left_to_say a g unit s)
stage_after a g unit (entries.Switched h u root second) s = Begun (count_said s) (left_to_say a g unit s)
stage_after a g unit (entries.Verdict h u verdict) s = Unbegun
stage_after a g unit (entries.Released h u) s = Unbegun
stage_after a g unit e s = s

abbrev pub is_about : ℕ → ScrubUnit → Entry → Bool
is_about h u (entries.Fault g unit fault) = is_at h u g unit
is_about h u (entries.Reserved g unit b spare) = is_at h u g unit
is_about h u (entries.Switched g unit root second) = is_at h u g unit
is_about h u (entries.Verdict g unit verdict) = is_at h u g unit
is_about h u (entries.Released g unit) = is_at h u g unit
is_about h u e = false

abbrev pub told_after : State → Entry → Told → Told
told_after a e t = record { past = e ∷ t.past; stage = λ g unit. if is_about g unit e then stage_after a g unit e (t.stage g unit) else t.stage g unit }

-- ---- when a unit may be judged

-- Did the units that this one needs stand at a moment since the last verdict of the session, where it was started? Of a
-- journal whose last entry comes first.
unfoldable pub was_ready : ℕ → ℕ → ScrubUnit → List Entry → Bool
was_ready n g unit [] = is_none (first_unready n [] g unit)
was_ready n g unit (entries.Verdict h u verdict ∷ es) = is_none (first_unready n (entries.Verdict h u verdict ∷ es) g unit)
was_ready n g unit (e ∷ es) = is_none (first_unready n (e ∷ es) g unit) || was_ready n g unit es

-- it was started, and no entry of it stands since
pub record IsStarted (a : State) (past : List Entry) (g : ℕ) (unit : ScrubUnit) (s : Stage) : Type 0 where
  pub ready : was_ready a.geometry.agcount g unit past ≡ true
  pub unbegun : s ≡ Unbegun

-- A unit is judged where it was ready, and nothing contradicts what it is derived from. Both are asked at its first entry.
abbrev pub MayBegin : State → List Entry → ℕ → ScrubUnit → Stage → Type 0
MayBegin a past g unit Unbegun = (was_ready a.geometry.agcount g unit past ≡ true) × (evidence a g unit ≡ None)
MayBegin a past g unit (Begun count left) = Unit {0}

-- it is judged, and all its faults were said
pub record IsJudged (a : State) (past : List Entry) (g : ℕ) (unit : ScrubUnit) (s : Stage) : Type 0 where
  pub begins : MayBegin a past g unit s
  pub all_said : left_to_say a g unit s ≡ []

-- a unit is rebuilt where faults of it were said, or where all units are
abbrev pub HasCause : Plan → ℕ → Type 0
HasCause Check count = ⊥
HasCause Repair count = 0 < count
HasCause Rebuild count = Unit {0}

pub record IsRebuilt (plan : Plan) (a : State) (past : List Entry) (g : ℕ) (unit : ScrubUnit) (s : Stage) : Type 0 where
  pub judged : IsJudged a past g unit s
  pub cause : HasCause plan (count_said s)

-- ---- why a unit is given up

-- the evidence that is shown, but of a fork that is read in pieces: one that is cut too early is out of order
abbrev pub IsShown : Evidence → Evidence → Type 0
IsShown (BadFork ino fault) shown = (shown ≡ BadFork ino fault) ⊎ (shown ≡ BadFork ino Order)
IsShown e shown = shown ≡ e

-- the reserve has fewer blocks than are needed, and no block is left to take
pub record IsShort (a : State) (g : ℕ) (unit : ScrubUnit) (reserve needed : ℕ) : Type 0 where
  pub own : is_reserve_of unit (a.group g) ≡ true
  pub have : reserve ≡ length (a.group g).reserve
  pub need_is : needed ≡ need a g unit
  pub less : reserve < needed
  pub listed : (a.group g).free_list ≡ []
  pub spare : spare_block a g unit ≡ None

-- which turns were lost no state tells; how many they were is what the session allows
abbrev pub IsGivenUp : Plan → State → List Entry → ℕ → ScrubUnit → Stage → Reason → Type 0
IsGivenUp plan a past g unit s (Space reserve needed) = IsRebuilt plan a past g unit s × IsShort a g unit reserve needed
IsGivenUp plan a past g unit s (Contradiction shown) = IsStarted a past g unit s × (e : Evidence) × (evidence a g unit ≡ Some e) × IsShown e shown
IsGivenUp plan a past g unit s (TurnLimit n) = IsStarted a past g unit s

-- ---- what an entry says

-- What does a verdict say? A good unit has no fault, and nothing was entered of it; of a faulty one all faults were said, so
-- many. Of a rebuilt one all stands in its switch. Which unit one was skipped for is told by the verdicts alone.
abbrev pub IsTold : Plan → State → List Entry → ℕ → ScrubUnit → Stage → Verdict → Type 0
IsTold plan a past g unit s Good = IsStarted a past g unit s × (evidence a g unit ≡ None) × (faults a g unit ≡ [])
IsTold plan a past g unit s (Faulty n) = IsJudged a past g unit s × (count_said s ≡ n) × (0 < n)
IsTold plan a past g unit s Rebuilt = Unit {0}
IsTold plan a past g unit s (Skipped h u) = s ≡ Unbegun
IsTold plan a past g unit s (GaveUp reason) = IsGivenUp plan a past g unit s reason

-- a switch and its verdict stand together: neither without the other
abbrev pub StandsBehind : List Entry → Entry → Type 0
StandsBehind (entries.Switched g unit root second ∷ past) (entries.Verdict h u Rebuilt) = is_at g unit h u ≡ true
StandsBehind (entries.Switched g unit root second ∷ past) e = ⊥
StandsBehind past (entries.Verdict h u Rebuilt) = ⊥
StandsBehind past e = Unit {0}

-- a fault is the next one; a block is reserved, and trees are switched, once all were said
abbrev pub SaysSo : Plan → State → Told → Entry → Type 0
SaysSo plan a t (entries.Fault g unit fault) =
    MayBegin a t.past g unit (t.stage g unit) × (rest : List Fault) × (left_to_say a g unit (t.stage g unit) ≡ fault ∷ rest)
SaysSo plan a t (entries.Reserved g unit b spare) = IsRebuilt plan a t.past g unit (t.stage g unit)
SaysSo plan a t (entries.Switched g unit root second) = IsRebuilt plan a t.past g unit (t.stage g unit)
SaysSo plan a t (entries.Verdict g unit verdict) = IsTold plan a t.past g unit (t.stage g unit) verdict
SaysSo plan a t e = Unit {0}

-- Is it so, what an entry says, in the state before it and after what was told?
pub record IsSaid (plan : Plan) (a : State) (t : Told) (e : Entry) : Type 0 where
  pub behind : StandsBehind t.past e
  pub so : SaysSo plan a t e

-- ---- whole journals

-- The entries lead from the first state to the last, as every journal does, and say what is so, from what was told before
-- on. What is told behind them is the second.
abbrev pub SaysOn : Plan → List Due → Told → State → List Entry → Told → State → Type 0
SaysOn plan [] t a [] u b = (u ≡ t) × (b ≡ a)
SaysOn plan (d ∷ ds) t a [] u b = ⊥
SaysOn plan [] t a (e ∷ es) u b =
    IsSaid plan a t e × (left : List Kind) × (next : State) × (s : Step a left e next) × MayStandAlone a e
    × SaysOn plan (dues a left e s.decided next) (told_after a e t) next es u b
SaysOn plan (d ∷ ds) t a (e ∷ es) u b =
    IsSaid plan a t e × IsDue d e × (next : State) × Step a [] e next × SaysOn plan ds (told_after a e t) next es u b

-- Does the journal of a session lead from one state to another, and is what it says so?
abbrev pub LeadsTruly : Plan → State → List Entry → State → Type 0
LeadsTruly plan a es b = (u : Told) × SaysOn plan [] nothing_told a es u b
