-- Which verdicts does a session give, and in which order? (Online Fsck Design, "Metadata Scrubbing": inodes first,
-- then reverse mappings, then what is read off these.)
use Rattle.std.specs.Prelude.{ℕ, Bool, true, false, List, [], ◌∷◌, ◌++◌, map, flat_map, Option, Some, None, ◌==◌, ◌&&◌, ◌||◌, ◌≡◌, if◌then◌else◌}
use Rattle.fs_model.specs.declared.entry.Entry.{Entry}
use Rattle.fs_model.specs.declared.entry.Entry.TheVariants as entries
use Rattle.fs_model.specs.declared.unit.Unit.{Unit as ScrubUnit}
use Rattle.fs_model.specs.declared.unit.Unit.TheVariants as units
use Rattle.fs_model.specs.declared.verdict.Reason.{Reason}
use Rattle.fs_model.specs.declared.verdict.Reason.TheVariants.{Space, Contradiction, TurnLimit}
use Rattle.fs_model.specs.declared.verdict.Verdict.{Verdict}
use Rattle.fs_model.specs.declared.verdict.Verdict.TheVariants.{Good, Faulty, Rebuilt, Skipped, GaveUp}
use Rattle.fs_state.specs.Faults.{kind_of_fault}
use Rattle.fs_state.specs.Records.{unit_of}
use Rattle.fs_state.specs.Lists.{numbers}
use Rattle.fs_state.specs.declared.plan.Plan.{Plan}
use Rattle.fs_state.specs.declared.plan.Plan.TheVariants.{Check, Repair, Rebuild}

-- a unit of a group
abbrev pub Place : Type 0
Place = ℕ × ScrubUnit

abbrev pub is_same_unit : ScrubUnit → ScrubUnit → Bool
is_same_unit units.Inode units.Inode = true
is_same_unit units.Rmap units.Rmap = true
is_same_unit units.Free units.Free = true
is_same_unit units.Refc units.Refc = true
is_same_unit u v = false

abbrev pub is_at : ℕ → ScrubUnit → ℕ → ScrubUnit → Bool
is_at g unit h other = (h == g) && is_same_unit unit other

-- In which order are the units of n groups judged? Inode of every group, Rmap of every group, then Free and Refc
-- group by group.
unfoldable pub unit_order : ℕ → List Place
unit_order n =
    map (λ g. (g, units.Inode)) (numbers 0 n) ++ map (λ g. (g, units.Rmap)) (numbers 0 n)
    ++ flat_map (λ g. (g, units.Free) ∷ (g, units.Refc) ∷ []) (numbers 0 n)

-- Which units of n groups does a unit need? Reverse mappings need the inodes of every group, since any of these may
-- own a block; free space and reference counts need the group's reverse mappings, off which they are read.
unfoldable pub needed : ℕ → ℕ → ScrubUnit → List Place
needed n g units.Inode = []
needed n g units.Rmap = map (λ h. (h, units.Inode)) (numbers 0 n)
needed n g units.Free = (g, units.Rmap) ∷ []
needed n g units.Refc = (g, units.Rmap) ∷ []

-- ---- what a journal says of a unit

abbrev pub is_passed : Verdict → Bool
is_passed Good = true
is_passed Rebuilt = true
is_passed (Faulty n) = false
is_passed (Skipped g unit) = false
is_passed (GaveUp reason) = false

-- of a journal whose last entry comes first: the unit's last verdict is Good or Rebuilt, and no fault or mark of its
-- kinds came since
unfoldable pub stands : ℕ → ScrubUnit → List Entry → Bool
stands g unit [] = false
stands g unit (entries.Verdict h u verdict ∷ es) = if is_at g unit h u then is_passed verdict else stands g unit es
stands g unit (entries.Fault h u fault ∷ es) = if is_at g unit h (unit_of (kind_of_fault fault)) then false else stands g unit es
stands g unit (entries.Marked h kind cause ∷ es) = if is_at g unit h (unit_of kind) then false else stands g unit es
stands g unit (e ∷ es) = stands g unit es

abbrev pub first_fallen : List Entry → List Place → Option Place
first_fallen past [] = None
first_fallen past (p ∷ ps) = if stands p.0 p.1 past then first_fallen past ps else Some p

-- Why can't a unit be judged? The first that it needs and that doesn't stand.
unfoldable pub first_unready : ℕ → List Entry → ℕ → ScrubUnit → Option Place
first_unready n past g unit = first_fallen past (needed n g unit)

-- where the verdicts of a journal stand
unfoldable pub verdict_places : List Entry → List Place
verdict_places [] = []
verdict_places (entries.Verdict g unit verdict ∷ es) = (g, unit) ∷ verdict_places es
verdict_places (e ∷ es) = verdict_places es

-- ---- what a verdict may be

-- faults stay only under Check, and all is rebuilt under Rebuild
abbrev pub MayBeFaulty : Plan → Type 0
MayBeFaulty Check = Unit {0}
MayBeFaulty Repair = ⊥
MayBeFaulty Rebuild = ⊥

abbrev pub MayBeGood : Plan → Type 0
MayBeGood Check = Unit {0}
MayBeGood Repair = Unit {0}
MayBeGood Rebuild = ⊥

abbrev pub FitsReason : ℕ → Reason → Type 0
FitsReason turns (Space reserve need) = Unit {0}
FitsReason turns (Contradiction evidence) = Unit {0}
FitsReason turns (TurnLimit n) = n ≡ turns

module _ (plan : Plan) (turns n : ℕ) where
  -- this verdict of a unit after these entries, the last of them first
  abbrev pub FitsVerdict : List Entry → ℕ → ScrubUnit → Verdict → Type 0
  FitsVerdict past g unit Good = MayBeGood plan
  FitsVerdict past g unit (Faulty k) = MayBeFaulty plan
  FitsVerdict past g unit Rebuilt = Unit {0}
  FitsVerdict past g unit (Skipped h u) = first_unready n past g unit ≡ Some (h, u)
  FitsVerdict past g unit (GaveUp reason) = FitsReason turns reason

  abbrev pub FitsEntry : List Entry → Entry → Type 0
  FitsEntry past (entries.Verdict g unit verdict) = FitsVerdict past g unit verdict
  FitsEntry past e = Unit {0}

  abbrev pub VerdictsFit : List Entry → List Entry → Type 0
  VerdictsFit past [] = Unit {0}
  VerdictsFit past (e ∷ es) = FitsEntry past e × VerdictsFit (e ∷ past) es

-- a session that is cut short ends within its units; one that never began has no verdict
abbrev pub is_cut : ℕ → Bool
is_cut status = (status == 5) || (status == 7) || (status == 8)

abbrev pub is_refused : ℕ → Bool
is_refused status = (status == 2) || (status == 3) || (status == 4)

-- the first Boolean: cut short; the second: never begun
abbrev pub AreOf : Bool → Bool → List Place → List Place → Type 0
AreOf true refused order places = (rest : List Place) × (order ≡ places ++ rest)
AreOf false true order places = places ≡ []
AreOf false false order places = places ≡ order

abbrev pub InOrder : ℕ → List Place → List Place → Type 0
InOrder status order places = AreOf (is_cut status) (is_refused status) order places

-- A session over these units of n groups: one verdict for each, in their order, and each as plan, turns and the
-- verdicts before it allow.
pub record Session (order : List Place) (plan : Plan) (turns n status : ℕ) (journal : List Entry) : Type 0 where
  pub order_kept : InOrder status order (verdict_places journal)
  pub verdicts : VerdictsFit plan turns n [] journal
