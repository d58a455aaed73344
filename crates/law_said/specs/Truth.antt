-- What a verdict means: one that is said to be good is true, as the laws of repairs ask it, and a unit that stands is
-- trusted (Online Fsck Design, "Metadata Scrubbing").
use Rattle.std.specs.Prelude.{◌≡◌, ℕ, true, List, ◌++◌, reverse}
use Rattle.fs_change.specs.Marks.{Due}
use Rattle.fs_state.specs.Records.{kinds_of}
use Rattle.fs_state.specs.Laws.{DoRise, EachTree}
use Rattle.fs_state.specs.Session.{stands}
use Rattle.fs_state.specs.declared.plan.Plan.{Plan}
use Rattle.fs_model.specs.declared.entry.Entry.{Entry}
use Rattle.fs_model.specs.declared.entry.Entry.TheVariants as entries
use Rattle.fs_model.specs.declared.unit.Unit.{Unit as ScrubUnit}
use Rattle.fs_model.specs.declared.verdict.Verdict.{Verdict}
use Rattle.fs_said.specs.Said.{IsSaid, LeadsTruly, SaysOn, Told}
use Rattle.fs_state.specs.Kinds.{Image}
use Rattle.fs_state.specs.Read.{state_of}
use Rattle.fs_state.specs.State.{Kept, State}
use Rattle.geom.specs.Apart.{HasFitting}
use Rattle.geom.specs.Layout.{Layout}
use Rattle.law_repairs.specs.Move.Order.{IsInOrder}
use Rattle.law_repairs.specs.Order.Kept.{LogLiesInside}
use Rattle.law_repairs.specs.Order.Repairs.{IsKeptWell}
use Rattle.law_repairs.specs.Repair.Kept.{IsTrue}
use Rattle.law_repairs.specs.Repair.Letters.{IsTrusted}

-- ---- verdicts

-- a verdict that is said is true, where the records of the unit's trees, and those that should be there, rise
abbrev pub SaidIsTrue : Type 0
SaidIsTrue = (plan : Plan) (a : State) (t : Told) (g : ℕ) (unit : ScrubUnit) (verdict : Verdict)
    → EachTree (DoRise a g) (kinds_of unit) → IsSaid plan a t (entries.Verdict g unit verdict) → IsTrue a g unit verdict

-- they do in a group of an image that is in order
abbrev pub ImagesRise : Type 0
ImagesRise = (at : Layout) (image : Image) (kept : Kept) (g : ℕ) (unit : ScrubUnit) → HasFitting at
    → IsInOrder (state_of at image kept) g → EachTree (DoRise (state_of at image kept) g) (kinds_of unit)

-- so a verdict of such a group is true
abbrev pub SaidOfImages : Type 0
SaidOfImages = (plan : Plan) (at : Layout) (image : Image) (kept : Kept) (t : Told) (g : ℕ) (unit : ScrubUnit)
    → (verdict : Verdict) → HasFitting at → LogLiesInside at → IsKeptWell at image kept g
    → IsSaid plan (state_of at image kept) t (entries.Verdict g unit verdict) → IsTrue (state_of at image kept) g unit verdict

-- ---- trust

-- what was told is the journal, its last entry first, and before it what was told before
abbrev pub PastIsJournal : Type 0
PastIsJournal = (plan : Plan) (ds : List Due) (t u : Told) (a b : State) (es : List Entry)
    → SaysOn plan ds t a es u b → u.past ≡ reverse es ++ t.past

-- a unit that stands at the end is trusted
abbrev pub StandingIsTrusted : Type 0
StandingIsTrusted = (plan : Plan) (a b : State) (es : List Entry) (g : ℕ) (unit : ScrubUnit)
    → LeadsTruly plan a es b → stands g unit (reverse es) ≡ true → IsTrusted b g unit
