-- What entries of a group keep between a journal and what is known of units ("Metadata Scrubbing").
use Rattle.std.specs.Prelude.{◌≡◌, ◌<◌, ℕ, false, List, [], ◌∷◌, Some, length, slice_set}
use Rattle.std.specs.List.{slice_get}
use Rattle.core_parts.specs.Common.Kinds.{with_pass}
use Rattle.core_parts.specs.declared.groups.GroupKept.{GroupKept}
use Rattle.core_parts.specs.Opens.Groups.{IsFresh}
use Rattle.fs_model.specs.declared.entry.Entry.{Entry}
use Rattle.fs_model.specs.declared.entry.Entry.TheVariants as entries
use Rattle.fs_model.specs.declared.unit.Unit.{Unit as ScrubUnit}
use Rattle.fs_state.specs.Session.{first_unready, is_passed, stands}
use Rattle.scrub_order.specs.Laws.{behind}
use Rattle.unit_trust.specs.Trusts.{Agrees, KnownBy, lacks}

-- an entry that tells of trust is of this group
abbrev pub IsOfGroup : ℕ → Entry → Type 0
IsOfGroup g (entries.Fault h unit fault) = h ≡ g
IsOfGroup g (entries.Marked h kind cause) = h ≡ g
IsOfGroup g (entries.Verdict h unit verdict) = h ≡ g
IsOfGroup g e = Unit {0}

abbrev pub AreOfGroup : ℕ → List Entry → Type 0
AreOfGroup g [] = Unit {0}
AreOfGroup g (e ∷ es) = IsOfGroup g e × AreOfGroup g es

-- a verdict with which a unit doesn't pass is of one that didn't stand
abbrev pub IsOfFallen : List Entry → Entry → Type 0
IsOfFallen past (entries.Verdict g unit verdict) = is_passed verdict ≡ false → stands g unit past ≡ false
IsOfFallen past e = Unit {0}

abbrev pub AreOfFallen : List Entry → List Entry → Type 0
AreOfFallen past [] = Unit {0}
AreOfFallen past (e ∷ es) = IsOfFallen past e × AreOfFallen (e ∷ past) es

-- with an empty journal no unit stands
abbrev pub AllFresh : List GroupKept → Type 0
AllFresh ks = (g : ℕ) (kept : GroupKept) → slice_get ks g ≡ Some kept → IsFresh kept

abbrev pub FreshAgree : Type 0
FreshAgree = (ks : List GroupKept) → AllFresh ks → Agrees [] ks

-- entries of one group, which made of it what they say, keep what the journal says
abbrev pub EntriesAgree : Type 0
EntriesAgree = (past es : List Entry) (g : ℕ) (ks : List GroupKept) (old new : GroupKept) → Agrees past ks → AreOfGroup g es → AreOfFallen past es
    → slice_get ks g ≡ Some old → KnownBy es old new → Agrees (behind past es) (slice_set ks g new)

-- and so does a unit that is opened, and hadn't stood
abbrev pub OpeningAgrees : Type 0
OpeningAgrees = (past : List Entry) (g : ℕ) (unit : ScrubUnit) (ks : List GroupKept) (old new : GroupKept) → Agrees past ks → stands g unit past ≡ false
    → slice_get ks g ≡ Some old → new.trust ≡ old.trust → new.passed ≡ with_pass old.passed unit false → Agrees past (slice_set ks g new)

-- then a unit lacks the one that the journal says
abbrev pub LacksAlike : Type 0
LacksAlike = (past : List Entry) (g : ℕ) (unit : ScrubUnit) (ks : List GroupKept) → Agrees past ks → g < length ks → lacks ks (length ks) g unit ≡ first_unready (length ks) past g unit
