-- What entries make of what is known of a group's units, and which units stand by it ("Metadata Scrubbing").
use Rattle.std.specs.Prelude.{◌≡◌, ℕ, Bool, true, false, List, [], ◌∷◌, Option, Some, None, ◌&&◌, not, if◌then◌else◌}
use Rattle.std.specs.List.{slice_get}
use Rattle.core_parts.specs.Common.Kinds.{has_passed, is_unit_sick, with_pass, with_trust, with_unit}
use Rattle.core_parts.specs.declared.groups.GroupKept.{GroupKept}
use Rattle.core_parts.specs.declared.groups.Passed.{Passed}
use Rattle.core_parts.specs.declared.groups.Trusts.{Trusts}
use Rattle.fs_model.specs.declared.entry.Entry.{Entry}
use Rattle.fs_model.specs.declared.entry.Entry.TheVariants as entries
use Rattle.fs_model.specs.declared.unit.Trust.TheVariants.{Good, Sick}
use Rattle.fs_model.specs.declared.unit.Unit.{Unit as ScrubUnit}
use Rattle.fs_state.specs.Faults.{kind_of_fault}
use Rattle.fs_state.specs.Session.{Place, is_passed, needed, stands}

-- ---- which units stand

-- the unit had a verdict good or rebuilt since it was opened, and none of its btrees is sick
abbrev pub is_stood : GroupKept → ScrubUnit → Bool
is_stood kept unit = has_passed kept.passed unit && not (is_unit_sick kept.trust unit)

abbrev pub stands_in : Option GroupKept → ScrubUnit → Bool
stands_in None unit = false
stands_in (Some kept) unit = is_stood kept unit

-- the first of these units that doesn't stand
abbrev pub first_lacking : List GroupKept → List Place → Option Place
first_lacking ks [] = None
first_lacking ks (p ∷ ps) = if stands_in (slice_get ks p.0) p.1 then first_lacking ks ps else Some p

-- of those that a unit of one of n groups needs
abbrev pub lacks : List GroupKept → ℕ → ℕ → ScrubUnit → Option Place
lacks ks n g unit = first_lacking ks (needed n g unit)

-- ---- what entries make of it, the first of them first

-- a fault or a mark makes its btree sick, a verdict good or rebuilt makes those of its unit good
abbrev pub trust_by : Entry → Trusts → Trusts
trust_by (entries.Fault g unit fault) t = with_trust t (kind_of_fault fault) Sick
trust_by (entries.Marked g kind cause) t = with_trust t kind Sick
trust_by (entries.Verdict g unit verdict) t = if is_passed verdict then with_unit t unit Good else t
trust_by e t = t

abbrev pub trust_after : List Entry → Trusts → Trusts
trust_after [] t = t
trust_after (e ∷ es) t = trust_after es (trust_by e t)

-- such a verdict lets its unit pass
abbrev pub passed_by : Entry → Passed → Passed
passed_by (entries.Verdict g unit verdict) p = if is_passed verdict then with_pass p unit true else p
passed_by e p = p

abbrev pub passed_after : List Entry → Passed → Passed
passed_after [] p = p
passed_after (e ∷ es) p = passed_after es (passed_by e p)

-- what is known of the group is what these entries make of it
pub record KnownBy (es : List Entry) (old new : GroupKept) : Type 0 where
  pub trust : new.trust ≡ trust_after es old.trust
  pub passed : new.passed ≡ passed_after es old.passed

-- ---- whether a journal says so, whose last entry comes first

-- exactly the units stand of which it says that
abbrev pub Agrees : List Entry → List GroupKept → Type 0
Agrees past ks = (g : ℕ) (kept : GroupKept) (unit : ScrubUnit) → slice_get ks g ≡ Some kept → is_stood kept unit ≡ stands g unit past
