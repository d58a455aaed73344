-- What a check of all units adds, by what its phases add, whatever the device tells.
use Rattle.std.proofs.Common.{◌≡◌, ℕ, ◌-◌, ◌<◌, ◌≤◌, Bool, List, [], ◌∷◌, ◌++◌, length, Option, Some, None, Result, Ok, Err, inl, refl, sym, ap, append_assoc, arith}
use Rattle.std.specs.Prelude.{IfSome}
use Rattle.check_phases.proofs.AddedLemmas.{any_judged, any_space_part, groups_begun, groups_stop, of_all, some_parts, stops_before, then_added, unit_cut, unit_full}
use Rattle.check_phases.specs.Parts.{AddsPart, AreParts, IsInodePart, IsSpacePart, skipped_event}
use Rattle.check_phases.specs.declared.part.Part.{Part}
use Rattle.check_phases.specs.declared.tally.Tally.{Tally}
use Rattle.fs_state.specs.Session.{Place}
use Rattle.fs_model.specs.declared.unit.Unit.TheVariants as units
use Rattle.space_check.specs.Events.{Event, most_entries}
use Rattle.space_check.specs.Progress.{Begins, IsOutside}
use Rattle.space_check.specs.declared.halt.Halt.{Halt}
use Rattle.image_check.specs.Checked.{IsFirstFallen}
use Rattle.image_check.specs.Units.{AreMappings, AreUnits, EndsInUnits, IsMappingPart, IsSkippedFor}

-- ---- reverse mappings

pub any_mapping : (g : ℕ) → (es : List Event) × IsMappingPart g es
any_mapping g = any_judged units.Rmap g

pub any_skipped : (needed : Place) (g : ℕ) → (es : List Event) × IsSkippedFor needed g es
any_skipped needed g = (skipped_event g units.Rmap needed.0 needed.1 ∷ [], refl)

unfoldable pub whole : ℕ → Part
whole n = record { from = 0; to = n }

from_first : (n : ℕ) (a b : Tally) (halt : Halt) → 1 ≤ n → AddsPart {T = Unit {0}} (IsMappingPart 0) a b (Err halt) → AddsPart {T = Unit {0}} (AreParts IsMappingPart n) a b (Err halt)
unfolding whole
from_first n a b halt some h =
    of_all {T = Unit {0}} IsMappingPart (whole n) n a b (Err halt) refl refl
    (groups_stop IsMappingPart 0 any_mapping n 0 a a b halt (omega arith) (omega (arith, some)) (groups_begun IsMappingPart 0 (0 - 0) a (omega arith)) h)

-- the first of them was cut off, or didn't begin
pub mappings_cut : (n : ℕ) (t : Tally) (halt : Halt) → 1 ≤ n → length t.journal.entries.items < most_entries → IsOutside halt → AddsPart {T = Unit {0}} (AreParts IsMappingPart n) t t (Err halt)
mappings_cut n t halt some room out = from_first n t t halt some (unit_cut 0 units.Rmap (Unit {0}) t halt room out)

pub mappings_full : (S : Type 0) (n : ℕ) (t : Tally) (halt : Halt) → 1 ≤ n → Begins {T = S} t.journal.entries.items (Err halt) → AddsPart {T = Unit {0}} (AreParts IsMappingPart n) t t (Err halt)
mappings_full S n t halt some full = from_first n t t halt some (unit_full 0 units.Rmap S (Unit {0}) t halt full)

-- the first group that fell is one of them
pub fallen_below : (passed : List Bool) (n : ℕ) (fallen : Option ℕ) → IsFirstFallen passed n fallen → IfSome fallen (λ g. g < n)
fallen_below passed n None is = tt
fallen_below passed n (Some g) is = is.0

-- ---- all units

module _ (n : ℕ) where
  any_mappings : (es : List Event) × AreMappings n es
  any_mappings = let some = some_parts IsMappingPart any_mapping n in (some.0, inl some.1)

  any_space : (es : List Event) × AreParts IsSpacePart n es
  any_space = some_parts IsSpacePart any_space_part n

  -- inodes and reverse mappings
  abbrev AreBefore : List Event → Type 0
  AreBefore es = (is : List Event) × (ms : List Event) × AreParts IsInodePart n is × AreMappings n ms × (es ≡ is ++ ms)

  all_units : (es ss : List Event) → AreBefore es → AreParts IsSpacePart n ss → AreUnits n (es ++ ss)
  all_units es ss before space = record {
    inodes = before.0;
    mappings = before.1;
    space = ss;
    inode_parts = before.2;
    mapping_parts = before.3;
    space_parts = space;
    whole = ap (λ (x : List Event). x ++ ss) before.4;
  }

  pub inodes_stop : (S T : Type 0) (a b : Tally) (halt : Halt) → AddsPart {T = S} (AreParts IsInodePart n) a b (Err halt) → AddsPart {T = T} (AreUnits n) a b (Err halt)
  inodes_stop S T a b halt h =
      stops_before S T (AreParts IsInodePart n) (AreUnits n) (any_mappings.0 ++ any_space.0) a b halt
      (λ es is. record { inodes = es; mappings = any_mappings.0; space = any_space.0; inode_parts = is; mapping_parts = any_mappings.1; space_parts = any_space.1; whole = sym (append_assoc es any_mappings.0 any_space.0) }) h

  pub mappings_added : {S T : Type 0} (a b c : Tally) (done : S) (result : Result T Halt) → AddsPart {T = S} (AreParts IsInodePart n) a b (Ok done) → AddsPart (AreMappings n) b c result → AddsPart AreBefore a c result
  mappings_added a b c done result first second = then_added (AreParts IsInodePart n) (AreMappings n) AreBefore a b c done result (λ es fs p q. (es, fs, p, q, refl)) first second

  pub mappings_stop : (S T : Type 0) (a b : Tally) (halt : Halt) → AddsPart {T = S} AreBefore a b (Err halt) → AddsPart {T = T} (AreUnits n) a b (Err halt)
  mappings_stop S T a b halt h = stops_before S T AreBefore (AreUnits n) any_space.0 a b halt (λ es p. all_units es any_space.0 p any_space.1) h

  pub space_added : {S T : Type 0} (a b c : Tally) (done : S) (result : Result T Halt) → AddsPart {T = S} AreBefore a b (Ok done) → AddsPart (AreParts IsSpacePart n) b c result → AddsPart (AreUnits n) a c result
  space_added a b c done result first second = then_added AreBefore (AreParts IsSpacePart n) (AreUnits n) a b c done result all_units first second

  pub ends_in_units : {T : Type 0} (a b : Tally) (result : Result T Halt) → AddsPart (AreUnits n) a b result → EndsInUnits n a.journal.entries.items b.journal.entries.items result
  ends_in_units a b (Ok done) h = record { events = h.events; units = h.are; done = h.added }
  ends_in_units a b (Err halt) h = record { events = h.events; units = h.are; stop = h.added }
