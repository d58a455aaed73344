-- What a check of all units does.
use Rattle.std.specs.Prelude.{◌≡◌, ℕ, ◌<◌, Bool, true, false, List, get_or, Option, Some, None, Result}
use Rattle.check_phases.specs.Checks.{ChecksPhase, reached}
use Rattle.check_phases.specs.Entries.{passes_judged}
use Rattle.check_phases.specs.Phases.{Mappings, lacks_inodes}
use Rattle.check_phases.specs.Session.{check_events}
use Rattle.check_phases.specs.declared.tally.Tally.{Tally}
use Rattle.fs_model.specs.declared.unit.Unit.TheVariants as units
use Rattle.fs_state.specs.Kinds.{Image}
use Rattle.geom.specs.Layout.{Layout}
use Rattle.inode_pass.specs.Units.{opened_state}
use Rattle.space_check.specs.Events.{Does}
use Rattle.space_check.specs.declared.halt.Halt.{Halt}

-- All units of all groups in the order of a session, by the state that the image stands for right after it was opened;
-- or the first of them, and what ended the next one.
abbrev pub ChecksUnits : {T : Type 0} → Layout → Image → (before after : Tally) → Result T Halt → Type 0
ChecksUnits at image before after result = Does (check_events (opened_state at image)) (reached before) (reached after) result

-- ---- steps

-- the inodes of each group pass
abbrev pub AllPass : Layout → Image → Type 0
AllPass at image = (g : ℕ) → g < at.agcount → passes_judged (opened_state at image) g units.Inode ≡ true

-- the reverse mappings of all groups, where this is the first group whose inodes don't pass
abbrev pub ChecksAll : {T : Type 0} → Layout → Image → Option ℕ → (before after : Tally) → Result T Halt → Type 0
ChecksAll at image fallen before after result = ChecksPhase (opened_state at image) Mappings (lacks_inodes fallen) 0 at.agcount before after result

-- of the first n units this is the first that didn't pass
abbrev pub IsFirstFallen : List Bool → ℕ → Option ℕ → Type 0
IsFirstFallen passed n None = (h : ℕ) → h < n → get_or passed h true ≡ true
IsFirstFallen passed n (Some g) = (g < n) × (get_or passed g true ≡ false) × ((h : ℕ) → h < g → get_or passed h true ≡ true)
