-- What a pass over the cores of a group's units finds, by the state that the image stands for right after it was opened.
use Rattle.std.specs.Prelude.{◌≡◌, ℕ, ◌+◌, List, [], ◌∷◌, ◌++◌, map}
use Rattle.fs_state.specs.Contradiction.{bad_in_unit}
use Rattle.fs_state.specs.Lists.{numbers}
use Rattle.fs_state.specs.Kinds.{Image}
use Rattle.fs_state.specs.Read.{state_of, opened}
use Rattle.fs_state.specs.State.{State}
use Rattle.geom.specs.Layout.{Layout}
use Rattle.index_derive.specs.Inodes.{mask_in}
use Rattle.run_sets.specs.declared.run.Run.{Run}
use Rattle.inode_pass.specs.declared.unit.UnitSeen.{UnitSeen}

-- the state that an image stands for with what is kept right after it was opened: no reserve, no limbo, no chains
abbrev pub opened_state : Layout → Image → State
opened_state at image = state_of at image (opened at image)

-- which inodes of the unit are free, where all cores verify, and the first core that doesn't
pub record IsSeen (at : Layout) (image : Image) (g : ℕ) (seen : UnitSeen) : Type 0 where
  pub mask : seen.cores.free ≡ mask_in (opened_state at image) g seen.cores.unit
  pub broken : seen.broken ≡ bad_in_unit (opened_state at image) g seen.cores.unit

-- each unit was seen so
abbrev pub AreSeen : Layout → Image → ℕ → List UnitSeen → Type 0
AreSeen at image g [] = Unit {0}
AreSeen at image g (s ∷ ss) = IsSeen at image g s × AreSeen at image g ss

abbrev pub unit_numbers : List UnitSeen → List ℕ
unit_numbers seen = map (λ s. s.cores.unit) seen

-- the units of runs, one after the other
abbrev pub units_in : List Run → List ℕ
units_in [] = []
units_in (r ∷ rs) = numbers r.start r.count ++ units_in rs

-- how many units the runs have
abbrev pub unit_count : List Run → ℕ
unit_count [] = 0
unit_count (r ∷ rs) = r.count + unit_count rs
