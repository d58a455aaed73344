-- What a unit that was gathered whole promises of the state that the image and what is kept of it stand for. It is
-- stated for the proofs to come: no contract cites it yet.
use Rattle.std.specs.Prelude.{◌≡◌, ℕ, Some, None}
use Rattle.fs_state.specs.Chunks.{chunks}
use Rattle.fs_state.specs.Contradiction.{first_contradiction}
use Rattle.fs_state.specs.Derive.{bno_of, cnt_of, fino_of, ino_of, refc_of}
use Rattle.fs_state.specs.Faults.{faults}
use Rattle.fs_state.specs.Own.{rmap_of}
use Rattle.fs_model.specs.declared.unit.Unit.{Unit as ScrubUnit}
use Rattle.fs_model.specs.declared.unit.Unit.TheVariants as units
use Rattle.fs_state.specs.State.{State}
use Rattle.group_trees.specs.declared.group.GroupTrees.{GroupTrees}
use Rattle.group_trees.specs.declared.heads.GroupHeads.{GroupHeads}
use Rattle.core_units.specs.declared.lists.Lists.{Lists}
use Rattle.core_units.specs.declared.lists.Lists.TheVariants as lists
use Rattle.core_units.specs.Compared.{faults_from}
use Rattle.core_units.specs.declared.compare.Place.TheVariants.{First}
use Rattle.core_units.specs.declared.judging.Concluded.{Concluded}
use Rattle.core_units.specs.declared.judging.Concluded.TheVariants as ends

-- the lists are what the unit's btrees must hold
abbrev pub AreListsOf : State → ℕ → ScrubUnit → Lists → Type 0
AreListsOf a g units.Inode (lists.Inode ino fino) = (ino.items ≡ ino_of a g) × (fino.items ≡ fino_of a g)
AreListsOf a g units.Rmap (lists.Rmap rmap) = rmap.items ≡ rmap_of a g
AreListsOf a g units.Free (lists.Free bno cnt) = (bno.items ≡ bno_of a g) × (cnt.items ≡ cnt_of a g)
AreListsOf a g units.Refc (lists.Refc refc) = refc.items ≡ refc_of a g
AreListsOf a g unit list = ⊥

-- the first evidence against its derivation, or else these lists
abbrev pub IsConcluded : State → ℕ → ScrubUnit → Concluded → Type 0
IsConcluded a g unit (ends.GaveUp found) = first_contradiction a g unit ≡ Some found
IsConcluded a g unit (ends.Judging judging) = (first_contradiction a g unit ≡ None) × AreListsOf a g unit judging.lists × (judging.chunks.items ≡ chunks a g)

-- all pieces of the comparison are together the unit's faults
abbrev pub AreFaultsOf : State → ℕ → ScrubUnit → GroupHeads → GroupTrees → Lists → Type 0
AreFaultsOf a g unit heads trees list = faults_from a.geometry.inobtcount heads trees list (First 0) ≡ faults a g unit
