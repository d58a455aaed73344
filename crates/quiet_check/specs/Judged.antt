-- What the check of a unit is: its faults, or the first evidence for which it can't be judged.
use Rattle.std.specs.Prelude.{◌≡◌, ℕ, ◌/◌, List, [], ◌∷◌, map, Option, Some, None}
use Rattle.fs_state.specs.Claims.{metadata_claims}
use Rattle.fs_state.specs.Contradiction.{bad_chunk, evidence, first_overlap}
use Rattle.fs_state.specs.Faults.{faults}
use Rattle.fs_state.specs.Lists.{first_of_all}
use Rattle.fs_model.specs.declared.claim.Evidence.{Evidence}
use Rattle.fs_model.specs.declared.fault.Fault.{Fault}
use Rattle.fs_model.specs.declared.unit.Unit.{Unit as ScrubUnit}
use Rattle.fs_model.specs.declared.unit.Unit.TheVariants as units
use Rattle.fs_state.specs.Kinds.{Image, heads_of}
use Rattle.fs_state.specs.State.{State, recs_of}
use Rattle.geom.specs.Layout.{Layout, group_len_of}
use Rattle.index_derive.specs.Units.{is_listed_by}
use Rattle.index_derive.specs.declared.inodes.UnitCores.{UnitCores}
use Rattle.inode_pass.specs.Units.{AreSeen, opened_state, unit_numbers, units_in}
use Rattle.inode_pass.specs.declared.unit.UnitSeen.{UnitSeen}
use Rattle.group_trees.specs.Group.{AreTrees}
use Rattle.group_trees.specs.Heads.{heads_seen}
use Rattle.group_trees.specs.Trees.{reading_of}
use Rattle.group_trees.specs.declared.group.GroupTrees.{GroupTrees}
use Rattle.group_trees.specs.declared.heads.GroupHeads.{GroupHeads}
use Rattle.run_sets.specs.Runs.{runs_below}
use Rattle.quiet_check.specs.declared.judge.Judged.{Judged}
use Rattle.quiet_check.specs.declared.judge.Judged.TheVariants.{Faults, GaveUp}

-- by this evidence, where there is some, or else by these faults
abbrev pub Decided : Option Evidence → List Fault → Judged → Type 0
Decided found wanted (Faults faults) = (found ≡ None) × (faults.items ≡ wanted)
Decided found wanted (GaveUp evidence) = found ≡ Some evidence

-- a unit of a group is judged as the state decides
abbrev pub IsJudged : State → ℕ → ScrubUnit → Judged → Type 0
IsJudged a g unit judged = Decided (evidence a g unit) (faults a g unit) judged

-- ---- steps of the check of inodes

-- heads, trees and cores are those of the image
pub record Gathered (at : Layout) (image : Image) (g : ℕ) (heads : GroupHeads) (trees : GroupTrees) (seen : List UnitSeen) : Type 0 where
  pub named : heads_seen heads ≡ heads_of at image g
  pub trees_are : AreTrees at image g trees
  pub cores_are : AreSeen at image g seen

-- where heads, trees and cores are those of an image
abbrev pub WhereGathered : Layout → ℕ → GroupHeads → GroupTrees → List UnitSeen → (Image → Type 0) → Type 0
WhereGathered at g heads trees seen P = (image : Image) → Gathered at image g heads trees seen → P image

-- the units that were seen are those that the trees list
abbrev pub AreUnitsOf : Layout → ℕ → GroupTrees → List UnitSeen → Type 0
AreUnitsOf at g trees seen =
    unit_numbers seen ≡ units_in (runs_below (is_listed_by (recs_of (reading_of trees.ino)) (recs_of (reading_of trees.rmap))) (group_len_of at g / 8))

abbrev pub cores_in : List UnitSeen → List UnitCores
cores_in seen = map (λ s. s.cores) seen

-- two claims of metadata overlap
abbrev pub overlap_of : State → ℕ → Option Evidence
overlap_of a g = first_overlap a g (metadata_claims a g)

-- a core of a chunk doesn't verify, or two claims overlap
abbrev pub later_evidence : State → ℕ → Option Evidence
later_evidence a g = first_of_all (bad_chunk a g ∷ overlap_of a g ∷ [])

-- The inodes of a group are judged: by their faults alone ..
abbrev pub IsFaultJudged : Layout → Image → ℕ → Judged → Type 0
IsFaultJudged at image g judged = Decided None (faults (opened_state at image) g units.Inode) judged

-- .. or by the first overlap before them ..
abbrev pub IsOverlapJudged : Layout → Image → ℕ → Judged → Type 0
IsOverlapJudged at image g judged = Decided (overlap_of (opened_state at image) g) (faults (opened_state at image) g units.Inode) judged

-- .. or by a core of a chunk before both
abbrev pub IsCoreJudged : Layout → Image → ℕ → Judged → Type 0
IsCoreJudged at image g judged = Decided (later_evidence (opened_state at image) g) (faults (opened_state at image) g units.Inode) judged

-- Where heads and trees are those of the image, that is how they are judged: from the cores on, and by all.
abbrev pub IsCoreJudgedBy : Layout → Image → ℕ → GroupHeads → GroupTrees → Judged → Type 0
IsCoreJudgedBy at image g heads trees judged = heads_seen heads ≡ heads_of at image g → AreTrees at image g trees → IsCoreJudged at image g judged

abbrev pub IsInodeJudgedBy : Layout → Image → ℕ → GroupHeads → GroupTrees → Judged → Type 0
IsInodeJudgedBy at image g heads trees judged = heads_seen heads ≡ heads_of at image g → AreTrees at image g trees → IsJudged (opened_state at image) g units.Inode judged
