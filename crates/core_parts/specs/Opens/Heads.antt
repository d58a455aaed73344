-- The heads of all groups as an image is opened, and which head is refused.
use Rattle.std.specs.Prelude.{◌≡◌, ⊤, ℕ, ◌+◌, ◌<◌, Bool, true, false, List, [], ◌∷◌}
use Rattle.fs_state.specs.Kinds.{Image, heads_of}
use Rattle.geom.specs.Layout.{Layout, device_block_of}
use Rattle.group_trees.specs.Heads.{PassIn}
use Rattle.group_trees.specs.Heads.{IsRefusal as IsHeadRefused}
use Rattle.group_trees.specs.declared.accept.HeadsStop.TheVariants.{Refused}
use Rattle.inode_pass.specs.declared.stop.PassStop.{PassStop}
use Rattle.inode_pass.specs.declared.stop.PassStop.TheVariants as passes
use Rattle.core_edit.specs.Heads.{seen}
use Rattle.core_edit.specs.Stands.{AreOf}
use Rattle.core_edit.specs.declared.heads.EditHeads.{EditHeads}
use Rattle.core_calls.specs.declared.answers.OpenRefused.{OpenRefused}
use Rattle.core_calls.specs.declared.answers.OpenRefused.TheVariants.{Group, Failed, Memory}

-- the device failed
abbrev pub is_failed : OpenRefused → Bool
is_failed (Group g head fault) = false
is_failed Failed = true
is_failed Memory = false

-- no head is refused
abbrev pub IsOutside : OpenRefused → Type 0
IsOutside (Group g head fault) = ⊥
IsOutside Failed = ⊤
IsOutside Memory = ⊤

abbrev pub comes_from : PassStop → OpenRefused
comes_from passes.Failed = Failed
comes_from passes.Memory = Memory

-- it is the first head in a group's block 0 that is refused, in the order AGF, AGI, AGFL
abbrev pub IsRefusal : Layout → ℕ → List ℕ → OpenRefused → Type 0
IsRefusal at g block (Group h head fault) = (h ≡ g) × IsHeadRefused at g block (Refused head fault)
IsRefusal at g block Failed = ⊤
IsRefusal at g block Memory = ⊤

-- the same of the block that an image has there
abbrev pub IsRefusedIn : Layout → Image → ℕ → OpenRefused → Type 0
IsRefusedIn at image g stop = IsRefusal at g (image (device_block_of at g 0)) stop

-- no head of the groups below is refused
abbrev pub PassBelow : Layout → Image → ℕ → Type 0
PassBelow at image n = (g : ℕ) → g < n → PassIn at image g

-- the first head that is refused, in the groups' order
abbrev pub IsFirstRefused : Layout → Image → OpenRefused → Type 0
IsFirstRefused at image (Group g head fault) = (g < at.agcount) × PassBelow at image g × IsHeadRefused at g (image (device_block_of at g 0)) (Refused head fault)
IsFirstRefused at image Failed = ⊤
IsFirstRefused at image Memory = ⊤

-- ---- lists of what is known of the groups, from group g on

abbrev pub Each : {X : Type 0} → (ℕ → X → Type 0) → ℕ → List X → Type 0
Each P g [] = Unit {0}
Each P g (x ∷ xs) = P g x × Each P (g + 1) xs

-- a group's heads are the image's
abbrev pub IsHeadsOf : Layout → Image → ℕ → EditHeads → Type 0
IsHeadsOf at image g heads = seen heads ≡ heads_of at image g
