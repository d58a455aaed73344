-- The heads of a group, as the code has them, and why they are refused.
use Rattle.std.specs.Prelude.{◌≡◌, ℕ, ⊤, Bool, true, false, List, Some, None}
use Rattle.ag_headers.specs.Agf.{agf_fault}
use Rattle.ag_headers.specs.Agfl.{agfl_fault}
use Rattle.ag_headers.specs.Agi.{agi_fault}
use Rattle.fs_model.specs.declared.unit.Head.TheVariants as heads
use Rattle.fs_state.specs.Kinds.{Heads, Image}
use Rattle.geom.specs.Layout.{Layout, device_block_of}
use Rattle.group_trees.specs.declared.accept.HeadsStop.{HeadsStop}
use Rattle.group_trees.specs.declared.accept.HeadsStop.TheVariants.{Refused, Failed, Memory}
use Rattle.group_trees.specs.declared.heads.GroupHeads.{GroupHeads}

abbrev pub heads_seen : GroupHeads → Heads
heads_seen heads = record { agf = heads.agf; agi = heads.agi; list = heads.list.items }

abbrev pub is_failed : HeadsStop → Bool
is_failed (Refused head fault) = false
is_failed Failed = true
is_failed Memory = false

-- it is the first head in a group's block 0 that is refused, in the order AGF, AGI, AGFL
abbrev pub IsRefusal : Layout → ℕ → List ℕ → HeadsStop → Type 0
IsRefusal at g block (Refused heads.Agf fault) = agf_fault at g block ≡ Some fault
IsRefusal at g block (Refused heads.Agi fault) = (agf_fault at g block ≡ None) × (agi_fault at g block ≡ Some fault)
IsRefusal at g block (Refused heads.Agfl fault) = (agf_fault at g block ≡ None) × (agi_fault at g block ≡ None) × (agfl_fault at g block ≡ Some fault)
IsRefusal at g block Failed = ⊤
IsRefusal at g block Memory = ⊤

-- none of the three is refused
abbrev pub PassAll : Layout → ℕ → List ℕ → Type 0
PassAll at g block = (agf_fault at g block ≡ None) × (agi_fault at g block ≡ None) × (agfl_fault at g block ≡ None)

-- the same of the block that an image has there
abbrev pub PassIn : Layout → Image → ℕ → Type 0
PassIn at image g = PassAll at g (image (device_block_of at g 0))

abbrev pub IsRefusedIn : Layout → Image → ℕ → HeadsStop → Type 0
IsRefusedIn at image g stop = IsRefusal at g (image (device_block_of at g 0)) stop

-- no head is refused
abbrev pub IsOutside : HeadsStop → Type 0
IsOutside (Refused head fault) = ⊥
IsOutside Failed = ⊤
IsOutside Memory = ⊤
