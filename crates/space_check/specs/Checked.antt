-- What a check of all groups does and how it ends, as the image decides it: its heads, then its units.
use Rattle.std.specs.Prelude.{◌≡◌, ◌<◌, ℕ, zero, suc, ◌+◌, nat_lt, if◌then◌else◌, List, [], ◌∷◌, ◌++◌, length, Option, Some, None, Result, Ok, Err}
use Rattle.std.specs.Global.{Vec}
use Rattle.ag_headers.specs.Agf.{agf_fault}
use Rattle.ag_headers.specs.Agfl.{agfl_fault}
use Rattle.ag_headers.specs.Agi.{agi_fault}
use Rattle.ag_headers.specs.declared.fault.HeadFault.{HeadFault}
use Rattle.blk_device.specs.Causes.{HasCause}
use Rattle.blk_device.specs.Taken.{IsFront}
use Rattle.fs_model.specs.declared.entry.Entry.{Entry}
use Rattle.fs_model.specs.declared.unit.Head.{Head}
use Rattle.fs_model.specs.declared.unit.Head.TheVariants.{Agf, Agi, Agfl}
use Rattle.geom.specs.Layout.{Layout, device_block_of}
use Rattle.space_check.specs.Events.{Event, most_entries}
use Rattle.space_check.specs.Progress.{is_failed}
use Rattle.space_check.specs.declared.halt.Halt.{Halt}
use Rattle.space_check.specs.declared.halt.Halt.TheVariants as halts
use Rattle.space_check.specs.declared.stop.CheckStop.{CheckStop}

-- of two tests the first that fails
abbrev pub or_else : {A : Type 0} → Option A → Option A → Option A
or_else (Some a) b = Some a
or_else None b = b

abbrev pub of_head : Head → Option HeadFault → Option (Head × HeadFault)
of_head head None = None
of_head head (Some fault) = Some (head, fault)

-- the first head in a group's block 0 that is refused, in the order AGF, AGI, AGFL
unfoldable pub bad_head : Layout → ℕ → List ℕ → Option (Head × HeadFault)
bad_head at g block = or_else (of_head Agf (agf_fault at g block)) (or_else (of_head Agi (agi_fault at g block)) (of_head Agfl (agfl_fault at g block)))

-- a look at the heads of a group: one block, and nothing to tell where they pass
abbrev pub look : Event
look = record { reads = 1; entries = [] }

abbrev pub looks : ℕ → List Event
looks zero = []
looks (suc n) = look ∷ looks n

-- An image is refused for a head; or it is judged, by these entries; or the journal was full before
-- the last event.
pub data Checked : Type 0 where
  RefusedHead : (g : ℕ) (head : Head) (fault : HeadFault) → Checked
  Judged : (entries : List Entry) → Checked
  Filled : (entries : List Entry) → Checked

-- the journal that a check has in the end
abbrev pub journal_of : Checked → List Entry
journal_of (RefusedHead g head fault) = []
journal_of (Judged entries) = entries
journal_of (Filled entries) = entries

-- these events one after the other, each only where the journal has room
abbrev pub recorded : List Entry → List Event → Checked
recorded journal [] = Judged journal
recorded journal (e ∷ es) = if nat_lt (length journal) most_entries then recorded (journal ++ e.entries) es else Filled journal

module _ (at : Layout) (image : ℕ → List ℕ) where
  -- the block with a group's heads
  abbrev pub heads_at : ℕ → List ℕ
  heads_at g = image (device_block_of at g 0)

  -- the first of n groups from g on with a head that is refused
  unfoldable pub bad_head_from : ℕ → ℕ → Option (ℕ × (Head × HeadFault))
  bad_head_from g zero = None
  bad_head_from g (suc n) =
      elim (bad_head at g (heads_at g)) [
        | Some bad ↦ Some (g, bad)
        | None ↦ bad_head_from (g + 1) n
      ]

  -- how many groups' heads are looked at: all, or those up to the first that is refused
  unfoldable pub looked_at : ℕ
  looked_at =
      elim (bad_head_from 0 at.agcount) [
        | Some bad ↦ bad.0 + 1
        | None ↦ at.agcount
      ]

-- an answer is what the image decides; one that was stopped has a front of that journal
abbrev pub MeetsHalt : Checked → Halt → (journal : List Entry) → Type 0
MeetsHalt decided (halts.Head g head fault) journal = (decided ≡ RefusedHead g head fault) × (journal ≡ [])
MeetsHalt decided halts.Full journal = decided ≡ Filled journal
MeetsHalt decided halts.Failed journal = IsFront journal (journal_of decided)
MeetsHalt decided halts.Memory journal = IsFront journal (journal_of decided)

abbrev pub MeetsCheck : Checked → Result (Vec Entry) CheckStop → Type 0
MeetsCheck decided (Ok journal) = decided ≡ Judged journal.items
MeetsCheck decided (Err stop) = MeetsHalt decided stop.cause stop.journal.items

-- a failed device is told only where its count rose, and no other answer moves the count
abbrev pub CheckCause : ℕ → ℕ → Result (Vec Entry) CheckStop → Type 0
CheckCause before now result = HasCause (λ stop. is_failed stop.cause) before now result

-- ---- steps of the check

module _ (at : Layout) (image : ℕ → List ℕ) where
  -- the heads of all groups pass, or this is the first that is refused; or a look at them was cut off
  abbrev pub HaltsInHeads : (before after : ℕ) → Halt → Type 0
  HaltsInHeads before after (halts.Head g head fault) = (bad_head_from at image 0 at.agcount ≡ Some (g, (head, fault))) × (after ≡ before + (g + 1))
  HaltsInHeads before after halts.Full = ⊥
  HaltsInHeads before after halts.Failed = (i : ℕ) × (i < looked_at at image) × (after ≡ before + (i + 1))
  HaltsInHeads before after halts.Memory = (i : ℕ) × (i < looked_at at image) × (after ≡ before + (i + 1))

  abbrev pub LooksAtHeads : {T : Type 0} → (before after : ℕ) → Result T Halt → Type 0
  LooksAtHeads before after (Ok done) = (bad_head_from at image 0 at.agcount ≡ None) × (after ≡ before + at.agcount)
  LooksAtHeads before after (Err halt) = HaltsInHeads before after halt
