-- A draft while it is made.
use Rattle.std.specs.Prelude.{ℕ, ◌≤◌, nat_lt, List, length, map}
use Rattle.ag_headers.specs.Ring.{entries}
use Rattle.byte_fields.specs.declared.block.Block.{Block}
use Rattle.over_blocks.specs.declared.draft.Draft.{Draft}
use Rattle.sblock.specs.Lists.{Each}
use Rattle.sblock.specs.declared.block.Frame.{Frame}
use Rattle.place_apply.specs.declared.task.Task.{Task}

-- the made blocks are blocks of a group of this length
abbrev pub ArePlacedInside : ℕ → List (ℕ × Block) → Type 0
ArePlacedInside len placed = Each (λ p. nat_lt p len) (map (λ e. e.0) placed)

-- no more is taken than is listed, and each made block is one of the group
pub record IsDraft {R : Type 0} (task : Task R) (draft : Draft) : Type 0 where
  pub few : draft.taken ≤ length (entries task.list)
  pub inside : ArePlacedInside task.ask.site.bounds.length draft.placed.items

abbrev pub frame_at : {R : Type 0} → Task R → Frame
frame_at task = record { group = task.ask.site.group; first = task.ask.site.first; uuid = task.ask.site.uuid; lsn = task.lsn }
