-- The switch of the inode btrees where an old one couldn't be read: what its blocks are to reverse mappings.
use Rattle.std.specs.Prelude.{ℕ, ◌≡◌, ◌⊎◌, false, List}
use Rattle.fs_change.specs.Loose.{tree_blocks}
use Rattle.fs_change.specs.Step.{Step}
use Rattle.fs_change.specs.Switch.{readable_blocks}
use Rattle.fs_state.specs.Records.{kinds_of}
use Rattle.fs_state.specs.Laws.{EachTree}
use Rattle.fs_model.specs.declared.entry.Entry.TheVariants as entries
use Rattle.fs_model.specs.declared.unit.Unit.TheVariants as units
use Rattle.fs_state.specs.State.{State, blocks_of, is_readable}
use Rattle.geom.specs.Apart.{Splits}
use Rattle.law_repairs.specs.Move.Order.{IsInOrder}
use Rattle.law_repairs.specs.Repair.Letters.{Holds, Stands}
use Rattle.sblock.specs.declared.kind.Kind.{Kind}
use Rattle.sblock.specs.declared.kind.Kind.TheVariants.{Fino, Ino}
use Rattle.tree_defs.specs.Lists.{In}

-- an old btree that can't be read claims no block, so none is missed in limbo
abbrev pub NoneIsMissed : State → ℕ → Type 0
NoneIsMissed a g = EachTree (λ k. readable_blocks ((a.group g).tree k).reading ≡ blocks_of ((a.group g).tree k).reading) (kinds_of units.Inode)

-- then what is known of the reverse mappings stays
abbrev pub UnreadKeeps : Type 0
UnreadKeeps = (a b : State) (left : List Kind) (g root second : ℕ) → Splits a.geometry
    → Step a left (entries.Switched g units.Inode root second) b → NoneIsMissed a g → Stands a g units.Rmap
    → Stands b g units.Rmap

-- Where one claims a block, nothing has the block behind the switch, and mappings that held what they should don't.
abbrev pub UnreadMisses : Type 0
UnreadMisses = (a b : State) (left : List Kind) (g root second d : ℕ) (k : Kind) → (k ≡ Ino) ⊎ (k ≡ Fino)
    → Splits a.geometry → Step a left (entries.Switched g units.Inode root second) b → IsInOrder a g → IsInOrder b g
    → is_readable ((a.group g).tree k).reading ≡ false → In d (tree_blocks (a.group g) k) → Holds a g units.Rmap
    → Holds b g units.Rmap → ⊥
