-- The walk of a fork's btree from an offset on, as far as it has come.
use Rattle.std.specs.Prelude.{◌≡◌, ℕ, zero, suc, ◌-◌, ◌==◌, nat_lt, Bool, true, false, ◌&&◌, ◌||◌, if◌then◌else◌, List, [], ◌∷◌, ◌++◌, length, map, get_or, Option, Some, None, Result, Ok}
use Rattle.byte_fields.specs.Fields.{field}
use Rattle.geom.specs.Layout.{Layout, device_block_of, split_of}
use Rattle.dinode_core.specs.declared.inode.Core3.{Core3}
use Rattle.dinode_core.specs.declared.mapping.Fork.{Fork}
use Rattle.dinode_core.specs.Inline.{root_level}
use Rattle.dinode_core.specs.Shape.{area_of}
use Rattle.dinode_core.specs.ForkTree.{Image, Trail, TreeBlock, Last, Entry, ◌>>=◌, node_entries, leaf_mappings, is_right, is_beside, with_mappings, walk_each, walk_in, root_entries, start}
use Rattle.fork_read.specs.declared.tasks.Task.{Task}
use Rattle.fork_read.specs.declared.seen.LastRead.{LastRead}
use Rattle.fork_read.specs.declared.seen.BlockRead.{BlockRead}
use Rattle.fork_read.specs.declared.seen.Seen.{Seen}

-- a subtree is passed by where the next one begins before the offset, and so does all that lies in it
abbrev pub is_passed : ℕ → List Entry → Bool
is_passed from [] = false
is_passed from (next ∷ es) = nat_lt next.key from

-- the entries from the first on that isn't passed by
unfoldable pub pruned : ℕ → List Entry → List Entry
pruned from [] = []
pruned from (e ∷ es) = if is_passed from es then pruned from es else e ∷ es

-- the block before this one on its level was read by an earlier piece
abbrev pub is_resumed : ℕ → Option Last → ℕ → Bool
is_resumed from None key = nat_lt key from
is_resumed from (Some last) key = false

unfoldable pub is_sound_from : Layout → Core3 → ℕ → ℕ → Option Last → Entry → ℕ × ℕ → List ℕ → Bool
is_sound_from at core from level last entry place bytes =
    is_right at core level entry place bytes && (is_resumed from last entry.key || is_beside last entry bytes)

abbrev pub read_at : Layout → Image → Core3 → ℕ → ℕ → Option Last → Entry → Option (ℕ × ℕ) → Option (List ℕ)
read_at at image core from level last entry None = None
read_at at image core from level last entry (Some place) =
    let bytes = image (device_block_of at place.0 place.1) in
    if is_sound_from at core from level last entry place bytes then Some bytes else None

-- of a block that an earlier piece has read, the entries are looked at from the offset on; of each other one all
abbrev pub skipped_to : ℕ → Option Last → ℕ → ℕ
skipped_to from last key = if is_resumed from last key then from else 0

-- the trail after a block of this level; it is given where no earlier piece has read it
unfoldable pub passed_from : ℕ → ℕ → Entry → List ℕ → Trail → Trail
passed_from from level entry bytes trail = record {
  mappings = trail.mappings;
  blocks = if is_resumed from (trail.last level) entry.key then trail.blocks else trail.blocks ++ record { block = entry.block; before = length trail.mappings } ∷ [];
  last = λ l. if l == level then Some (record { block = entry.block; right = field 8 bytes 16 }) else trail.last l;
}

-- a block, and what lies below it from the offset on
unfoldable pub walk_from : Layout → Image → Core3 → ℕ → ℕ → Trail → Entry → Result Trail Trail
walk_from at image core from zero trail entry =
    walk_in (read_at at image core from zero (trail.last zero) entry (split_of at entry.block)) trail (λ bytes.
    Ok (with_mappings (leaf_mappings bytes) (passed_from from zero entry bytes trail)))
walk_from at image core from (suc level) trail entry =
    walk_in (read_at at image core from (suc level) (trail.last (suc level)) entry (split_of at entry.block)) trail (λ bytes.
    walk_each (walk_from at image core from level) (pruned (skipped_to from (trail.last (suc level)) entry.key) (node_entries bytes)) (passed_from from (suc level) entry bytes trail))

abbrev pub entry_of : Task → Entry
entry_of task = record { key = task.key; block = task.block }

abbrev pub tasks_of : ℕ → List Entry → List Task
tasks_of level [] = []
tasks_of level (e ∷ es) = record { level = level; key = e.key; block = e.block } ∷ tasks_of level es

-- what is left to do of a walk, one subtree after the other
unfoldable pub walk_tasks : Layout → Image → Core3 → ℕ → List Task → Trail → Result Trail Trail
walk_tasks at image core from [] trail = Ok trail
walk_tasks at image core from (x ∷ xs) trail = walk_from at image core from x.level trail (entry_of x) >>= walk_tasks at image core from xs

abbrev pub first_tasks : Core3 → Fork → ℕ → List Task
first_tasks core fork from = tasks_of (root_level (area_of core fork) - 1) (pruned from (root_entries core fork))

-- a node's subtrees come in its own place
abbrev pub below_of : ℕ → ℕ → List ℕ → List Task
below_of skipped zero bytes = []
below_of skipped (suc level) bytes = tasks_of level (pruned skipped (node_entries bytes))

-- a leaf's mappings come behind those that were met
abbrev pub taken_in : ℕ → ℕ → Entry → List ℕ → Trail → Trail
taken_in from zero entry bytes trail = with_mappings (leaf_mappings bytes) (passed_from from zero entry bytes trail)
taken_in from (suc level) entry bytes trail = passed_from from (suc level) entry bytes trail

-- the block of the first subtree is sound, and with it these are left, and this is the trail
pub record IsRead (at : Layout) (image : Image) (core : Core3) (from : ℕ) (task : Task) (rest : List Task) (trail : Trail) (left : List Task) (after : Trail) : Type 0 where
  pub bytes : List ℕ
  pub found : read_at at image core from task.level (trail.last task.level) (entry_of task) (split_of at task.block) ≡ Some bytes
  pub tasks : left ≡ below_of (skipped_to from (trail.last task.level) task.key) task.level bytes ++ rest
  pub taken : after ≡ taken_in from task.level (entry_of task) bytes trail

-- the block of the first subtree is read so, or it is bad and nothing changes
abbrev pub HasStepped : Layout → Image → Core3 → ℕ → Task → List Task → Trail → Bool → List Task → Trail → Type 0
HasStepped at image core from task rest trail true left after = IsRead at image core from task rest trail left after
HasStepped at image core from task rest trail false left after =
    (read_at at image core from task.level (trail.last task.level) (entry_of task) (split_of at task.block) ≡ None) × (after ≡ trail)

-- one block more was read
pub record IsNext (at : Layout) (image : Image) (core : Core3) (from : ℕ) (Before : List Task → Trail → Type 0) (left : List Task) (after : Trail) : Type 0 where
  pub task : Task
  pub rest : List Task
  pub trail : Trail
  pub before : Before (task ∷ rest) trail
  pub read : IsRead at image core from task rest trail left after

-- the reading of n blocks of these subtrees leaves these, with this trail
unfoldable pub Leaves : Layout → Image → Core3 → ℕ → List Task → Trail → ℕ → List Task → Trail → Type 0
Leaves at image core from tasks trail zero left after = (left ≡ tasks) × (after ≡ trail)
Leaves at image core from tasks trail (suc n) left after = IsNext at image core from (Leaves at image core from tasks trail n) left after

-- so many blocks of these subtrees are read, each of them sound
pub record Reaches (at : Layout) (image : Image) (core : Core3) (from : ℕ) (tasks : List Task) (trail : Trail) (left : List Task) (after : Trail) : Type 0 where
  pub count : ℕ
  pub leaves : Leaves at image core from tasks trail count left after

-- the whole walk of a btree from an offset on
unfoldable pub walk_all : Layout → Image → Core3 → Fork → ℕ → Result Trail Trail
walk_all at image core fork from = walk_tasks at image core from (first_tasks core fork from) start

-- what the code keeps of a walk, as a trail
abbrev pub last_or : LastRead → Option Last
last_or r = if r.known then Some (record { block = r.block; right = r.right }) else None

abbrev pub unread : LastRead
unread = record { known = false; block = 0; right = 0 }

abbrev pub last_in : List LastRead → ℕ → Option Last
last_in lasts level = last_or (get_or lasts level unread)

abbrev pub block_of : BlockRead → TreeBlock
block_of b = record { block = b.block; before = b.before }

-- a subtree's block is given, where no earlier piece has read it
abbrev pub blocks_given : ℕ → Task → Seen → List TreeBlock
blocks_given from task seen =
    if is_resumed from (last_in seen.lasts task.level) task.key then map block_of seen.blocks.items
    else map block_of seen.blocks.items ++ record { block = task.block; before = length seen.mappings.items } ∷ []

-- a subtree's block is sound beside those that were read last
abbrev pub is_task_sound : Layout → Core3 → ℕ → Task → List LastRead → ℕ × ℕ → List ℕ → Bool
is_task_sound at core from task lasts place bytes = is_sound_from at core from task.level (last_in lasts task.level) (entry_of task) place bytes

abbrev pub trail_of : Seen → Trail
trail_of seen = record { mappings = seen.mappings.items; blocks = map block_of seen.blocks.items; last = last_in seen.lasts }
