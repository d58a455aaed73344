-- How many blocks are read of a fork's btree, piece by piece?
use Rattle.std.specs.Prelude.{◌≡◌, ℕ, ◌+◌, ◌*◌, ◌≤◌, ◌==◌, true, false, if◌then◌else◌, List, length, Some, ⊤}
use Rattle.geom.specs.Layout.{Layout}
use Rattle.dinode_core.specs.declared.inode.Core3.{Core3}
use Rattle.dinode_core.specs.declared.mapping.Fork.{Fork}
use Rattle.dinode_core.specs.Inline.{root_level}
use Rattle.dinode_core.specs.Shape.{area_of}
use Rattle.dinode_core.specs.ForkTree.{Image, Trail, is_tree, met_of, start}
use Rattle.fork_read.specs.declared.fault.ForkPiece.{ForkPiece}
use Rattle.fork_read.specs.declared.tasks.Task.{Task}
use Rattle.fork_read.specs.declared.walk.Stop.{Stop}
use Rattle.fork_read.specs.Answers.{IsReached, Way}
use Rattle.fork_read.specs.First.{most_met}
use Rattle.fork_read.specs.Walk.{Leaves, first_tasks}
use Rattle.fork_read.specs.Whole.{Follow, all_blocks}

-- the blocks of the way down to where a piece begins, which an earlier piece has read: the first piece has none
abbrev pub way_down : Core3 → Fork → ℕ → ℕ
way_down core fork from = if from == 0 then 0 else root_level (area_of core fork)

-- so many blocks of these subtrees were read, each of them sound, and one more at most
pub record HasSpent (at : Layout) (image : Image) (core : Core3) (from : ℕ) (tasks : List Task) (trail : Trail) (before now : ℕ) : Type 0 where
  pub count : ℕ
  pub left : List Task
  pub after : Trail
  pub leaves : Leaves at image core from tasks trail count left after
  pub few : now ≤ before + count + 1

-- so many were read until these are left and this was met, and no more
pub record HasPaid (at : Layout) (image : Image) (core : Core3) (from : ℕ) (tasks : List Task) (trail : Trail) (before now : ℕ) (left : List Task) (after : Trail) : Type 0 where
  pub count : ℕ
  pub leaves : Leaves at image core from tasks trail count left after
  pub few : now ≤ before + count

-- it may have read more
abbrev pub Anyhow : Way
Anyhow left after = ⊤

-- so it is for each way to end but at a bad block
abbrev pub UnlessBad : Way → Stop → Way
UnlessBad P stop left after = IsReached Anyhow P P P P stop left after

-- a walk that didn't come to a bad block has read no other blocks than those that it met
abbrev pub IsPaid : Layout → Image → Core3 → ℕ → List Task → Trail → ℕ → ℕ → Stop → List Task → Trail → Type 0
IsPaid at image core from tasks trail before now stop left after = UnlessBad (HasPaid at image core from tasks trail before now) stop left after

-- a piece from the offset on has read no other blocks of the fork's btree: none where it has none
abbrev pub IsSpent : Layout → Image → Core3 → Fork → ℕ → ℕ → ℕ → Type 0
IsSpent at image core fork from before now =
    (is_tree core fork ≡ false → now ≡ before) × (is_tree core fork ≡ true → HasSpent at image core from (first_tasks core fork from) start before now)

-- a piece that came has read its own blocks, and the way down to where it begins
abbrev pub IsOwn : Core3 → Fork → ℕ → ℕ → ℕ → ForkPiece → Type 0
IsOwn core fork from before now piece = now ≤ before + length piece.tree_blocks.items + way_down core fork from

-- these pieces from 0 on have two blocks each at least, all blocks of the fork at most, and with those that were read
-- of the next one all blocks that are met of it, a bad one, and the way down
pub record AreFew (at : Layout) (image : Image) (core : Core3) (fork : Fork) (pieces : List ForkPiece) (from before now : ℕ) : Type 0 where
  pub two : 2 * length pieces ≤ length (all_blocks pieces)
  pub blocks : length (all_blocks pieces) ≤ length (met_of at image core fork).blocks
  pub most : now + length (all_blocks pieces) ≤ before + most_met at image core fork + way_down core fork from

-- pieces from 0 on read each block once, and a way down again for each but the first
abbrev pub PiecesAreFew : Layout → Core3 → Fork → Type 0
PiecesAreFew at core fork =
    (image : Image) (pieces : List ForkPiece) (from before now : ℕ) → Follow at image core fork (Some 0) pieces (Some from)
    → IsSpent at image core fork from before now → AreFew at image core fork pieces from before now
