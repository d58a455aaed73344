-- Where no piece can begin, and what is read behind that place.
use Rattle.std.specs.Prelude.{◌≡◌, ℕ, suc, ◌<◌, ◌≤◌, Bool, true, false, List, [], ◌∷◌, None, ◌⊎◌}
use Rattle.geom.specs.Layout.{Layout, split_of}
use Rattle.dinode_core.specs.declared.inode.Core3.{Core3}
use Rattle.dinode_core.specs.declared.mapping.Mapping.{Mapping}
use Rattle.dinode_core.specs.ForkTree.{Image, Trail}
use Rattle.fork_read.specs.declared.tasks.Task.{Task}
use Rattle.fork_read.specs.declared.walk.Stop.{Stop}
use Rattle.fork_read.specs.Answers.{IsReached, Never, given_of, may_stop}
use Rattle.fork_read.specs.Walk.{IsNext, Leaves, Reaches, entry_of, read_at}

-- a piece may end before the first of these subtrees
abbrev pub may_end : ℕ → List Mapping → List Task → Bool
may_end from ms [] = true
may_end from ms (x ∷ xs) = may_stop from ms x xs

-- n blocks were read, the last of them a leaf
pub record IsBorder (at : Layout) (image : Image) (core : Core3) (from : ℕ) (tasks : List Task) (trail : Trail) (n : ℕ) (left : List Task) (after : Trail) : Type 0 where
  pub before : ℕ
  pub count : n ≡ suc before
  pub read : IsNext at image core from (Leaves at image core from tasks trail before) left after
  pub leaf : read.task.level ≡ 0

-- the walk came to a leaf's end with 90 blocks, or with more than 261 mappings of the piece
pub record EndsLeaf (at : Layout) (image : Image) (core : Core3) (from : ℕ) (tasks : List Task) (trail : Trail) (left : List Task) (after : Trail) : Type 0 where
  pub count : ℕ
  pub border : IsBorder at image core from tasks trail count left after
  pub late : (90 ≤ count) ⊎ (261 < given_of from after.mappings)

-- the walk came to these subtrees with 90 blocks, or with more than 261 mappings of the piece, which may not end there
pub record IsStuck (at : Layout) (image : Image) (core : Core3) (from : ℕ) (tasks : List Task) (trail : Trail) (left : List Task) (after : Trail) : Type 0 where
  pub count : ℕ
  pub border : IsBorder at image core from tasks trail count left after
  pub late : (90 ≤ count) ⊎ (261 < given_of from after.mappings)
  pub stays : may_end from after.mappings left ≡ false

-- the walk came to a subtree whose block is bad
pub record IsBroken (at : Layout) (image : Image) (core : Core3) (from : ℕ) (tasks : List Task) (trail : Trail) (left : List Task) (after : Trail) : Type 0 where
  pub task : Task
  pub rest : List Task
  pub reached : Reaches at image core from tasks trail (task ∷ rest) after
  pub bad : read_at at image core from task.level (after.last task.level) (entry_of task) (split_of at task.block) ≡ None

-- from such a place 28 blocks more were read
pub record IsBehind (at : Layout) (image : Image) (core : Core3) (from : ℕ) (tasks : List Task) (trail : Trail) (left : List Task) (after : Trail) : Type 0 where
  pub rest : List Task
  pub met : Trail
  pub stuck : IsStuck at image core from tasks trail rest met
  pub read : Leaves at image core from rest met 28 left after

-- from such a place all that was left was read
pub record IsFallen (at : Layout) (image : Image) (core : Core3) (from : ℕ) (tasks : List Task) (trail : Trail) (left : List Task) (after : Trail) : Type 0 where
  pub rest : List Task
  pub met : Trail
  pub stuck : IsStuck at image core from tasks trail rest met
  pub read : Reaches at image core from rest met left after

-- how far a walk came from these subtrees on that ended so
abbrev pub HasCome : Layout → Image → Core3 → ℕ → List Task → Trail → Stop → List Task → Trail → Type 0
HasCome at image core from tasks trail stop left after =
    IsReached (IsBroken at image core from tasks trail) (Reaches at image core from tasks trail) (EndsLeaf at image core from tasks trail) (IsBehind at image core from tasks trail) (IsFallen at image core from tasks trail) stop left after

-- how far a walk came until a piece ends
abbrev pub HasGone : Layout → Image → Core3 → ℕ → List Task → Trail → Stop → List Task → Trail → Type 0
HasGone at image core from tasks trail stop left after =
    IsReached (IsBroken at image core from tasks trail) (Reaches at image core from tasks trail) (EndsLeaf at image core from tasks trail) (IsStuck at image core from tasks trail) Never stop left after

-- how far a walk came behind a place where no piece can begin
abbrev pub HasSought : Layout → Image → Core3 → ℕ → List Task → Trail → Stop → List Task → Trail → Type 0
HasSought at image core from tasks trail stop left after =
    IsReached (IsBroken at image core from tasks trail) Never Never (Leaves at image core from tasks trail 28) (Reaches at image core from tasks trail) stop left after
