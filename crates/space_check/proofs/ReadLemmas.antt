-- A tree that was walked, as it is read.
use Rattle.std.proofs.Common.{◌≡◌, ℕ, ◌+◌, List, Result, Ok, Err, IfOk}
use Rattle.sblock.specs.Form.{Form}
use Rattle.sblock.specs.declared.block.Bounds.{Bounds}
use Rattle.geom.specs.Layout.{Layout}
use Rattle.tree_blocks.specs.Meets.{Refuses}
use Rattle.tree_blocks.specs.declared.tree.TreeRead.{TreeRead}
use Rattle.tree_blocks.specs.declared.tree.WalkFault.{WalkFault}
use Rattle.tree_defs.specs.Sites.{site_of, group_blocks}
use Rattle.tree_defs.specs.Tree.{read_tree}
use Rattle.tree_defs.specs.Walked.{walked}
use Rattle.tree_walk.specs.Meets.{CountedBy, MeetsTree}
use Rattle.space_check.specs.Faults.{Reading}
use Rattle.space_check.specs.Groups.{blocks_read, tree_of}
use Rattle.space_check.specs.Progress.{HasRead}
use Rattle.space_check.specs.Reads.{IsBad, IsReading, IsSound}
use Rattle.space_check.specs.declared.halt.Halt.{Halt}
use Rattle.space_check.specs.declared.reads.IndexRead.{IndexRead}
use Rattle.space_check.specs.declared.reads.IndexRead.TheVariants.{Whole, Bad}

pub whole_read : {R K : Type 0} (at : Layout) (image : ℕ → List ℕ) (g : ℕ) (form : Form R K) (root levels : ℕ) (read : TreeRead R) → MeetsTree (read_tree form (site_of at g) (group_blocks (site_of at g) image) root levels) (Ok read) → IsReading (tree_of at image g form root levels) (Ok (Whole read))
unfolding tree_of
whole_read at image g form root levels read h = h

pub not_read : {R K : Type 0} (at : Layout) (image : ℕ → List ℕ) (g : ℕ) (form : Form R K) (root levels : ℕ) (fault : WalkFault) (result : Result (IndexRead R) Halt) → Refuses (read_tree form (site_of at g) (group_blocks (site_of at g) image) root levels) fault → ((read : Reading R) → Refuses read fault → IsReading read result) → IsReading (tree_of at image g form root levels) result
unfolding tree_of
not_read at image g form root levels fault result h so = so _ h

pub bad_is_sound : {R K : Type 0} (form : Form R K) (bounds : Bounds) (result : Result (IndexRead R) Halt) → IfOk result IsBad → IfOk result (IsSound form bounds)
bad_is_sound form bounds (Ok (Whole read)) bad = absurd bad
bad_is_sound form bounds (Ok (Bad block fault)) bad = tt
bad_is_sound form bounds (Err halt) bad = tt

-- how many blocks were read for it
pub whole_counted : {T R K : Type 0} (at : Layout) (image : ℕ → List ℕ) (g : ℕ) (form : Form R K) (root levels before after : ℕ) (done : T) → after ≡ before + walked form (site_of at g) (group_blocks (site_of at g) image) root levels → HasRead before (blocks_read at image g form root levels) after (Ok done)
unfolding blocks_read
whole_counted at image g form root levels before after done h = h

pub fault_counted : {T R K : Type 0} (at : Layout) (image : ℕ → List ℕ) (g : ℕ) (form : Form R K) (root levels before after : ℕ) (fault : WalkFault) (result : Result T Halt) → CountedBy before (walked form (site_of at g) (group_blocks (site_of at g) image) root levels) after fault → ((b n a : ℕ) → CountedBy b n a fault → HasRead b n a result) → HasRead before (blocks_read at image g form root levels) after result
unfolding blocks_read
fault_counted at image g form root levels before after fault result h so = so before _ after h
