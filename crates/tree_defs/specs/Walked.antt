-- How many blocks a walk reads: all of a readable tree's, or those up to the first fault, with the
-- block where it is.
use Rattle.std.specs.Prelude.{◌≡◌, ℕ, zero, suc, ◌+◌, ◌&&◌, nat_le, nat_lt, Bool, true, false, if◌then◌else◌, List, [], ◌∷◌, length, Option, Some, None, Ok, Err}
use Rattle.sblock.specs.Blocks.{numrecs}
use Rattle.sblock.specs.Form.{Form}
use Rattle.sblock.specs.declared.block.BlockFault.{BlockFault}
use Rattle.tree_defs.specs.Tree.{Trail, Entry, Read, agrees, noted, fresh, fault_here, entries_from, read_node, read_tree, top_of}
use Rattle.tree_defs.specs.declared.site.Site.{Site}

-- what is read below a block that passes its tests
abbrev pub unless_fault : Option BlockFault → ℕ → ℕ
unless_fault (Some fault) n = 0
unless_fault None n = n

module _ {R K : Type 0} (form : Form R K) where
  -- the subtrees of these entries one after another, up to the first fault or the first entry
  -- whose keys aren't its subtree's
  unfoldable pub walked_children : (ℕ → Trail R → Read R K) → (ℕ → Trail R → ℕ) → List (Entry K) → Trail R → ℕ
  walked_children below count [] t = 0
  walked_children below count (e ∷ es) t =
      count e.child t + elim (below e.child t) [
        | Err fault ↦ 0
        | Ok read ↦ if agrees form e read.1 then walked_children below count es read.0 else 0
      ]

  -- the subtree of a block
  unfoldable pub walked_node : Site → (ℕ → List ℕ) → ℕ → Bool → ℕ → Trail R → ℕ
  walked_node site m zero root p t = 1
  walked_node site m (suc level) root p t =
      suc (unless_fault (fault_here form site t (suc level) root p (m p)) (walked_children (read_node form site m level false) (walked_node site m level false) (entries_from form (m p) 0 (numrecs (m p))) (noted t (suc level) p (m p))))

  -- a tree with this root and so many levels
  unfoldable pub walked : Site → (ℕ → List ℕ) → ℕ → ℕ → ℕ
  walked site m root levels =
      if nat_le 1 root && nat_lt root site.bounds.length then walked_node site m (top_of levels) true root fresh else 0

  -- of a readable tree each block is read once
  abbrev pub CountsBlocks : Type 0
  CountsBlocks = (site : Site) (m : ℕ → List ℕ) (root levels : ℕ) (recs : List R) (blocks : List ℕ) → read_tree form site m root levels ≡ Ok (recs, blocks) → walked site m root levels ≡ length blocks
