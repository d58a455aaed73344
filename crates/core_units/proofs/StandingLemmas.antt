-- One leaf more of a tree, beside the state.
use Rattle.std.proofs.Common.{◌≡◌, ℕ, Bool, true, false, List, [], Option, Some, None, Result, Ok, Err, refl, sym, subst, ◌∙◌, ap, true≢false}
use Rattle.std.specs.Prelude.{IfOk, is_ok}
use Rattle.fs_state.specs.Kinds.{Image}
use Rattle.fs_state.specs.Read.{known}
use Rattle.fs_state.specs.State.{Bad as Known, Readable, Reading}
use Rattle.geom.specs.Layout.{Layout}
use Rattle.group_trees.specs.Trees.{tree_claimed, tree_walked}
use Rattle.sblock.specs.Form.{Form}
use Rattle.sblock.specs.declared.block.Bounds.{Bounds}
use Rattle.tree_walk.specs.Trails.{AreSound}
use Rattle.sblock.specs.declared.block.BlockFault.{BlockFault}
use Rattle.tree_blocks.specs.declared.tree.TreeRead.{TreeRead}
use Rattle.tree_defs.specs.Sites.{group_blocks, site_of}
use Rattle.tree_defs.specs.Tree.{read_tree}
use Rattle.core_units.specs.Front.{GathersLeaf, GoesOn}
use Rattle.core_units.proofs.FrontLemmas.{goes_from_none}
use Rattle.core_units.specs.Standing.{IsBegun, IsFirm, IsLeafMade, tree_in_state}
use Rattle.core_units.specs.declared.leaf.Leaf.{Leaf}
use Rattle.group_trees.specs.declared.reads.TreeSeen.TheVariants as seen
use Rattle.inode_pass.specs.declared.stop.PassStop.{PassStop}
use Rattle.core_units.specs.declared.leaf.Leaf.TheVariants.{More, Last, Bad}

is_read : {R : Type 0} (r : Result (List R × List ℕ) (ℕ × BlockFault)) → is_ok r ≡ true → (recs : List R) × (blocks : List ℕ) × (r ≡ Ok (recs, blocks))
is_read (Ok read) e = (read.0, read.1, refl)
is_read (Err fault) e = absurd (true≢false (sym e))

module _ {R K : Type 0} (form : Form R K) (at : Layout) (image : Image) (g root levels : ℕ) (bad : Option Known) (firm : IsFirm form at image g root levels bad) (none : bad ≡ None) where
  -- what the walk reads
  walked : (recs : List R) × (blocks : List ℕ) × (tree_walked form at image g root levels ≡ Ok (recs, blocks))
  walked = is_read (tree_walked form at image g root levels) (firm none)

  abbrev here : List R → List ℕ → Type 0
  here = GoesOn form (site_of at g) (group_blocks (site_of at g) image) root levels

  -- a step of the reading of a tree that isn't known to be bad
  pub leaf_made : (old new : TreeRead R) → here old.recs.items old.blocks.items → (leaf : Leaf) → GathersLeaf form (site_of at g) (group_blocks (site_of at g) image) root levels old new (Ok leaf) → IsLeafMade form at image g root levels bad (seen.Whole new) leaf
  unfolding tree_walked
  leaf_made old new on More gathers = (none, gathers walked.0 walked.1 walked.2 on)
  leaf_made old new on Last gathers =
      let same = gathers walked.0 walked.1 walked.2 on in
      let state : tree_in_state form at image g root levels bad ≡ Readable walked.0 walked.1 = ap (λ (b : Option Known). known b (tree_walked form at image g root levels) (tree_claimed form at image g root levels)) none ∙ ap (λ (r : Result (List R × List ℕ) (ℕ × BlockFault)). known None r (tree_claimed form at image g root levels)) walked.2 in
      ap (λ (l : List R). Readable l new.blocks.items) same.0 ∙ ap (λ (l : List ℕ). Readable walked.0 l) same.1 ∙ sym state
  leaf_made old new on (Bad block fault) gathers = gathers walked.0 walked.1 walked.2 on

-- the same of an answer
pub seen_made : {R K : Type 0} (form : Form R K) (at : Layout) (image : Image) (g root levels : ℕ) (bad : Option Known) (old new : TreeRead R) (result : Result Leaf PassStop) → IsFirm form at image g root levels bad → IsBegun form at image g root levels bad (seen.Whole old) → GathersLeaf form (site_of at g) (group_blocks (site_of at g) image) root levels old new result → IfOk result (IsLeafMade form at image g root levels bad (seen.Whole new))
seen_made form at image g root levels bad old new (Ok leaf) firm begun gathers = leaf_made form at image g root levels bad firm begun.0 old new begun.1 leaf gathers
seen_made form at image g root levels bad old new (Err stop) firm begun gathers = tt

-- the same of the tree of these numbers
pub at_numbers : (P : ℕ → ℕ → ℕ → Type 0) (g g' r r' l l' : ℕ) → g ≡ g' → r ≡ r' → l ≡ l' → P g r l → P g' r' l'
at_numbers P g g' r r' l l' e f h p = subst (λ (x : ℕ). P g' r' x) h (subst (λ (x : ℕ). P g' x l) f (subst (λ (x : ℕ). P x r l) e p))

-- nothing is read of a tree that isn't known to be bad
pub nothing_read : {R K : Type 0} (form : Form R K) (at : Layout) (image : Image) (g root levels : ℕ) (recs : List R) (blocks : List ℕ) → recs ≡ [] → blocks ≡ [] → GoesOn form (site_of at g) (group_blocks (site_of at g) image) root levels recs blocks
nothing_read form at image g root levels recs blocks e f =
    let here = GoesOn form (site_of at g) (group_blocks (site_of at g) image) root levels in
    subst (λ (l : List _). here l blocks) (sym e) (subst (here []) (sym f) (goes_from_none form (site_of at g) (group_blocks (site_of at g) image) root levels))

pub nothing_sound : {R K : Type 0} (form : Form R K) (bounds : Bounds) (recs : List R) → recs ≡ [] → AreSound form bounds recs
nothing_sound form bounds recs e = subst (AreSound form bounds) (sym e) (record { rising = tt; inside = tt; supported = tt })
