-- How many blocks were read of a group's trees.
use Rattle.std.proofs.Common.{◌≡◌, ℕ, ◌≤◌, ◌+◌, ◌*◌, arith, Err, ap, ◌∙◌}
use Rattle.fs_state.specs.Kinds.{Heads, Image, heads_of, level_of, root_of}
use Rattle.fs_state.specs.Read.{Read}
use Rattle.geom.specs.Layout.{Layout, group_len_of}
use Rattle.group_trees.specs.Counted.{claims_most, kind_most, tree_most, walk_most}
use Rattle.group_trees.specs.Trees.{tree_walked}
use Rattle.sblock.specs.Form.{Form}
use Rattle.sblock.specs.declared.block.BlockFault.{BlockFault}
use Rattle.sblock.specs.declared.kind.Kind.{Kind}
use Rattle.tree_blocks.specs.declared.tree.WalkFault.{WalkFault}
use Rattle.tree_blocks.specs.declared.tree.WalkFault.TheVariants.{Bad, Failed, Memory}
use Rattle.tree_defs.specs.Sites.{site_of, group_blocks}
use Rattle.tree_defs.specs.Walked.{walked}
use Rattle.tree_walk.specs.Meets.{CountedBy}

-- no more than the walk reads, whatever ended it
fault_most : (before n after : ℕ) (fault : WalkFault) → CountedBy before n after fault → after ≤ before + n
fault_most before n after (Bad block fault) h = omega (arith, h)
fault_most before n after Failed h = h
fault_most before n after Memory h = h

module _ {R K : Type 0} (form : Form R K) (at : Layout) (image : Image) (g root levels : ℕ) where
  pub whole_walk : (before after : ℕ) → after ≡ before + walked form (site_of at g) (group_blocks (site_of at g) image) root levels → after ≤ before + walk_most form at image g root levels
  unfolding walk_most
  whole_walk before after h = omega (arith, h)

  pub fault_walk : (before after : ℕ) (fault : WalkFault) → CountedBy before (walked form (site_of at g) (group_blocks (site_of at g) image) root levels) after fault → after ≤ before + walk_most form at image g root levels
  unfolding walk_most
  fault_walk before after fault h = fault_most before _ after fault h

  -- a walk alone
  pub walk_tree : (before after : ℕ) → after ≤ before + walk_most form at image g root levels → after ≤ before + tree_most form at image g root levels
  unfolding tree_most
  walk_tree before after h = omega (arith, h)

  -- a walk of a tree that can't be read, and then its claims
  pub claims_tree : (before mid after block : ℕ) (fault : BlockFault) → tree_walked form at image g root levels ≡ Err (block, fault) → mid ≤ before + walk_most form at image g root levels → after ≤ mid + 9 * group_len_of at g → after ≤ before + tree_most form at image g root levels
  unfolding tree_most
  claims_tree before mid after block fault is h k =
      let r : Read R = Err (block, fault) in
      let m : claims_most (group_len_of at g) (tree_walked form at image g root levels) ≡ claims_most (group_len_of at g) r = ap (claims_most (group_len_of at g)) is in
      omega (arith, m, h, k)

-- a tree that stands where the heads name it
pub tree_named : {R K : Type 0} (form : Form R K) (at : Layout) (image : Image) (g group root levels : ℕ) (kind : Kind) (h : Heads) → kind ≡ form.kind → group ≡ g → root ≡ root_of h kind → levels ≡ level_of h kind → h ≡ heads_of at image g → tree_most form at image group root levels ≡ kind_most form at image g
unfolding kind_most
tree_named form at image g group root levels kind h ki gi ri li hi =
    let rooted : root ≡ root_of (heads_of at image g) form.kind = ri ∙ ap (λ k. root_of h k) ki ∙ ap (λ x. root_of x form.kind) hi in
    let levelled : levels ≡ level_of (heads_of at image g) form.kind = li ∙ ap (λ k. level_of h k) ki ∙ ap (λ x. level_of x form.kind) hi in
    ap (λ x. tree_most form at image x root levels) gi
    ∙ ap (λ x. tree_most form at image g x levels) rooted
    ∙ ap (λ x. tree_most form at image g (root_of (heads_of at image g) form.kind) x) levelled
