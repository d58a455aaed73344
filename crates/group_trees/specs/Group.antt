-- The six btrees of a group, as the code has them, and what they are in the state that the image stands for.
use Rattle.std.specs.Prelude.{◌≡◌, ℕ, ◌+◌, ◌*◌, ◌≤◌, List, [], ◌∷◌, Option}
use Rattle.fs_state.specs.Chunks.{chunks}
use Rattle.fs_state.specs.Claims.{metadata_claims}
use Rattle.fs_state.specs.Contradiction.{first_overlap}
use Rattle.fs_model.specs.declared.claim.Evidence.{Evidence}
use Rattle.fs_state.specs.Kinds.{Image, heads_of}
use Rattle.fs_state.specs.State.{blocks_of}
use Rattle.geom.specs.Layout.{Layout, group_len_of}
use Rattle.ino_recs.specs.Chunks.{ino_form, fino_form}
use Rattle.inode_pass.specs.Units.{opened_state}
use Rattle.group_trees.specs.Trees.{FewBlocks, IsSound, reading_of}
use Rattle.group_trees.specs.declared.group.GroupTrees.{GroupTrees}
use Rattle.rmap_recs.specs.Rmap.{rmap_form}
use Rattle.sblock.specs.declared.kind.Kind.{Kind}
use Rattle.sblock.specs.declared.kind.Kind.TheVariants.{Bno, Cnt, Rmap, Refc, Ino, Fino}
use Rattle.tree_defs.specs.Sites.{bounds_of}
use Rattle.tree_walk.specs.Trails.{LieInside}

-- the blocks of each tree, or those that it still claims
abbrev pub tree_blocks : GroupTrees → Kind → List ℕ
tree_blocks trees Bno = blocks_of (reading_of trees.bno)
tree_blocks trees Cnt = blocks_of (reading_of trees.cnt)
tree_blocks trees Rmap = blocks_of (reading_of trees.rmap)
tree_blocks trees Refc = blocks_of (reading_of trees.refc)
tree_blocks trees Ino = blocks_of (reading_of trees.ino)
tree_blocks trees Fino = blocks_of (reading_of trees.fino)

abbrev pub first_kinds : List Kind
first_kinds = Bno ∷ Cnt ∷ Rmap ∷ []

abbrev pub last_kinds : List Kind
last_kinds = Refc ∷ Ino ∷ Fino ∷ []

-- each tree is that of the state
pub record AreTrees (at : Layout) (image : Image) (g : ℕ) (trees : GroupTrees) : Type 0 where
  pub bno : (((opened_state at image).group g).tree Bno).reading ≡ reading_of trees.bno
  pub cnt : (((opened_state at image).group g).tree Cnt).reading ≡ reading_of trees.cnt
  pub rmap : (((opened_state at image).group g).tree Rmap).reading ≡ reading_of trees.rmap
  pub refc : (((opened_state at image).group g).tree Refc).reading ≡ reading_of trees.refc
  pub ino : (((opened_state at image).group g).tree Ino).reading ≡ reading_of trees.ino
  pub fino : (((opened_state at image).group g).tree Fino).reading ≡ reading_of trees.fino
  pub few_rmap : FewBlocks (reading_of trees.rmap)
  pub few_ino : FewBlocks (reading_of trees.ino)
  pub few_fino : FewBlocks (reading_of trees.fino)

-- the records of those that are judged with the inodes rise, each in range, and each tree's blocks are the group's
pub record AreSoundTrees (at : Layout) (g : ℕ) (trees : GroupTrees) : Type 0 where
  pub rmap : IsSound rmap_form (bounds_of at g) trees.rmap
  pub ino : IsSound ino_form (bounds_of at g) trees.ino
  pub fino : IsSound fino_form (bounds_of at g) trees.fino
  pub inside : (k : Kind) → LieInside (group_len_of at g) (tree_blocks trees k)

-- the blocks of these chunks, by the numbers of their units, are the group's
abbrev pub AreInside : ℕ → List ℕ → Type 0
AreInside len [] = Unit {0}
AreInside len (u ∷ us) = (8 * u + 8 ≤ len) × AreInside len us

-- Where trees, free list and chunks are those of the state, this is the first overlap of the group's own metadata.
abbrev pub IsOverlapOf : Layout → Image → ℕ → (list : List ℕ) → GroupTrees → (us : List ℕ) → Option Evidence → Type 0
IsOverlapOf at image g list trees us found =
    AreTrees at image g trees → list ≡ (heads_of at image g).list → us ≡ chunks (opened_state at image) g
    → found ≡ first_overlap (opened_state at image) g (metadata_claims (opened_state at image) g)
