-- Between two edits of one event: the trees that are edited, by their roots in memory, over the joined blocks.
use Rattle.std.specs.Prelude.{◌≡◌, ℕ, ◌≤◌, ◌⊎◌, List, [], ◌∷◌, ◌++◌, Ok}
use Rattle.geom.specs.Layout.{Layout, device_block_of}
use Rattle.sblock.specs.declared.kind.Kind.{Kind}
use Rattle.sblock.specs.declared.kind.Kind.TheVariants.{Bno, Cnt, Rmap, Refc, Ino, Fino}
use Rattle.tree_defs.specs.Sites.{site_of, group_blocks}
use Rattle.tree_defs.specs.Tree.{read_tree}
use Rattle.tree_defs.specs.Lists.{times}
use Rattle.fs_state.specs.Apart.{In}
use Rattle.fs_state.specs.Kinds.{RecOf, form_of, Image}

-- a tree as it stands: its root and levels, and what is read of it
pub record Now (k : Kind) : Type 0 where
  pub root : ℕ
  pub levels : ℕ
  pub recs : List (RecOf k)
  pub blocks : List ℕ

abbrev pub number_of : Kind → ℕ
number_of Bno = 0
number_of Cnt = 1
number_of Rmap = 2
number_of Refc = 3
number_of Ino = 4
number_of Fino = 5

abbrev pub Among : Kind → List Kind → Type 0
Among k [] = ⊥
Among k (j ∷ js) = (j ≡ k) ⊎ Among k js

-- no kind stands twice
abbrev pub Distinct : List Kind → Type 0
Distinct [] = Unit {0}
Distinct (k ∷ ks) = (Among k ks → ⊥) × Distinct ks

-- the blocks of these trees and of the list
abbrev pub held : List Kind → ((k : Kind) → Now k) → List ℕ → List ℕ
held [] now list = list
held (k ∷ ks) now list = (now k).blocks ++ held ks now list

-- each of these trees is read so, and no block is in two places
pub record Edits (at : Layout) (image : Image) (g : ℕ) (ks : List Kind) (now : (k : Kind) → Now k) (list : List ℕ) : Type 0 where
  pub reads : (k : Kind) → Among k ks → read_tree (form_of k) (site_of at g) (group_blocks (site_of at g) image) (now k).root (now k).levels ≡ Ok ((now k).recs, (now k).blocks)
  pub once : (p : ℕ) → times p (held ks now list) ≤ 1

-- what an edit of one kind promises: the tree is read again, it wrote blocks of its own and of the list alone,
-- and none came or went
pub record EditsOne (at : Layout) (image image' : Image) (g : ℕ) (k : Kind) (old new : Now k) (list list' : List ℕ) : Type 0 where
  pub reads : read_tree (form_of k) (site_of at g) (group_blocks (site_of at g) image') new.root new.levels ≡ Ok (new.recs, new.blocks)
  pub writes : (p : ℕ) → (image' (device_block_of at g p) ≡ image (device_block_of at g p)) ⊎ In p (old.blocks ++ list)
  pub moved : (p : ℕ) → times p (new.blocks ++ list') ≡ times p (old.blocks ++ list)

abbrev pub EditLaw : Type 0
EditLaw = (at : Layout) (image image' : Image) (g : ℕ) (ks : List Kind) (k : Kind) (now now' : (j : Kind) → Now j) (list list' : List ℕ) → Distinct ks → Among k ks → ((j : Kind) → (j ≡ k → ⊥) → now' j ≡ now j) → Edits at image g ks now list → EditsOne at image image' g k (now k) (now' k) list list' → Edits at image' g ks now' list'
