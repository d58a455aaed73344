-- A piece of a fork without a fault.
use Rattle.std.specs.Prelude.{◌≡◌, List, [], ◌∷◌, map, ⊤, ◌⊎◌}
use Rattle.geom.specs.Layout.{Layout}
use Rattle.dinode_core.specs.declared.inode.Core3.{Core3}
use Rattle.dinode_core.specs.declared.mapping.Fork.{Fork}
use Rattle.dinode_core.specs.ForkTree.{Image, met_of}
use Rattle.fork_read.specs.declared.fault.ForkPiece.{ForkPiece}

-- it is one of these
abbrev pub Has : {A : Type 0} → A → List A → Type 0
Has x [] = ⊥
Has x (y ∷ ys) = (x ≡ y) ⊎ Has x ys

-- this holds of each of these
abbrev pub Each : {A : Type 0} → (A → Type 0) → List A → Type 0
Each P [] = ⊤
Each P (x ∷ xs) = P x × Each P xs

-- its mappings are the fork's, and its blocks those of the fork's btree
pub record IsPart (at : Layout) (image : Image) (core : Core3) (fork : Fork) (piece : ForkPiece) : Type 0 where
  pub mappings : Each (λ m. Has m (met_of at image core fork).mappings) piece.mappings.items
  pub tree_blocks : Each (λ b. Has b (map (λ b. b.block) (met_of at image core fork).blocks)) piece.tree_blocks.items
