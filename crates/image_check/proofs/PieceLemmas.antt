-- What the pass over the forks put for a group is what the plan of its reverse mappings takes.
use Rattle.std.proofs.Common.{◌≡◌, ℕ, List, [], ◌∷◌, ◌++◌, map, refl, sym, subst, ◌∙◌, Option, Some, None}
use Rattle.std.specs.Prelude.{flat_map}
use Rattle.std.specs.List.Sorted.{IsPermutation}
use Rattle.std.proofs.lemmas.List.Sorted.{IsPermutation-refl}
use Rattle.dinode_core.specs.declared.mapping.Fork.{Fork}
use Rattle.dinode_core.specs.declared.mapping.Fork.TheVariants as forks
use Rattle.dinode_core.specs.declared.mapping.Mapping.{Mapping}
use Rattle.fork_pass.specs.Passed.{AreForkClaims, units_at}
use Rattle.fork_pass.specs.Pieces.{block_piece, block_pieces, claim_of, flag_of, fork_pieces as passed_pieces, inode_pieces, mapping_piece, mapping_pieces, piece_where}
use Rattle.fork_pass.specs.Sets.{pieces_at}
use Rattle.fs_state.specs.Chunks.{inodes}
use Rattle.fs_state.specs.Claims.{fork_of}
use Rattle.fs_state.specs.Kinds.{Image}
use Rattle.fs_state.specs.State.{State}
use Rattle.geom.specs.Layout.{Layout, split_of}
use Rattle.inode_pass.specs.declared.note.GroupInodes.{GroupInodes}
use Rattle.mapping_check.specs.Mapped.{HasForks}
use Rattle.unit_plan.specs.Group.{fork_pieces, piece_at, pieces_of_inode, tree_piece_at, tree_pieces}
use Rattle.unit_plan.specs.Group.{mapping_pieces as planned_mappings}
use Rattle.unit_plan.specs.declared.claims.ClaimSet.{ClaimSet}
use Rattle.unit_plan.specs.declared.piece.Piece.{Piece}
use Rattle.image_check.specs.Mappings.{IsReady}

map_where : (g : ℕ) (f : Fork) (ino : ℕ) (m : Mapping) (o : Option (ℕ × ℕ)) → piece_where g (mapping_piece f ino m) o ≡ piece_at g (claim_of f ino) ino (flag_of f) m o
map_where g f ino m None = refl
map_where g f ino m (Some p) = refl

block_where : (g : ℕ) (f : Fork) (ino : ℕ) (o : Option (ℕ × ℕ)) → piece_where g (block_piece f ino) o ≡ tree_piece_at g ino (flag_of f) o
block_where g f ino None = refl
block_where g f ino (Some p) = refl

maps_are : (at : Layout) (g : ℕ) (f : Fork) (ino : ℕ) (ms : List Mapping) → mapping_pieces at f ino ms g ≡ planned_mappings at g (claim_of f ino) ino (flag_of f) ms
maps_are at g f ino [] = refl
maps_are at g f ino (m ∷ ms) = let one = map_where g f ino m (split_of at m.block) in let rest = maps_are at g f ino ms in λ i. one i ++ rest i

blocks_are : (at : Layout) (g : ℕ) (f : Fork) (ino : ℕ) (bs : List ℕ) → block_pieces at f ino bs g ≡ tree_pieces at g ino (flag_of f) bs
blocks_are at g f ino [] = refl
blocks_are at g f ino (b ∷ bs) = let one = block_where g f ino (split_of at b) in let rest = blocks_are at g f ino bs in λ i. one i ++ rest i

module _ (a : State) (g : ℕ) where
  inode_is : (ino : ℕ) → inode_pieces a g ino ≡ pieces_of_inode a g ino
  inode_is ino =
      let at = a.geometry in
      let mapped = maps_are at g forks.Data ino (fork_of a ino forks.Data).mappings in
      let named = maps_are at g forks.Attr ino (fork_of a ino forks.Attr).mappings in
      let data_tree = blocks_are at g forks.Data ino (map (λ b. b.block) (fork_of a ino forks.Data).blocks) in
      let attr_tree = blocks_are at g forks.Attr ino (map (λ b. b.block) (fork_of a ino forks.Attr).blocks) in
      λ i. mapped i ++ (named i ++ (data_tree i ++ attr_tree i))

  all_are : (inos : List ℕ) → flat_map (inode_pieces a g) inos ≡ fork_pieces a g inos
  all_are [] = refl
  all_are (ino ∷ inos) = let one = inode_is ino in let rest = all_are inos in λ i. one i ++ rest i

  pub pieces_are : passed_pieces a g ≡ fork_pieces a g (inodes a)
  unfolding passed_pieces
  pieces_are = all_are (inodes a)

  -- the set of the group, up to order
  pub set_is : (sets : List ClaimSet) → AreForkClaims a sets → IsPermutation (pieces_at sets g) (fork_pieces a g (inodes a))
  set_is sets claims = subst (λ (ps : List Piece). IsPermutation (pieces_at sets g) ps) (claims.each g ∙ pieces_are) (IsPermutation-refl (pieces_at sets g))

-- a group's chunks and set, where the set is still as it was
pub ready_here : (at : Layout) (image : Image) (g : ℕ) (inodes : List GroupInodes) (old now : List ClaimSet) → pieces_at now g ≡ pieces_at old g → IsReady at image inodes old g → IsReady at image inodes now g
ready_here at image g inodes old now same ready = subst (λ (ps : List Piece). HasForks at image g (units_at inodes g) ps) (sym same) ready
