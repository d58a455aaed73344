-- Pieces that are put one list after the other.
use Rattle.std.proofs.Common.{◌≡◌, ℕ, Bool, List, ◌∷◌, ◌++◌, map, refl, sym, subst, ◌∙◌, ap, append_assoc}
use Rattle.std.specs.Prelude.{Option}
use Rattle.block_reap.specs.declared.runs.LimboRun.{LimboRun}
use Rattle.fs_model.specs.declared.claim.Claim.TheVariants.{Heads, List as FreeList}
use Rattle.geom.specs.declared.geometry.Run3.{Run3}
use Rattle.group_trees.specs.Metadata.{block_piece, chunk_piece, log_pieces, tree_pieces}
use Rattle.rmap_recs.specs.Owners.{number_of}
use Rattle.rmap_recs.specs.declared.owner.Owner.TheVariants.{Fs, Ag}
use Rattle.sblock.specs.declared.kind.Kind.{Kind}
use Rattle.sblock.specs.declared.kind.Kind.TheVariants.{Bno, Cnt, Rmap, Refc, Ino, Fino}
use Rattle.unit_plan.specs.declared.piece.Piece.{Piece}
use Rattle.core_units.specs.Claims.{group_pieces, limbo_piece, rmap_pieces}

put_on : {A : Type 0} (p front next q r : List A) → q ≡ p ++ front → r ≡ q ++ next → r ≡ p ++ (front ++ next)
put_on p front next q r e f = f ∙ ap (λ (l : List _). l ++ next) e ∙ append_assoc p front next

pub group_put : (p a b c d e f h i j k : List Piece) (log : Option Run3) (g : ℕ) (list : List ℕ) (with_rmap : Bool) (blocks : Kind → List ℕ) (limbo : List LimboRun) (chunks : List ℕ)
    → a ≡ p ++ block_piece Heads (number_of Fs) 0 ∷ log_pieces log g → b ≡ a ++ map (block_piece FreeList (number_of Ag)) list
    → c ≡ b ++ tree_pieces blocks Bno → d ≡ c ++ tree_pieces blocks Cnt → e ≡ d ++ rmap_pieces with_rmap blocks
    → f ≡ e ++ tree_pieces blocks Refc → h ≡ f ++ tree_pieces blocks Ino → i ≡ h ++ tree_pieces blocks Fino
    → j ≡ i ++ map limbo_piece limbo → k ≡ j ++ map chunk_piece chunks
    → k ≡ p ++ group_pieces log g list with_rmap blocks limbo chunks
unfolding group_pieces
group_put p a b c d e f h i j k log g list with_rmap blocks limbo chunks sa sb sc sd se sf sh si sj sk =
    put_on p _ _ j k (put_on p _ _ i j (put_on p _ _ h i (put_on p _ _ f h (put_on p _ _ e f (put_on p _ _ d e (put_on p _ _ c d (put_on p _ _ b c (put_on p _ _ a b sa sb) sc) sd) se) sf) sh) si) sj) sk
