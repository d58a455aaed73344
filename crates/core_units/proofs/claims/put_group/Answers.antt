use Rattle.std.proofs.Common.{◌≡◌, ◌∙◌, ℕ, ◌++◌, map, ap}
use Rattle.std.proofs.lemmas.Result.{on_ok_weaker}
use Rattle.fs_model.specs.declared.claim.Claim.TheVariants.{List as FreeList}
use Rattle.group_trees.specs.Group.{tree_blocks}
use Rattle.group_trees.specs.Metadata.{block_piece, chunk_piece}
use Rattle.unit_plan.specs.Sets.{pieces_of}
use Rattle.core_units.proofs.ClaimsLemmas.{group_put}
use Rattle.core_units.proofs.claims.put_group.Goals as goal

pub returns : goal.returns
returns c =
    on_ok_weaker c.put_chunks.result
    (λ (is : pieces_of c.put_chunks.new.set ≡ pieces_of c.put_limbo.new.set ++ map chunk_piece c.args.chunks.now).
    group_put (pieces_of c.args.set.now) (pieces_of c.put_fixed.new.set) (pieces_of c.put_blocks.new.set) (pieces_of c.put_tree.new.set) (pieces_of c.put_tree-2.new.set) (pieces_of c.put_rmap.new.set) (pieces_of c.put_tree-3.new.set) (pieces_of c.put_tree-4.new.set) (pieces_of c.put_tree-5.new.set) (pieces_of c.put_limbo.new.set) (pieces_of c.put_chunks.new.set)
    c.args.log c.args.g c.args.list.now c.args.with_rmap (tree_blocks c.args.trees.now) c.args.limbo.now c.args.chunks.now
    c.in_ok-put_fixed.ensures (c.in_ok-put_blocks.ensures ∙ ap (λ (o : ℕ). pieces_of c.put_fixed.new.set ++ map (block_piece FreeList o) c.args.list.now) c.number.ensures.value)
    c.in_ok-put_tree.ensures c.in_ok-put_tree-2.ensures c.in_ok-put_rmap.ensures c.in_ok-put_tree-3.ensures c.in_ok-put_tree-4.ensures c.in_ok-put_tree-5.ensures c.in_ok-put_limbo.ensures is)
    c.put_chunks.ensures
