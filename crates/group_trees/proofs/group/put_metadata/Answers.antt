use Rattle.std.proofs.Common.{◌≡◌, ◌∙◌, ℕ, ◌++◌, map, ap}
use Rattle.fs_model.specs.declared.claim.Claim.TheVariants.{List as FreeList}
use Rattle.std.proofs.lemmas.Result.{on_ok_weaker}
use Rattle.group_trees.proofs.MetadataLemmas.{all_put}
use Rattle.group_trees.specs.Group.{tree_blocks}
use Rattle.group_trees.specs.Metadata.{block_piece, chunk_piece}
use Rattle.unit_plan.specs.Sets.{pieces_of}
use Rattle.group_trees.proofs.group.put_metadata.Goals as goal

pub returns : goal.returns
returns c =
    on_ok_weaker c.put_chunks.result
    (λ (is : pieces_of c.put_chunks.new.set ≡ pieces_of c.put_other_trees.new.set ++ map chunk_piece c.args.chunks.now). all_put (pieces_of c.args.set.now) (pieces_of c.put_fixed.new.set) (pieces_of c.put_blocks.new.set) (pieces_of c.put_space_trees.new.set) (pieces_of c.put_other_trees.new.set) (pieces_of c.put_chunks.new.set) c.args.log c.args.g c.args.list.now (tree_blocks c.args.trees.now) c.args.chunks.now
    c.in_ok-put_fixed.ensures (c.in_ok-put_blocks.ensures ∙ ap (λ (o : ℕ). pieces_of c.put_fixed.new.set ++ map (block_piece FreeList o) c.args.list.now) c.number.ensures.value) c.in_ok-put_space_trees.ensures c.in_ok-put_other_trees.ensures is)
    c.put_chunks.ensures
