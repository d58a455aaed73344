-- A tree that was joined is read again.
use Rattle.std.proofs.Common.{◌≡◌, ◌≤◌, ◌-◌, ℕ, zero, suc, ◌+◌, List, [], ◌∷◌, length, drop, refl, sym, ap, subst, ◌∙◌, inl, inr, arith, add-one, drop-cons}
use Rattle.std.specs.Prelude.{unwrap_or, Option, Some, slice_index}
use Rattle.byte_fields.specs.declared.block.Block.{Block}
use Rattle.blk_device.specs.Contents.{Contents}
use Rattle.blk_device.specs.declared.device.Region.TheVariants.{Image}
use Rattle.redo_area.specs.Area.{Batch, Blocks}
use Rattle.meta_txn.specs.Joined.{Joined, written}
use Rattle.sblock.specs.Form.{Form, IsLawful}
use Rattle.sblock.specs.declared.block.Frame.{Frame}
use Rattle.tree_defs.specs.Levels.{blocks_of}
use Rattle.tree_defs.specs.Lists.{In, AllDiffer}
use Rattle.tree_defs.specs.Sites.{group_blocks}
use Rattle.tree_defs.specs.declared.site.Site.{Site}
use Rattle.tree_defs.proofs.Trees.{reads_trees_lem}
use Rattle.bulk_load.specs.Loaded.{AreLaid}
use Rattle.load_trees.specs.Fit.{frame_of}
use Rattle.load_trees.specs.Given.{IsGiven}
use Rattle.load_trees.specs.Written.{AreWritten}
use Rattle.load_trees.proofs.TreeLemmas.{are_trees}
use Rattle.load_trees.proofs.WrittenLemmas.{pieces_stand, all_stand}
use Rattle.join_blocks.specs.Joins.{placed_in, with_all, AreFound, HaveBytes}
use Rattle.join_blocks.proofs.PutLemmas.{puts_each, puts_others, finds_others}
use Rattle.tree_edit.specs.Anew.{root_of, JoinedIsRead, OthersStay}
use Rattle.tree_edit.proofs.BlockLemmas.{apart, either}

drop_end : (xs : List ℕ) (k : ℕ) → length xs ≤ k → drop k xs ≡ []
drop_end [] zero le = refl
drop_end [] (suc k) le = refl
drop_end (x ∷ xs) zero le = absurd (omega (arith, le))
drop_end (x ∷ xs) (suc k) le = drop_end xs k (omega (arith, le))

module _ {R K : Type 0} (form : Form R K) (list : List R) (claimed : List ℕ) (frame : Frame) where
  -- the blocks that are put in are the claimed ones
  pub placed_are : (k : ℕ) (es : List (ℕ × Block)) → AreLaid form list claimed frame k es → k + length es ≡ length claimed → placed_in es ≡ drop k claimed
  placed_are k [] laid e = sym (drop_end claimed k (omega (arith, e)))
  placed_are k (x ∷ es) laid e =
      let rest : drop k claimed ≡ slice_index claimed k ∷ drop (k + 1) claimed = rw add-one (drop-cons claimed k 0 (omega (arith, e))) in
      let behind = placed_are (k + 1) es laid.2 (omega (arith, e)) in
      (λ j. laid.0 j ∷ behind j) ∙ sym rest

-- bytes that were put in stay where other blocks are joined
have_stay : (told : Option Contents) (first : ℕ) (placed : List (ℕ × Block)) (left : List ℕ) (old new : Batch) → AreFound told first left old new → ((b : ℕ) → In b (placed_in placed) → In b left → ⊥) → HaveBytes first placed old → HaveBytes first placed new
have_stay told first [] left old new found none have = tt
have_stay told first (e ∷ es) left old new found none have = (
  finds_others told first (first + e.0) left old new found (λ b there same. let is : b ≡ e.0 = omega (arith, same) in none e.0 (inl refl) (subst (λ (n : ℕ). In n left) is there)) ∙ have.0,
  have_stay told first es left old new found (λ b mine. none b (inr mine)) have.1,
)

-- what is joined is what is read
are_written : (site : Site) (image : Blocks) (txn : Joined) (placed : List (ℕ × Block)) → HaveBytes site.first placed txn.blocks → AreWritten (group_blocks site (written image txn)) placed
are_written site image txn [] have = tt
are_written site image txn (e ∷ es) have = (ap (λ (o : Option (List ℕ)). unwrap_or o (image (site.first + e.0))) have.0, are_written site image txn es have.1)

pub joined_is_read : {R K : Type 0} (form : Form R K) → IsLawful form → JoinedIsRead form
joined_is_read form law site lsn levels recs before listed claimed left placed c old new short differ chose made supported all_written joined =
    let frame = frame_of site lsn in
    let m = group_blocks site (written (c Image) new) in
    let more = made.loaded.more in
    let same : placed ≡ more = made.loaded.behind in
    let numbers : placed_in placed ≡ claimed = ap placed_in same ∙ placed_are form recs claimed frame 0 more made.loaded.laid made.loaded.many in
    let have = puts_each site.first placed old.blocks (subst AllDiffer (sym numbers) made.fit.claims.differ) in
    let stays = have_stay (Some c) site.first placed left (with_all site.first placed old.blocks) new.blocks joined (λ b mine leaves. apart before listed claimed left chose b differ (subst (In b) numbers mine) leaves) have in
    let stand = all_stand form recs claimed frame levels m made.shape (pieces_stand form recs claimed frame m 0 (length claimed) [] placed made.loaded (subst (AreWritten m) same (are_written site (c Image) new placed stays))) in
    let given : IsGiven form site frame recs claimed levels = record {
      shape = made.shape;
      rises = made.fit.rises;
      inside = made.fit.inside;
      supported = supported;
      written = all_written;
      lie = made.fit.claims.lie;
      differ = made.fit.claims.differ;
      short = short;
      group = refl;
      first = refl;
      uuid = refl;
    } in
    let tree = are_trees form law site frame m recs claimed levels given stand in
    let after = blocks_of form m (levels - 1) (root_of claimed) in
    (after, (reads_trees_lem form law site m (root_of claimed) levels recs after).1 tree.0, tree.1)

pub others_stay : {R K : Type 0} (form : Form R K) → OthersStay form
others_stay form site lsn levels recs before listed claimed left placed told old new chose made joined at none =
    let frame = frame_of site lsn in
    let numbers : placed_in placed ≡ claimed = ap placed_in made.loaded.behind ∙ placed_are form recs claimed frame 0 made.loaded.more made.loaded.laid made.loaded.many in
    finds_others told site.first at left (with_all site.first placed old) new joined (λ b leaves same. none b (either before listed claimed left chose b (inr leaves)) same)
    ∙ puts_others site.first at placed old (λ b mine same. none b (either before listed claimed left chose b (inl (subst (In b) numbers mine))) same)
