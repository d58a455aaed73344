-- The rows of a tree have the blocks that a walk lists.
use Rattle.std.proofs.Common.{◌≡◌, ℕ, zero, suc, ◌+◌, ◌<◌, ◌≤◌, List, [], ◌∷◌, ◌++◌, refl, sym, ap, subst, ◌∙◌, arith}
use Rattle.sblock.specs.Form.{Form}
use Rattle.sblock.specs.Headers.{no_block}
use Rattle.tree_defs.specs.Levels.{over, entries, blocks_of}
use Rattle.tree_defs.specs.Lists.{times, AllDiffer}
use Rattle.tree_defs.specs.Tree.{Entry}
use Rattle.tree_defs.specs.declared.site.Site.{Site}
use Rattle.tree_defs.proofs.Counts.{times_append}
use Rattle.place_laws.specs.Forest.{AllBlocks, children, entries_over, below, blocks_over}
use Rattle.place_laws.specs.Tops.{AreFresh, BlocksInRows, FreshByBlocks}
use Rattle.place_laws.proofs.JoinLemmas.{member}
use Rattle.place_laws.proofs.RowLemmas.{children_of_both}
use Rattle.place_laws.proofs.TurnLemmas.{all_members}

module _ {R K : Type 0} (form : Form R K) (m : ℕ → List ℕ) where
  -- how often a block stands in the walks from these blocks
  abbrev walks : ℕ → ℕ → List ℕ → ℕ
  walks level b [] = 0
  walks level b (p ∷ ps) = times b (blocks_of form m level p) + walks level b ps

  walks_join : (level b : ℕ) (xs ys : List ℕ) → walks level b (xs ++ ys) ≡ walks level b xs + walks level b ys
  walks_join level b [] ys = omega arith
  walks_join level b (x ∷ xs) ys = omega (arith, walks_join level b xs ys)

  over_walks : (level b : ℕ) (es : List (Entry K)) → times b (over (blocks_of form m level) es) ≡ walks level b (children es)
  over_walks level b [] = refl
  over_walks level b (e ∷ es) = omega (arith, over_walks level b es, times_append b (blocks_of form m level e.child) (over (blocks_of form m level) es))

  leaf_walks : (b : ℕ) (ps : List ℕ) → times b ps ≡ walks 0 b ps
  unfolding blocks_of
  leaf_walks b [] = refl
  leaf_walks b (p ∷ ps) = omega (arith, leaf_walks b ps)

  one_walk : (level b p : ℕ) → times b (blocks_of form m (suc level) p) ≡ times b (p ∷ []) + times b (over (blocks_of form m level) (entries form m p))
  unfolding blocks_of
  one_walk level b p = times_append b (p ∷ []) (over (blocks_of form m level) (entries form m p))

  lower_walks : (level b : ℕ) (ps : List ℕ) → walks (suc level) b ps ≡ times b ps + walks level b (below form m ps)
  lower_walks level b [] = refl
  lower_walks level b (p ∷ ps) =
      omega (
        arith,
        one_walk level b p,
        over_walks level b (entries form m p),
        lower_walks level b ps,
        times_append b (p ∷ []) ps,
        ap (walks level b) (children_of_both form m (entries form m p) (entries_over form m ps)),
        walks_join level b (children (entries form m p)) (below form m ps),
      )

  all_walks : (level b : ℕ) (ps : List ℕ) → times b (blocks_over form m level ps) ≡ walks level b ps
  unfolding blocks_over
  all_walks zero b ps = leaf_walks b ps
  all_walks (suc level) b ps = omega (arith, times_append b ps (blocks_over form m level (below form m ps)), all_walks level b (below form m ps), lower_walks level b ps)

  root_walks : (level root b : ℕ) → times b (blocks_over form m level (root ∷ [])) ≡ times b (blocks_of form m level root)
  root_walks level root b = omega (arith, all_walks level b (root ∷ []))

pub blocks_in_rows_lem : {R K : Type 0} (form : Form R K) (site : Site) → BlocksInRows form site
blocks_in_rows_lem form site m level root b = root_walks form m level root b

pub fresh_by_blocks_lem : {R K : Type 0} (form : Form R K) (site : Site) → FreshByBlocks form site
fresh_by_blocks_lem form site m level root fresh differ some = record {
  differ = λ b. omega (arith, differ b, root_walks form m level root b, times_append b (blocks_over form m level (root ∷ [])) fresh, times_append b (blocks_of form m level root) fresh);
  some = all_members (λ b. b < no_block) (blocks_over form m level (root ∷ []) ++ fresh)
      (λ b here. member (λ b. b < no_block) (blocks_of form m level root ++ fresh) some b (omega (arith, here, root_walks form m level root b, times_append b (blocks_over form m level (root ∷ [])) fresh, times_append b (blocks_of form m level root) fresh)));
}
