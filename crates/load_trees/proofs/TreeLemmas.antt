-- The blocks of a new tree are a tree of its list.
use Rattle.std.proofs.Common.{◌≡◌, ℕ, suc, ◌+◌, ◌-◌, ◌<◌, ◌≤◌, Bool, true, false, List, [], length, refl, sym, ap, subst, ◌∙◌, inl, arith}
use Rattle.std.specs.Prelude.{nat_lt, slice_index}
use Rattle.sblock.specs.Form.{Form, IsLawful}
use Rattle.sblock.specs.Headers.{no_block}
use Rattle.sblock.specs.Lists.{items_from}
use Rattle.sblock.specs.declared.block.Frame.{Frame}
use Rattle.tree_defs.specs.Levels.{row, IsChain, last_right, IsTree, blocks_of}
use Rattle.tree_defs.specs.declared.site.Site.{Site}
use Rattle.bulk_load.specs.Loaded.{at_level}
use Rattle.bulk_load.specs.Shapes.{width, start}
use Rattle.bulk_load.specs.Trees.{Stand}
use Rattle.bulk_load.proofs.Numbers.{lt_true, lt_false}
use Rattle.bulk_load.proofs.RecordLemmas.{holds_the_list}
use Rattle.bulk_load.proofs.ShapeLemmas.{some_wide, start_on}
use Rattle.load_trees.specs.Given.{IsGiven, AreTrees}
use Rattle.tree_defs.specs.Lists.{times}
use Rattle.load_trees.proofs.BlockLemmas.{blocks_are_claimed}
use Rattle.load_trees.proofs.RowLemmas.{no_row, level_is, chain_of, ends_of}
use Rattle.load_trees.proofs.SoundLemmas.{sound_below, few, root_lies}

module _ {R K : Type 0} (form : Form R K) (law : IsLawful form) (site : Site) (frame : Frame) (m : ℕ → List ℕ) (list : List R) (claimed : List ℕ) (levels : ℕ)
    (given : IsGiven form site frame list claimed levels) (stand : Stand form list claimed frame levels m) where
  last_number : length claimed - 1 ≡ start form.kind (length list) (levels - 1) + 0
  last_number =
      let e : suc (levels - 1) ≡ levels = omega (arith, given.shape.some) in
      let s : start form.kind (length list) levels ≡ start form.kind (length list) (levels - 1) + width form.kind (length list) (levels - 1) = rw e at (start_on form.kind (length list) (levels - 1)) in
      omega (arith, s, given.shape.top, given.shape.all)

  rows_are : (l : ℕ) → l ≤ levels - 1 → row form m (levels - 1) l (at_level form.kind (length list) claimed (levels - 1) 0) ≡ items_from (at_level form.kind (length list) claimed l) (width form.kind (length list) l) 0
  rows_are l le = level_is form frame m list claimed levels given.shape.all stand (levels - 1) l (omega (arith, given.shape.some)) given.shape.top le

  chains : (l : ℕ) → IsChain m no_block no_block (row form m (levels - 1) l (at_level form.kind (length list) claimed (levels - 1) 0))
  chains l = by_place (nat_lt (levels - 1) l) refl where
    by_place : (c : Bool) → nat_lt (levels - 1) l ≡ c → IsChain m no_block no_block (row form m (levels - 1) l (at_level form.kind (length list) claimed (levels - 1) 0))
    by_place true e =
        subst (IsChain m no_block no_block) (sym (no_row form frame m list claimed levels given.shape.all stand (levels - 1) l (at_level form.kind (length list) claimed (levels - 1) 0) (lt_true (levels - 1) l e))) tt
    by_place false e =
        subst (IsChain m no_block no_block) (sym (rows_are l (lt_false (levels - 1) l e)))
        (chain_of form frame m list claimed levels given.shape.all stand l (width form.kind (length list) l) 0 no_block no_block (omega (arith, lt_false (levels - 1) l e, given.shape.some)) (omega arith) refl (λ some. inl refl))

  last_ends : (l : ℕ) → l < levels → last_right m no_block (row form m (levels - 1) l (at_level form.kind (length list) claimed (levels - 1) 0)) ≡ no_block
  last_ends l lt =
      ap (last_right m no_block) (rows_are l (omega (arith, lt)))
      ∙ ends_of form frame m list claimed levels given.shape.all stand l (width form.kind (length list) l) 0 no_block lt (some_wide form.kind (length list) l) (omega arith)

pub are_trees : {R K : Type 0} (form : Form R K) → IsLawful form → AreTrees form
are_trees form law site frame m list claimed levels given stand =
    let last = last_number form law site frame m list claimed levels given stand in (
      record {
        root_lies = root_lies form law site frame m list claimed levels given stand;
        has_levels = (given.shape.some, omega (arith, few form law site frame m list claimed levels given stand));
        sound = sound_below form law site frame m list claimed levels given stand;
        links = λ j lt. subst (λ (k : ℕ). IsChain m no_block no_block (row form m (levels - 1) j (slice_index claimed k))) (sym last) (chains form law site frame m list claimed levels given stand j);
        ends = λ j lt. ap (λ (k : ℕ). last_right m no_block (row form m (levels - 1) j (slice_index claimed k))) last ∙ last_ends form law site frame m list claimed levels given stand j lt;
        rises = given.rises;
        recs_are = sym (holds_the_list form list claimed frame levels m given.shape given.written stand);
        blocks_are = refl;
      },
      λ b. ap (λ (k : ℕ). times b (blocks_of form m (levels - 1) (slice_index claimed k))) last ∙ blocks_are_claimed form frame m list claimed levels given.shape.all stand (levels - 1) b (omega (arith, given.shape.some)) given.shape.top,
    )
