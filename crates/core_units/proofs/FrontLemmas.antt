-- One piece more of a tree that is read leaf by leaf.
use Rattle.std.proofs.Common.{◌≡◌, ◌-◌, Bool, true, false, ℕ, suc, zero, List, [], ◌∷◌, ◌++◌, Option, Some, None, Result, Ok, Err, refl, sym, subst, ◌∙◌, ap, append_assoc, arith}
use Rattle.std.specs.Prelude.{◌==◌, length, slice_get}
use Rattle.std.proofs.lemmas.Bool.{eqb-false, eqb-true}
use Rattle.std.specs.Option.{option_map}
use Rattle.sblock.specs.Blocks.{IsRising}
use Rattle.sblock.specs.Form.{Form, IsLawful}
use Rattle.sblock.specs.Lists.{Each}
use Rattle.sblock.specs.declared.block.Bounds.{Bounds}
use Rattle.tree_defs.specs.Levels.{RisesAfter}
use Rattle.tree_defs.specs.Tree.{read_tree}
use Rattle.tree_defs.proofs.EachLemmas.{each_append}
use Rattle.tree_defs.proofs.Parts.{from_rising, last_is, last_rec, rises_behind, rising_join, to_rising}
use Rattle.tree_defs.specs.declared.site.Site.{Site}
use Rattle.tree_find.specs.Next.{is_above, AreAbove}
use Rattle.tree_pieces.specs.Pieces.{AreInSum, key_behind, piece_in}
use Rattle.tree_pieces.proofs.PieceLaw.{sums_to_walk_lem}
use Rattle.tree_walk.specs.Trails.{AreSound}
use Rattle.sblock.specs.declared.block.BlockFault.{BlockFault}
use Rattle.tree_blocks.specs.declared.tree.TreeRead.{TreeRead}
use Rattle.tree_blocks.specs.declared.tree.WalkFault.TheVariants as walks
use Rattle.tree_find.specs.Laws.{WhereHolds}
use Rattle.tree_pieces.specs.Meets.{GivesPiece}
use Rattle.core_units.specs.Front.{GathersLeaf, GoesOn}
use Rattle.core_units.specs.declared.leaf.Leaf.TheVariants.{More, Last, Bad}

empty : {A : Type 0} (rs : List A) → length rs ≡ 0 → rs ≡ []
empty [] e = refl
empty (r ∷ rs) e = absurd (omega (arith, e))

pub no_records : {A : Type 0} (rs ss : List A) (b : Bool) → ss ≡ rs → b ≡ (length ss == 0) → b ≡ true → rs ≡ []
no_records rs ss b same e t = sym same ∙ empty ss (eqb-true (length ss) 0 (sym e ∙ t))

pub some_records : {A : Type 0} (rs ss : List A) (b : Bool) → ss ≡ rs → b ≡ (length ss == 0) → b ≡ false → rs ≡ [] → ⊥
some_records rs ss b same e f none = eqb-false (length ss) 0 (sym e ∙ f) (ap length (same ∙ none))

module _ {R K : Type 0} (form : Form R K) where
  pub key_more : (after : Option K) (rs more : List R) → key_behind form after (rs ++ more) ≡ key_behind form (key_behind form after rs) more
  key_more after [] more = refl
  key_more after (r ∷ rs) more = key_more (Some (form.key_of r)) rs more

  module _ (site : Site) (m : ℕ → List ℕ) (root levels : ℕ) where
    -- from nothing on, the pieces are those of the whole
    pub goes_from_none : GoesOn form site m root levels [] []
    goes_from_none = λ n more others sum. (n, sum)

    -- a piece with records, put behind what was read
    pub goes_on : (recs rs : List R) (blocks bs : List ℕ) → GoesOn form site m root levels recs blocks → piece_in form site m root levels (key_behind form None recs) ≡ Ok (rs, bs) → (rs ≡ [] → ⊥) → GoesOn form site m root levels (recs ++ rs) (blocks ++ bs)
    goes_on recs rs blocks bs on read some = λ n more others sum.
        let here = subst (λ (after : Option K). AreInSum form site m root levels n after more others) (key_more None recs rs) sum in
        let whole = on (suc n) (rs ++ more) (bs ++ others) (rs, bs, more, others, read, some, here, refl, refl) in
        (whole.0, subst (λ (l : List R). AreInSum form site m root levels whole.0 None l ((blocks ++ bs) ++ others)) (sym (append_assoc recs rs more)) (subst (λ (l : List ℕ). AreInSum form site m root levels whole.0 None (recs ++ (rs ++ more)) l) (sym (append_assoc blocks bs others)) whole.1))

    -- a piece without records is the last: what was read, with its blocks, is what a walk reads
    pub goes_to_end : IsLawful form → (recs rs all : List R) (blocks bs ps : List ℕ) → GoesOn form site m root levels recs blocks → piece_in form site m root levels (key_behind form None recs) ≡ Ok (rs, bs) → rs ≡ [] → read_tree form site m root levels ≡ Ok (all, ps) → (recs ++ rs ≡ all) × (blocks ++ bs ≡ ps)
    goes_to_end law recs rs all blocks bs ps on read none walked =
        let last = subst (λ (l : List R). piece_in form site m root levels (key_behind form None recs) ≡ Ok (l, bs)) none read in
        let whole = on zero [] bs (refl, last) in
        let same = sums_to_walk_lem form law site m root levels all ps walked whole.0 (recs ++ []) (blocks ++ bs) whole.1 in
        (ap (λ (l : List R). recs ++ l) none ∙ same.0, same.1)

  key_as_last : (q : Option R) (rs : List R) → key_behind form (option_map form.key_of q) rs ≡ option_map form.key_of (last_rec q rs)
  key_as_last q [] = refl
  key_as_last q (r ∷ rs) = key_as_last (Some r) rs

  -- the key of the last record, by its place
  pub last_key : (rs : List R) → option_map form.key_of (slice_get rs (length rs - 1)) ≡ key_behind form None rs
  last_key rs = ap (option_map form.key_of) (last_is rs) ∙ sym (key_as_last None rs)

  rises_above : (q : Option R) (rs : List R) → IsRising form rs → Each (is_above form (option_map form.key_of q)) rs → RisesAfter form q rs
  rises_above None rs rising above = from_rising form rs rising
  rises_above (Some r) [] rising above = tt
  rises_above (Some r) (s ∷ rs) rising above = (above.0, rises_behind form s rs rising)

  -- records above the last key, put behind those that were read
  pub sound_on : (bounds : Bounds) (recs rs : List R) → AreSound form bounds recs → AreAbove form bounds (key_behind form None recs) rs → AreSound form bounds (recs ++ rs)
  sound_on bounds recs rs sound more = record {
    rising = to_rising form (recs ++ rs) (rising_join form None recs rs (from_rising form recs sound.rising) (rises_above (last_rec None recs) rs more.rising (subst (λ (after : Option K). Each (is_above form after) rs) (key_as_last None recs) more.above)));
    inside = each_append (form.is_in_range bounds) recs rs sound.inside more.inside;
    supported = each_append form.is_supported recs rs sound.supported more.supported;
  }

  module _ (site : Site) (m : ℕ → List ℕ) (root levels : ℕ) (old new : TreeRead R) where
    -- a leaf with records
    pub leaf_more : (rs : List R) (bs : List ℕ) → piece_in form site m root levels (key_behind form None old.recs.items) ≡ Ok (rs, bs) → new.recs.items ≡ old.recs.items ++ rs → new.blocks.items ≡ old.blocks.items ++ bs → (rs ≡ [] → ⊥) → GathersLeaf form site m root levels old new (Ok More)
    leaf_more rs bs read recs_are blocks_are some = λ recs blocks walked on.
        subst (λ (l : List R). GoesOn form site m root levels l new.blocks.items) (sym recs_are)
        (subst (λ (l : List ℕ). GoesOn form site m root levels (old.recs.items ++ rs) l) (sym blocks_are) (goes_on site m root levels old.recs.items rs old.blocks.items bs on read some))

    -- one without records
    pub leaf_last : IsLawful form → (rs : List R) (bs : List ℕ) → piece_in form site m root levels (key_behind form None old.recs.items) ≡ Ok (rs, bs) → new.recs.items ≡ old.recs.items ++ rs → new.blocks.items ≡ old.blocks.items ++ bs → rs ≡ [] → GathersLeaf form site m root levels old new (Ok Last)
    leaf_last law rs bs read recs_are blocks_are none = λ recs blocks walked on.
        let same = goes_to_end site m root levels law old.recs.items rs recs old.blocks.items bs blocks on read none walked in
        (recs_are ∙ same.0, blocks_are ∙ same.1)

    -- a block that fails its tests, where there is none
    pub leaf_bad : (after : Option K) (block : ℕ) (fault : BlockFault) → WhereHolds form site m root levels (GivesPiece form m root levels after (Err (walks.Bad block fault))) → GathersLeaf form site m root levels old new (Ok (Bad block fault))
    leaf_bad after block fault right = λ recs blocks walked on. right recs (blocks, walked)
