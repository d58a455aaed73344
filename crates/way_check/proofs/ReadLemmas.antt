-- A tree that was edited from its root down is read with the edited records.
use Rattle.std.proofs.Common.{◌≡◌, ℕ, zero, suc, ◌+◌, ◌<◌, ◌≤◌, Bool, true, false, List, [], ◌∷◌, ◌++◌, Ok, refl, sym, ap, subst, ◌∙◌, inl, inr, arith}
use Rattle.std.specs.Prelude.{◌⊎◌, ◌&&◌, ◌||◌, not, nat_le, nat_lt}
use Rattle.std.specs.List.{list_any}
use Rattle.std.proofs.lemmas.Bool.Decides.{nat_tests}
use Rattle.sblock.specs.Area.{area_of, child_of}
use Rattle.sblock.specs.Blocks.{numrecs, records_of, children_of, AreBlocks, IsRising}
use Rattle.sblock.specs.Form.{Form, IsLawful, same_key}
use Rattle.sblock.specs.Headers.{no_block, left_of}
use Rattle.sblock.specs.Lists.{items_from}
use Rattle.sblock.specs.Meets.{meets, parts_blocks}
use Rattle.sblock.specs.declared.block.Frame.{Frame}
use Rattle.sblock.proofs.BlockLemmas.{children_lie_inside}
use Rattle.tree_defs.specs.Levels.{IsRight, IsTree, entries, recs_of, blocks_of}
use Rattle.tree_defs.specs.Lists.{In, times, AllDiffer}
use Rattle.tree_defs.specs.Tree.{Entry, entry_at, entries_from, read_tree, want_of}
use Rattle.tree_defs.specs.declared.site.Site.{Site}
use Rattle.tree_defs.proofs.Counts.{times_append}
use Rattle.tree_defs.proofs.Rows.{blocks_differ_lem}
use Rattle.tree_defs.proofs.Trees.{reads_trees_lem}
use Rattle.list_edit.specs.Edits.{has_key, bars, bars_beside, edited}
use Rattle.list_edit.specs.declared.edits.Edit.{Edit}
use Rattle.list_edit.specs.declared.edits.Edit.TheVariants.{Insert, Remove, Change}
use Rattle.edit_terms.specs.Made.{made, MayBe}
use Rattle.over_blocks.specs.Over.{over}
use Rattle.place_laws.specs.Forest.{AllBlocks, children, entries_over, below, blocks_over, IsForest, Stands}
use Rattle.place_laws.specs.Passes.{IsFrameOf}
use Rattle.place_laws.specs.Tops.{AreFresh, IsGrown}
use Rattle.place_laws.specs.Turns.{Fits}
use Rattle.place_laws.proofs.BlockLemmas.{blocks_in_rows_lem}
use Rattle.place_laws.proofs.ForestLemmas.{all_left, all_right, all_join}
use Rattle.place_laws.proofs.NodeLemmas.{children_join}
use Rattle.place_laws.proofs.StandLemmas.{standing_are_trees_lem, trees_stand_lem}
use Rattle.place_ways.specs.Found.{ServesDown}
use Rattle.place_ways.specs.Ways.{Serves, entry_on}
use Rattle.place_ways.proofs.WayLemmas.{ways_part_lem, asks_go_down_lem}
use Rattle.place_turns.specs.Edits.{MayStand}
use Rattle.place_turns.proofs.EditLemmas.{place_tells_lem}
use Rattle.place_turns.proofs.RowLemmas.{forests_serve_lem}
use Rattle.place_made.specs.Made.{LeafMade, MadeFrom, IsOnWay}
use Rattle.place_made.specs.Trees.{IsEditable, IsDoneAs}
use Rattle.place_made.proofs.MadeLemmas.{row_right}
use Rattle.place_made.proofs.TreeLemmas.{tree_stays_lem, tree_grows_lem}
use Rattle.way_check.specs.Checks.{frame_of, IsPlain, IsMade, IsReadMade, MadeReads}
use Rattle.way_check.specs.Way.{WayFrom, ReadsMade, WaysRead, IsGrownBy, WaysGrow}
use Rattle.way_check.proofs.WayLemmas.{HasKeys, all_keyed, made_keys, ways_make_lem}

low_child : (b len : ℕ) → (nat_le 1 b && nat_lt b len) ≡ true → len ≤ no_block → b < no_block
low_child b len h short = let lt : b < len = grind (arith, nat_tests) in omega (arith, lt, short)

module _ {R K : Type 0} (form : Form R K) (law : IsLawful form) (site : Site) where
  -- ---- each block of a forest has a number

  low_in : (area : List ℕ) (n i : ℕ) → site.bounds.length ≤ no_block → AreBlocks site.bounds.length (items_from (child_of form.kind area) n i) → AllBlocks (λ b. b < no_block) (children (items_from (entry_at form area) n i))
  low_in area zero i short h = tt
  low_in area (suc n) i short h = (low_child (child_of form.kind area i) site.bounds.length h.0 short, low_in area n (i + 1) short h.1)

  low_children : (m : ℕ → List ℕ) (level p : ℕ) → site.bounds.length ≤ no_block → IsRight form m site (suc level) true p → AllBlocks (λ b. b < no_block) (children (entries form m p))
  unfolding entries_from children_of
  low_children m level p short right = low_in (area_of (m p)) (numrecs (m p)) 0 short (children_lie_inside form (m p) (want_of form.kind site (suc level) true (left_of (m p)) p) right (omega arith))

  low_below : (m : ℕ → List ℕ) (level : ℕ) (ps : List ℕ) → site.bounds.length ≤ no_block → AllBlocks (IsRight form m site (suc level) true) ps → AllBlocks (λ b. b < no_block) (below form m ps)
  low_below m level [] short right = tt
  low_below m level (p ∷ ps) short right =
      subst (AllBlocks (λ b. b < no_block)) (sym (children_join form law site (entries form m p) (entries_over form m ps)))
      (all_join (λ b. b < no_block) (children (entries form m p)) (below form m ps) (low_children m level p short right.0) (low_below m level ps short right.1))

  low_forest : (m : ℕ → List ℕ) (level : ℕ) (ps : List ℕ) → site.bounds.length ≤ no_block → AllBlocks (λ b. b < no_block) ps → IsForest form m site level ps → AllBlocks (λ b. b < no_block) (blocks_over form m level ps)
  unfolding IsForest blocks_over
  low_forest m zero ps short low forest = low
  low_forest m (suc level) ps short low forest =
      all_join (λ b. b < no_block) ps (blocks_over form m level (below form m ps)) low
      (low_forest m level (below form m ps) short (low_below m level ps short forest.0) forest.3)

  module _ (frame : Frame) (how : Edit) (r : R) where
    -- ---- the place in the leaf says that the edit may be made

    leaf_may : (m n : ℕ → List ℕ) (p : ℕ) (parts fresh : List ℕ) → IsRising form (recs_of form m 0 p) → LeafMade form site frame how r m n p parts fresh → MayBe form how r (recs_of form m 0 p)
    unfolding recs_of
    leaf_may m n p parts fresh rises (inl o) = place_tells_lem form law how r (m p) o.2.at rises o.2.place
    leaf_may m n p parts fresh rises (inr o) = place_tells_lem form law how r (m p) o.3.at rises o.3.place

    way_may : (m n : ℕ → List ℕ) (level p : ℕ) (parts fresh : List ℕ) → IsRising form (recs_of form m level p) → ServesDown form m r level p → WayFrom form site frame how r m n level p parts fresh → MayBe form how r (recs_of form m level p)
    unfolding ServesDown
    way_may m n zero p parts fresh rises serves step = leaf_may m n p parts fresh rises step
    way_may m n (suc level) p parts fresh rises serves step =
        ((asks_go_down_lem form law m level p r serves.0).may how).1
        (way_may m step.0 level (entry_on form r (m p)).child step.1 step.2 (ways_part_lem form law m level p r serves.0).rises serves.1 step.5)

    module _ (of : IsFrameOf site frame) (stand : MayStand form site how r) (short : site.bounds.length ≤ no_block) (m n : ℕ → List ℕ) (level root : ℕ) (tree : Stands form m site level root) (fresh : List ℕ)
        (differ : AllDiffer (blocks_of form m level root ++ fresh)) (some : AllBlocks (λ b. b < no_block) fresh) (step : WayFrom form site frame how r m n level root (root ∷ []) fresh) where
      serves : ServesDown form m r level root
      serves = forests_serve_lem form law site m r level [] root [] tree.forest tree.rises

      pub may : MayBe form how r (recs_of form m level root)
      may = way_may m n level root (root ∷ []) fresh tree.rises serves step

      apart : AreFresh form site m level root fresh
      apart = record {
        differ = λ b. omega (arith, differ b, blocks_in_rows_lem form site m level root b, times_append b (blocks_over form m level (root ∷ [])) fresh, times_append b (blocks_of form m level root) fresh);
        some = all_join (λ b. b < no_block) (blocks_over form m level (root ∷ [])) fresh (low_forest m level (root ∷ []) short (omega (arith, tree.lies.1, short), tt) tree.forest) some;
      }

      fits : Fits form site m level [] (root ∷ []) [] fresh
      fits = record { forest = tree.forest; differ = apart.differ; some = apart.some }

      made_from : MadeFrom form site frame how r m n level root (root ∷ []) fresh
      made_from = ways_make_lem form law site frame how r m n level root [] [] (root ∷ []) fresh of stand (record { low = tree.few; serves = serves; may = may }) fits step

      pub done : IsDoneAs form site frame how r m n level root level root fresh []
      done = tree_stays_lem form law site frame how r m n level root fresh (record { of = of; stand = stand; may = may; tree = tree }) apart made_from

      pub read : read_tree form site n root (suc level) ≡ Ok (made form how r (recs_of form m level root), blocks_of form n level root)
      read =
          subst (λ (rs : List R). read_tree form site n root (suc level) ≡ Ok (rs, blocks_of form n level root)) done.recs
          ((reads_trees_lem form law site n root (suc level) (recs_of form n level root) (blocks_of form n level root)).1 (standing_are_trees_lem form site n root level done.tree))

      pub once : (b : ℕ) → times b (blocks_of form n level root) ≡ times b (blocks_of form m level root) + times b fresh
      once b = let bl : times b (blocks_over form n level (root ∷ [])) + times b [] ≡ times b (blocks_over form m level (root ∷ [])) + times b fresh = done.blocks b in omega (arith, bl, blocks_in_rows_lem form site m level root b, blocks_in_rows_lem form site n level root b)

-- ---- a new root

list_end : {A : Type 0} (xs : List A) → xs ++ [] ≡ xs
list_end [] = refl
list_end (x ∷ xs) = ap (λ (t : List _). x ∷ t) (list_end xs)

module _ {R K : Type 0} (form : Form R K) (law : IsLawful form) (site : Site) (frame : Frame) (how : Edit) (r : R) (of : IsFrameOf site frame) (stand : MayStand form site how r) (short : site.bounds.length ≤ no_block) (m low n : ℕ → List ℕ) (level root new : ℕ) (tree : Stands form m site level root)
    (parts fresh : List ℕ) (differ : AllDiffer (blocks_of form m level root ++ (fresh ++ new ∷ []))) (some : AllBlocks (λ b. b < no_block) (fresh ++ new ∷ [])) (step : WayFrom form site frame how r m low level root parts fresh) (grown : IsGrownBy form site frame low n level new parts) where
  serves_all : ServesDown form m r level root
  serves_all = forests_serve_lem form law site m r level [] root [] tree.forest tree.rises

  pub grown_may : MayBe form how r (recs_of form m level root)
  grown_may = way_may form law site frame how r m low level root parts fresh tree.rises serves_all step

  apart_all : AreFresh form site m level root (fresh ++ new ∷ [])
  apart_all = record {
    differ = λ b. omega (arith, differ b, blocks_in_rows_lem form site m level root b, times_append b (blocks_over form m level (root ∷ [])) (fresh ++ new ∷ []), times_append b (blocks_of form m level root) (fresh ++ new ∷ []));
    some = all_join (λ b. b < no_block) (blocks_over form m level (root ∷ [])) (fresh ++ new ∷ []) (low_forest form law site m level (root ∷ []) short (omega (arith, tree.lies.1, short), tt) tree.forest) some;
  }

  fits_all : Fits form site m level [] (root ∷ []) [] fresh
  fits_all = record {
    forest = tree.forest;
    differ = λ b. omega (arith, apart_all.differ b, times_append b (blocks_over form m level (root ∷ [])) (fresh ++ new ∷ []), times_append b (blocks_over form m level (root ∷ [])) fresh, times_append b fresh (new ∷ []));
    some = all_join (λ b. b < no_block) (blocks_over form m level (root ∷ [])) fresh (all_left (λ b. b < no_block) (blocks_over form m level (root ∷ [])) (fresh ++ new ∷ []) apart_all.some) (all_left (λ b. b < no_block) fresh (new ∷ []) some);
  }

  way_all : IsOnWay form site frame how r m level root
  way_all = record { low = tree.few; serves = serves_all; may = grown_may }

  made_all : MadeFrom form site frame how r m low level root parts fresh
  made_all = ways_make_lem form law site frame how r m low level root [] [] parts fresh of stand way_all fits_all step

  root_leads : children (entries form n new) ≡ parts
  root_leads = ap children (sym (list_end (entries form n new))) ∙ grown.leads

  grown_keyed : IsGrown form site low n level new parts
  grown_keyed = record {
    lies = grown.lies;
    few = grown.few;
    leads = grown.leads;
    keyed = all_keyed form law low level (entries form n new) (subst (AllBlocks (HasKeys form law low level)) (sym root_leads) (made_keys form law site frame how r of stand m low level root [] [] parts fresh way_all fits_all made_all)) grown.keyed;
    passes = grown.passes;
    left = grown.left;
    right = grown.right;
    full = grown.full;
    others = grown.others;
  }

  pub grown_done : IsDoneAs form site frame how r m n level root (suc level) new (fresh ++ new ∷ []) []
  grown_done = tree_grows_lem form law site frame how r m low n level root new parts fresh (record { of = of; stand = stand; may = grown_may; tree = tree }) apart_all made_all grown_keyed

  pub grown_read : read_tree form site n new (suc (suc level)) ≡ Ok (made form how r (recs_of form m level root), blocks_of form n (suc level) new)
  grown_read =
      subst (λ (rs : List R). read_tree form site n new (suc (suc level)) ≡ Ok (rs, blocks_of form n (suc level) new)) grown_done.recs
      ((reads_trees_lem form law site n new (suc (suc level)) (recs_of form n (suc level) new) (blocks_of form n (suc level) new)).1 (standing_are_trees_lem form site n new (suc level) grown_done.tree))

  pub grown_once : (b : ℕ) → times b (blocks_of form n (suc level) new) ≡ times b (blocks_of form m level root) + times b (fresh ++ new ∷ [])
  grown_once b =
      let bl : times b (blocks_over form n (suc level) (new ∷ [])) + times b [] ≡ times b (blocks_over form m level (root ∷ [])) + times b (fresh ++ new ∷ []) = grown_done.blocks b in
      omega (arith, bl, blocks_in_rows_lem form site m level root b, blocks_in_rows_lem form site n (suc level) new b)

pub ways_grow_lem : {R K : Type 0} (form : Form R K) → IsLawful form → (site : Site) (frame : Frame) → WaysGrow form site frame
ways_grow_lem {R} form law site frame how r m low n level root new recs blocks parts fresh of stand short reads differ some step grown =
    let t = trees_stand_lem form site m root level recs blocks ((reads_trees_lem form law site m root (suc level) recs blocks).0 reads) in
    let d : AllDiffer (blocks_of form m level root ++ (fresh ++ new ∷ [])) = subst (λ (bs : List ℕ). AllDiffer (bs ++ (fresh ++ new ∷ []))) t.2 differ in
    record {
      may = subst (MayBe form how r) (sym t.1) (grown_may form law site frame how r of stand short m low n level root new t.0 parts fresh d some step grown);
      after = blocks_of form n (suc level) new;
      read = subst (λ (rs : List R). read_tree form site n new (suc (suc level)) ≡ Ok (made form how r rs, blocks_of form n (suc level) new)) (sym t.1) (grown_read form law site frame how r of stand short m low n level root new t.0 parts fresh d some step grown);
      once = λ b. subst (λ (bs : List ℕ). times b (blocks_of form n (suc level) new) ≡ times b bs + times b (fresh ++ new ∷ [])) (sym t.2) (grown_once form law site frame how r of stand short m low n level root new t.0 parts fresh d some step grown b);
    }

-- ---- of a draft

any_both : {A : Type 0} (f g : A → Bool) (xs : List A) → ((x : A) → f x ≡ g x) → list_any f xs ≡ list_any g xs
any_both f g [] h = refl
any_both f g (x ∷ xs) h = rw (h x, any_both f g xs h) refl

none_any : {A : Type 0} (f : A → Bool) (xs : List A) → ((x : A) → f x ≡ false) → list_any f xs ≡ false
none_any f [] h = refl
none_any f (x ∷ xs) h = rw (h x, none_any f xs h) refl

twice : (a : Bool) → (a || a) ≡ a
twice true = refl
twice false = refl

never : (a : Bool) → (not a && a) ≡ false
never true = refl
never false = refl

module _ {R K : Type 0} (form : Form R K) (parts : parts_blocks form.kind ≡ false) where
  meets_key : (s r : R) → meets form s r ≡ same_key form (form.key_of s) (form.key_of r)
  meets_key s r = rw parts refl

  bars_key : (r s : R) → bars form r s ≡ has_key form r s
  unfolding bars has_key
  bars_key r s = rw (meets_key s r) (twice (same_key form (form.key_of s) (form.key_of r)))

  beside_none : (r s : R) → bars_beside form r s ≡ false
  unfolding bars_beside has_key
  beside_none r s = rw (meets_key s r) (never (same_key form (form.key_of s) (form.key_of r)))

  -- where a record bars another by its key alone, the edit may be made where the keys allow it
  edits_plain : (how : Edit) (r : R) (recs : List R) → MayBe form how r recs → edited form how r recs ≡ Ok (made form how r recs)
  edits_plain Insert r recs may = rw (any_both (bars form r) (has_key form r) recs (bars_key r), may) refl
  edits_plain Remove r recs may = rw may refl
  edits_plain Change r recs may = rw (may, none_any (bars_beside form r) recs (beside_none r)) refl

edits_out : {R K : Type 0} (form : Form R K) (how : Edit) (r : R) (recs : List R) → how ≡ Remove → MayBe form how r recs → edited form how r recs ≡ Ok (made form how r recs)
edits_out form Insert r recs is may = cc
edits_out form Remove r recs is may = rw may refl
edits_out form Change r recs is may = cc

pub edits_so : {R K : Type 0} (form : Form R K) (how : Edit) (r : R) (recs : List R) → IsPlain form how → MayBe form how r recs → edited form how r recs ≡ Ok (made form how r recs)
edits_so form how r recs (inl is) may = edits_out form how r recs is may
edits_so form how r recs (inr parts) may = edits_plain form parts how r recs may

pub ways_read_lem : {R K : Type 0} (form : Form R K) → IsLawful form → (site : Site) (frame : Frame) → WaysRead form site frame
ways_read_lem {R} form law site frame how r m n level root recs blocks fresh of stand short reads differ some step =
    let t = trees_stand_lem form site m root level recs blocks ((reads_trees_lem form law site m root (suc level) recs blocks).0 reads) in
    let d : AllDiffer (blocks_of form m level root ++ fresh) = subst (λ (bs : List ℕ). AllDiffer (bs ++ fresh)) t.2 differ in
    record {
      may = subst (MayBe form how r) (sym t.1) (may form law site frame how r of stand short m n level root t.0 fresh d some step);
      after = blocks_of form n level root;
      read = subst (λ (rs : List R). read_tree form site n root (suc level) ≡ Ok (made form how r rs, blocks_of form n level root)) (sym t.1) (read form law site frame how r of stand short m n level root t.0 fresh d some step);
      once = λ b. subst (λ (bs : List ℕ). times b (blocks_of form n level root) ≡ times b bs + times b fresh) (sym t.2) (once form law site frame how r of stand short m n level root t.0 fresh d some step b);
    }

pub made_reads_lem : {R K : Type 0} (form : Form R K) → IsLawful form → MadeReads form
made_reads_lem form law ask tree told draft m recs before is tells reads =
    let site = ask.site in
    let level = is.level in
    let at : read_tree form site m tree.root (suc level) ≡ Ok (recs, before) = subst (λ (l : ℕ). read_tree form site m tree.root l ≡ Ok (recs, before)) is.tall reads in
    let tree_is = (reads_trees_lem form law site m tree.root (suc level) recs before).0 at in
    let way = is.way m tells in
    let apart : AllDiffer (before ++ []) = subst AllDiffer (sym (list_end before)) (blocks_differ_lem form site m tree.root (suc level) recs before is.short tree_is).0 in
    let made_tree = ways_read_lem form law site (frame_of site) ask.how ask.rec m (over draft.placed.items m) level tree.root recs before [] (record { group = refl; first = refl; uuid = refl }) is.stand is.short at apart tt way.way in
    let n = over draft.placed.items m in
    let tall : draft.levels ≡ suc level = is.still.levels ∙ is.tall in
    record {
      records = made form ask.how ask.rec recs;
      after = made_tree.after;
      edits = edits_so form ask.how ask.rec recs is.plain made_tree.may;
      read = ap (λ (p : ℕ). read_tree form site n p draft.levels) is.still.root ∙ (ap (λ (l : ℕ). read_tree form site n tree.root l) tall ∙ made_tree.read);
      once = λ b. omega (arith, made_tree.once b);
      own = λ b h. subst (In b) (sym (trees_stand_lem form site m tree.root level recs before tree_is).2) (way.own b h);
    }
