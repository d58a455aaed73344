-- One step of the way after the other.
use Rattle.std.proofs.Common.{◌≡◌, ◌≢◌, ℕ, zero, suc, ◌+◌, ◌≤◌, Bool, true, false, List, [], ◌∷◌, ◌++◌, refl, sym, ap, subst, ◌∙◌, inl, inr, arith}
use Rattle.std.specs.Prelude.{◌⊎◌}
use Rattle.sblock.specs.Form.{Form, IsLawful}
use Rattle.sblock.specs.declared.block.Frame.{Frame}
use Rattle.tree_defs.specs.Levels.{AllEntries, IsRight, entries, recs_of}
use Rattle.tree_defs.specs.Tree.{Entry}
use Rattle.tree_defs.specs.declared.site.Site.{Site}
use Rattle.list_edit.specs.declared.edits.Edit.{Edit}
use Rattle.edit_terms.specs.Made.{made, MayBe}
use Rattle.place_laws.specs.Forest.{AllBlocks, children, below, below as below_row, entries_over, IsKeyed, IsForest}
use Rattle.place_laws.specs.Passes.{IsFrameOf}
use Rattle.place_laws.specs.Turns.{Fits, IsTurned, Turns}
use Rattle.place_laws.proofs.ForestLemmas.{all_left, all_right}
use Rattle.place_laws.proofs.NodeLemmas.{children_join, entries_join}
use Rattle.place_ways.specs.Found.{ServesDown}
use Rattle.place_ways.specs.Ways.{Serves, entry_on, front_on, back_on, recs_on}
use Rattle.place_ways.proofs.WayLemmas.{ways_part_lem, asks_go_down_lem}
use Rattle.place_turns.specs.Edits.{MayStand}
use Rattle.place_turns.specs.Steps.{IsAtNode, IsDone}
use Rattle.place_turns.proofs.EditLemmas.{leaf_edit_turns_lem, leaf_edit_splits_lem}
use Rattle.place_turns.proofs.StepLemmas.{step_over_lem, step_cut_lem}
use Rattle.place_made.specs.Made.{IsLeafOver, IsLeafCut, LeafMade, IsNodeOver, IsNodeCut, NodeMade, AreEntriesOf, MadeFrom, IsOnWay, MadeTurns}

module _ {R K : Type 0} (form : Form R K) (law : IsLawful form) (site : Site) where
  -- what holds of each block below a row holds of a node's children
  of_children : (P : ℕ → Type 0) (m : ℕ → List ℕ) (xs : List ℕ) (p : ℕ) (ys : List ℕ) → AllBlocks P (below form m (xs ++ p ∷ ys)) → AllBlocks P (children (entries form m p))
  of_children P m xs p ys h =
      let rest = entries form m p ++ entries_over form m ys in
      let e : below form m (xs ++ p ∷ ys) ≡ children (entries_over form m xs) ++ children rest = ap children (entries_join form law site m xs (p ∷ ys)) ∙ children_join form law site (entries_over form m xs) rest in
      let f : children rest ≡ children (entries form m p) ++ children (entries_over form m ys) = children_join form law site (entries form m p) (entries_over form m ys) in
      let g : AllBlocks P (children rest) = all_right P (children (entries_over form m xs)) (children rest) (subst (AllBlocks P) e h) in
      all_left P (children (entries form m p)) (children (entries_over form m ys)) (subst (AllBlocks P) f g)

  -- and of the one on the way
  of_child : (P : ℕ → Type 0) (m : ℕ → List ℕ) (level p : ℕ) (r : R) → Serves form m level p → AllBlocks P (children (entries form m p)) → P (entry_on form r (m p)).child
  of_child P m level p r serves h =
      let front = front_on form r (m p) in
      let on = entry_on form r (m p) in
      let back = back_on form r (m p) in
      let e : children (entries form m p) ≡ children front ++ children (on ∷ back) = ap children (ways_part_lem form law m level p r serves).entries_are ∙ children_join form law site front (on ∷ back) in
      (all_right P (children front) (children (on ∷ back)) (subst (AllBlocks P) e h)).0

  -- each block of a row passes
  pub row_right : (m : ℕ → List ℕ) (level : ℕ) (ps : List ℕ) → IsForest form m site level ps → AllBlocks (IsRight form m site level true) ps
  unfolding IsForest
  row_right m zero ps h = h.0
  row_right m (suc level) ps h = h.0

  row_below : (m : ℕ → List ℕ) (level : ℕ) (ps : List ℕ) → IsForest form m site (suc level) ps → IsForest form m site level (below form m ps)
  unfolding IsForest
  row_below m level ps h = h.3

  module _ (frame : Frame) (how : Edit) (r : R) where
    leaf_turns : (m n : ℕ → List ℕ) (p : ℕ) (root : Bool) (parts fresh : List ℕ) → IsFrameOf site frame → MayStand form site how r → IsRight form m site 0 root p → LeafMade form site frame how r m n p parts fresh
        → Turns form site true m n 0 (p ∷ []) parts fresh [] (made form how r (recs_of form m 0 p))
    leaf_turns m n p root parts fresh of stand right (inl o) =
        let recs = made form how r (recs_of form m 0 p) in
        let leaf = o.2 in
        let t : Turns form site true m n 0 (p ∷ []) (p ∷ []) [] [] recs = leaf_edit_turns_lem form law site frame how r m n p leaf.at root of right leaf.place stand leaf.leaf leaf.others in
        subst (λ (ps : List ℕ). Turns form site true m n 0 (p ∷ []) ps fresh [] recs) (sym o.0) (subst (λ (fs : List ℕ). Turns form site true m n 0 (p ∷ []) (p ∷ []) fs [] recs) (sym o.1) t)
    leaf_turns m n p root parts fresh of stand right (inr o) =
        let recs = made form how r (recs_of form m 0 p) in
        let q = o.0 in
        let cut = o.3 in
        let t : Turns form site true m n 0 (p ∷ []) (p ∷ q ∷ []) (q ∷ []) [] recs = leaf_edit_splits_lem form law site frame how r m n p q cut.at cut.half cut.rest root of right cut.place stand cut.all cut.first cut.second cut.behind cut.stay.others cut.stay.nowhere in
        subst (λ (ps : List ℕ). Turns form site true m n 0 (p ∷ []) ps fresh [] recs) (sym o.1) (subst (λ (fs : List ℕ). Turns form site true m n 0 (p ∷ []) (p ∷ q ∷ []) fs [] recs) (sym o.2) t)

    module _ (m low n : ℕ → List ℕ) (level p : ℕ) (lower parts mine : List ℕ) (new : List (Entry K)) (below : List ℕ) (of : IsFrameOf site frame) (at : IsAtNode form site how r m level p)
        (done : IsDone form site how r true m low level p below lower [] new) where
      node_turns : NodeMade form site frame how r m low n level p new parts mine → (xs ys : List ℕ) → Fits form site m (suc level) xs (p ∷ []) ys (lower ++ mine)
          → Turns form site true m n (suc level) (p ∷ []) parts (lower ++ mine) [] (made form how r (recs_of form m (suc level) p))
      node_turns (inl o) xs ys fits =
          let recs = made form how r (recs_of form m (suc level) p) in
          let f : Fits form site m (suc level) xs (p ∷ []) ys (lower ++ []) = subst (λ (fs : List ℕ). Fits form site m (suc level) xs (p ∷ []) ys (lower ++ fs)) o.1 fits in
          let t : Turns form site true m n (suc level) (p ∷ []) (p ∷ []) (lower ++ []) [] recs = step_over_lem form law site frame how r true m low n level p xs ys below lower [] new of at f done o.2.node o.2.others in
          subst (λ (ps : List ℕ). Turns form site true m n (suc level) (p ∷ []) ps (lower ++ mine) [] recs) (sym o.0) (subst (λ (fs : List ℕ). Turns form site true m n (suc level) (p ∷ []) (p ∷ []) (lower ++ fs) [] recs) (sym o.1) t)
      node_turns (inr o) xs ys fits =
          let recs = made form how r (recs_of form m (suc level) p) in
          let q = o.0 in
          let cut = o.3 in
          let f : Fits form site m (suc level) xs (p ∷ []) ys (lower ++ (q ∷ [])) = subst (λ (fs : List ℕ). Fits form site m (suc level) xs (p ∷ []) ys (lower ++ fs)) o.2 fits in
          let t : Turns form site true m n (suc level) (p ∷ []) (p ∷ q ∷ []) (lower ++ (q ∷ [])) [] recs = step_cut_lem form law site frame how r true m low n level p q xs ys below lower [] new cut.front cut.back of at f done cut.all cut.first cut.second cut.behind cut.stay.others cut.stay.nowhere in
          subst (λ (ps : List ℕ). Turns form site true m n (suc level) (p ∷ []) ps (lower ++ mine) [] recs) (sym o.1) (subst (λ (fs : List ℕ). Turns form site true m n (suc level) (p ∷ []) (p ∷ q ∷ []) (lower ++ fs) [] recs) (sym o.2) t)

    serves_here : (m : ℕ → List ℕ) (level p : ℕ) → ServesDown form m r (suc level) p → Serves form m level p
    unfolding ServesDown
    serves_here m level p h = h.0

    serves_below : (m : ℕ → List ℕ) (level p : ℕ) → ServesDown form m r (suc level) p → ServesDown form m r level (entry_on form r (m p)).child
    unfolding ServesDown
    serves_below m level p h = h.1

    way_below : (m : ℕ → List ℕ) (level p : ℕ) → IsOnWay form site frame how r m (suc level) p → IsOnWay form site frame how r m level (entry_on form r (m p)).child
    way_below m level p way = record {
      low = omega (arith, way.low);
      serves = serves_below m level p way.serves;
      may = ((asks_go_down_lem form law m level p r (serves_here m level p way.serves)).may how).0 way.may;
    }

    all_turn : (m n : ℕ → List ℕ) (level p : ℕ) (root : Bool) (parts fresh : List ℕ) → IsFrameOf site frame → MayStand form site how r → IsRight form m site level root p → IsOnWay form site frame how r m level p → MadeFrom form site frame how r m n level p parts fresh
        → Turns form site true m n level (p ∷ []) parts fresh [] (made form how r (recs_of form m level p))
    all_turn m n zero p root parts fresh of stand right way made_leaf = leaf_turns m n p root parts fresh of stand right made_leaf
    all_turn m n (suc level) p root parts fresh of stand right way step = λ xs ys fits.
        let low = step.0 in
        let below = step.1 in
        let lower = step.2 in
        let mine = step.3 in
        let new = step.4 in
        let made_below = step.5 in
        let entries_of = step.6 in
        let is_fresh = step.7 in
        let node = step.8 in
        let recs = made form how r (recs_of form m (suc level) p) in
        let serves = serves_here m level p way.serves in
        let child = (entry_on form r (m p)).child in
        let rows = row_right m level (below_row form m (xs ++ p ∷ ys)) (row_below m level (xs ++ p ∷ ys) fits.forest) in
        let child_right : IsRight form m site level true child = of_child (IsRight form m site level true) m level p r serves (of_children (IsRight form m site level true) m xs p ys rows) in
        let at : IsAtNode form site how r m level p = record { few = way.low; root = root; right = right; serves = serves; may = way.may } in
        let done : IsDone form site how r true m low level p below lower [] new = record {
          lower = all_turn m low level child true below lower of stand child_right (way_below m level p way) made_below;
          lead = entries_of.lead;
          keyed = entries_of.keyed;
          inside = entries_of.inside;
          full = λ sure. entries_of.full;
        } in
        let f : Fits form site m (suc level) xs (p ∷ []) ys (lower ++ mine) = subst (Fits form site m (suc level) xs (p ∷ []) ys) is_fresh fits in
        let t : IsTurned form site true m n (suc level) xs (p ∷ []) ys parts (lower ++ mine) [] recs = node_turns m low n level p lower parts mine new below of at done node xs ys f xs ys f in
        subst (λ (fs : List ℕ). IsTurned form site true m n (suc level) xs (p ∷ []) ys parts fs [] recs) (sym is_fresh) t

pub made_turns_lem : {R K : Type 0} (form : Form R K) → IsLawful form → (site : Site) (frame : Frame) → MadeTurns form site frame
made_turns_lem form law site frame how r m n level p root parts fresh of stand right way step = all_turn form law site frame how r m n level p root parts fresh of stand right way step
