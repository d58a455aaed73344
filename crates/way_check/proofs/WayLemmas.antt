-- In a row that stands the keys of a block's own entries are those of all records below it.
use Rattle.std.proofs.Common.{◌≡◌, ℕ, zero, suc, ◌+◌, ◌<◌, ◌≤◌, Bool, true, false, List, [], ◌∷◌, ◌++◌, Option, Some, None, refl, sym, ap, subst, ◌∙◌, inl, inr, arith}
use Rattle.std.specs.Prelude.{not, ◌&&◌, ◌||◌}
use Rattle.std.proofs.lemmas.Bool.{and_parts}
use Rattle.sblock.specs.Blocks.{numrecs, records_of, IsRising}
use Rattle.sblock.specs.Form.{Form, IsLawful, same_key}
use Rattle.sblock.specs.Headers.{no_block}
use Rattle.sblock.specs.Kinds.{has_high_keys_of}
use Rattle.sblock.specs.Spans.{span_of, span_over}
use Rattle.sblock.specs.declared.block.Frame.{Frame}
use Rattle.sblock.specs.declared.spans.Span.{Span}
use Rattle.tree_defs.specs.Levels.{AllEntries, IsRight, entries, recs_of, over}
use Rattle.tree_defs.specs.Lists.{times}
use Rattle.tree_defs.specs.Tree.{Entry, agrees, entries_from}
use Rattle.tree_defs.specs.declared.site.Site.{Site}
use Rattle.tree_defs.proofs.Counts.{times_append}
use Rattle.list_edit.specs.declared.edits.Edit.{Edit}
use Rattle.edit_terms.specs.Made.{made, MayBe}
use Rattle.place_laws.specs.Forest.{AllBlocks, children, IsLinked, entries_over, below, blocks_over, IsKeyed, IsForest}
use Rattle.place_laws.specs.Keys.{spans_in, SpansAgree}
use Rattle.place_laws.specs.Passes.{IsFrameOf}
use Rattle.place_laws.specs.Turns.{Fits, IsTurned, Turns}
use Rattle.place_laws.proofs.ClimbLemmas.{keys_climb_lem, keys_serve_lem}
use Rattle.place_laws.proofs.ForestLemmas.{all_left, all_right, all_join}
use Rattle.place_laws.proofs.NodeLemmas.{children_join, entries_join, each_left, each_right}
use Rattle.place_ways.specs.Found.{ServesDown}
use Rattle.place_ways.specs.Ways.{Serves, entry_on, front_on, back_on}
use Rattle.place_ways.proofs.WayLemmas.{ways_part_lem, asks_go_down_lem}
use Rattle.place_turns.specs.Edits.{MayStand}
use Rattle.place_made.specs.Made.{LeafMade, NodeMade, AreEntriesOf, MadeFrom, IsOnWay}
use Rattle.place_made.proofs.MadeLemmas.{made_turns_lem, row_right}
use Rattle.way_check.specs.Way.{block_span, IsKeyedBy, AreEntriesBy, WayFrom, WaysMake}

append_twice : {A : Type 0} (xs ys zs : List A) → (xs ++ ys) ++ zs ≡ xs ++ (ys ++ zs)
append_twice [] ys zs = refl
append_twice (x ∷ xs) ys zs = ap (λ (t : List _). x ∷ t) (append_twice xs ys zs)

high_of : (c b : Bool) → (not c || b) ≡ true → c ≡ true → b ≡ true
high_of true b h e = h
high_of false b h e = let z : false ≡ true = e in cc

not_self : (a : Bool) → a ≡ false → (not a && not a) ≡ true
not_self true h = cc
not_self false h = refl

module _ {R K : Type 0} (form : Form R K) (law : IsLawful form) where
  one_key : (a : K) → same_key form a a ≡ true
  one_key a = not_self (form.is_before a a) (law.strict a)

  -- keys agree with themselves
  spans_same : (s : Option (Span K)) → SpansAgree form s s
  spans_same None = tt
  spans_same (Some s) = (one_key s.low, λ h. one_key s.high)

  -- an entry that has the keys of some blocks has those that agree with them
  served : (e : Entry K) (s t : Option (Span K)) → agrees form e s ≡ true → SpansAgree form s t → agrees form e t ≡ true
  served e None t h a = let z : false ≡ true = h in cc
  served e (Some s) t h a =
      let parts = and_parts (same_key form e.low s.low) (not (has_high_keys_of form.kind) || same_key form e.high s.high) h in
      keys_serve_lem form law e s t parts.0 (high_of (has_high_keys_of form.kind) (same_key form e.high s.high) parts.1) a

  -- the block's own keys are those of all records below it
  abbrev pub HasKeys : (ℕ → List ℕ) → ℕ → ℕ → Type 0
  HasKeys m level p = SpansAgree form (block_span form level (m p)) (span_of form (recs_of form m level p))

  leaf_keys : (m : ℕ → List ℕ) (p : ℕ) → HasKeys m 0 p
  unfolding recs_of
  leaf_keys m p = spans_same (span_of form (records_of form (m p)))

  leaves_keys : (m : ℕ → List ℕ) (ps : List ℕ) → AllBlocks (HasKeys m 0) ps
  leaves_keys m [] = tt
  leaves_keys m (p ∷ ps) = (leaf_keys m p, leaves_keys m ps)

  node_keys : (m : ℕ → List ℕ) (level p : ℕ) → AllEntries (IsKeyed form m level) (entries form m p) → HasKeys m (suc level) p
  unfolding recs_of
  node_keys m level p keyed = keys_climb_lem form law m level (entries form m p) keyed

  pub all_keyed : (m : ℕ → List ℕ) (level : ℕ) (es : List (Entry K)) → AllBlocks (HasKeys m level) (children es) → AllEntries (IsKeyedBy form m level) es → AllEntries (IsKeyed form m level) es
  all_keyed m level [] has by = tt
  all_keyed m level (e ∷ es) has by = (served e (block_span form level (m e.child)) (span_of form (recs_of form m level e.child)) by.0 has.0, all_keyed m level es has.1 by.1)

  module _ (site : Site) where
    nodes_keys : (m : ℕ → List ℕ) (level : ℕ) (ps : List ℕ) → AllEntries (IsKeyed form m level) (entries_over form m ps) → AllBlocks (HasKeys m (suc level)) ps
    nodes_keys m level [] keyed = tt
    nodes_keys m level (p ∷ ps) keyed = (
      node_keys m level p (each_left form law site (IsKeyed form m level) (entries form m p) (entries_over form m ps) keyed),
      nodes_keys m level ps (each_right form law site (IsKeyed form m level) (entries form m p) (entries_over form m ps) keyed),
    )

    -- so it is of each row of a forest
    row_keys : (m : ℕ → List ℕ) (level : ℕ) (ps : List ℕ) → IsForest form m site level ps → AllBlocks (HasKeys m level) ps
    unfolding IsForest
    row_keys m zero ps forest = leaves_keys m ps
    row_keys m (suc level) ps forest = nodes_keys m level ps forest.2

    parts_keys : (m : ℕ → List ℕ) (level : ℕ) (xs parts ys : List ℕ) → IsForest form m site level (xs ++ (parts ++ ys)) → AllBlocks (HasKeys m level) parts
    parts_keys m level xs parts ys forest = all_left (HasKeys m level) parts ys (all_right (HasKeys m level) xs (parts ++ ys) (row_keys m level (xs ++ (parts ++ ys)) forest))

    -- ---- the row below

    module _ (m : ℕ → List ℕ) (level p : ℕ) (r : R) (serves : Serves form m level p) (xs ys bfresh fresh : List ℕ) (fits : Fits form site m (suc level) xs (p ∷ []) ys (bfresh ++ fresh)) where
      abbrev child : ℕ
      child = (entry_on form r (m p)).child

      abbrev pub cs1 : List ℕ
      cs1 = below form m xs ++ children (front_on form r (m p))

      abbrev pub cs2 : List ℕ
      cs2 = children (back_on form r (m p)) ++ below form m ys

      abbrev Forest : Type 0
      Forest = AllBlocks (IsRight form m site (suc level) true) (xs ++ p ∷ ys) × IsLinked m (xs ++ p ∷ ys) × AllEntries (IsKeyed form m level) (entries_over form m (xs ++ p ∷ ys)) × IsForest form m site level (below form m (xs ++ p ∷ ys))

      forest : Forest
      unfolding IsForest
      forest = fits.forest

      own_children : children (entries form m p) ≡ children (front_on form r (m p)) ++ (child ∷ children (back_on form r (m p)))
      own_children = ap children (ways_part_lem form law m level p r serves).entries_are ∙ children_join form law site (front_on form r (m p)) (entry_on form r (m p) ∷ back_on form r (m p))

      lower_row : below form m (xs ++ p ∷ ys) ≡ cs1 ++ (child ∷ cs2)
      lower_row =
          ap children (entries_join form law site m xs (p ∷ ys))
          ∙ (children_join form law site (entries_over form m xs) (entries form m p ++ entries_over form m ys)
          ∙ (ap (λ (t : List ℕ). below form m xs ++ t)
          (children_join form law site (entries form m p) (entries_over form m ys)
          ∙ (ap (λ (t : List ℕ). t ++ below form m ys) own_children ∙ append_twice (children (front_on form r (m p))) (child ∷ children (back_on form r (m p))) (below form m ys)))
          ∙ sym (append_twice (below form m xs) (children (front_on form r (m p))) (child ∷ cs2))))

      old_blocks : blocks_over form m (suc level) (xs ++ p ∷ ys) ≡ (xs ++ p ∷ ys) ++ blocks_over form m level (cs1 ++ (child ∷ cs2))
      unfolding blocks_over
      old_blocks = ap (λ (cs : List ℕ). (xs ++ p ∷ ys) ++ blocks_over form m level cs) lower_row

      all_once : (b : ℕ) → times b (xs ++ p ∷ ys) + times b (blocks_over form m level (cs1 ++ (child ∷ cs2))) + (times b bfresh + times b fresh) ≤ 1
      all_once b =
          let d : times b (blocks_over form m (suc level) (xs ++ p ∷ ys) ++ (bfresh ++ fresh)) ≤ 1 = fits.differ b in
          omega (
            arith,
            d,
            ap (times b) old_blocks,
            times_append b (blocks_over form m (suc level) (xs ++ p ∷ ys)) (bfresh ++ fresh),
            times_append b (xs ++ p ∷ ys) (blocks_over form m level (cs1 ++ (child ∷ cs2))),
            times_append b bfresh fresh,
          )

      all_some : AllBlocks (λ b. b < no_block) ((xs ++ p ∷ ys) ++ blocks_over form m level (cs1 ++ (child ∷ cs2)))
      all_some = subst (AllBlocks (λ b. b < no_block)) old_blocks (all_left (λ b. b < no_block) (blocks_over form m (suc level) (xs ++ p ∷ ys)) (bfresh ++ fresh) fits.some)

      fresh_some : AllBlocks (λ b. b < no_block) bfresh
      fresh_some = all_left (λ b. b < no_block) bfresh fresh (all_right (λ b. b < no_block) (blocks_over form m (suc level) (xs ++ p ∷ ys)) (bfresh ++ fresh) fits.some)

      -- fits as well, around the child on the way
      pub lower_fits : Fits form site m level cs1 (child ∷ []) cs2 bfresh
      lower_fits = record {
        forest = subst (IsForest form m site level) lower_row forest.3;
        differ = λ b. omega (arith, all_once b, times_append b (blocks_over form m level (cs1 ++ (child ∷ cs2))) bfresh);
        some = all_join (λ b. b < no_block) (blocks_over form m level (cs1 ++ (child ∷ cs2))) bfresh (all_right (λ b. b < no_block) (xs ++ p ∷ ys) (blocks_over form m level (cs1 ++ (child ∷ cs2))) all_some) fresh_some;
      }

    module _ (frame : Frame) (how : Edit) (r : R) (of : IsFrameOf site frame) (stand : MayStand form site how r) where
      serves_here : (m : ℕ → List ℕ) (level p : ℕ) → ServesDown form m r (suc level) p → Serves form m level p
      unfolding ServesDown
      serves_here m level p h = h.0

      serves_below : (m : ℕ → List ℕ) (level p : ℕ) → ServesDown form m r (suc level) p → ServesDown form m r level (entry_on form r (m p)).child
      unfolding ServesDown
      serves_below m level p h = h.1

      on_way_below : (m : ℕ → List ℕ) (level p : ℕ) → IsOnWay form site frame how r m (suc level) p → IsOnWay form site frame how r m level (entry_on form r (m p)).child
      on_way_below m level p way = record {
        low = omega (arith, way.low);
        serves = serves_below m level p way.serves;
        may = ((asks_go_down_lem form law m level p r (serves_here m level p way.serves)).may how).0 way.may;
      }

      right_of_row : (m : ℕ → List ℕ) (level p : ℕ) (xs ys fresh : List ℕ) → Fits form site m level xs (p ∷ []) ys fresh → IsRight form m site level true p
      right_of_row m level p xs ys fresh fits = (all_right (IsRight form m site level true) xs (p ∷ ys) (row_right form law site m level (xs ++ p ∷ ys) fits.forest)).0

      -- what was made has the keys of all records below it
      pub made_keys : (m n : ℕ → List ℕ) (level p : ℕ) (xs ys parts fresh : List ℕ) → IsOnWay form site frame how r m level p → Fits form site m level xs (p ∷ []) ys fresh → MadeFrom form site frame how r m n level p parts fresh → AllBlocks (HasKeys n level) parts
      made_keys m n level p xs ys parts fresh way fits step =
          let turns = made_turns_lem form law site frame how r m n level p true parts fresh of stand (right_of_row m level p xs ys fresh fits) way step in
          parts_keys n level xs parts ys (turns xs ys fits).forest

      way_made : (m n : ℕ → List ℕ) (level p : ℕ) (xs ys parts fresh : List ℕ) → IsOnWay form site frame how r m level p → Fits form site m level xs (p ∷ []) ys fresh → WayFrom form site frame how r m n level p parts fresh → MadeFrom form site frame how r m n level p parts fresh
      way_made m n zero p xs ys parts fresh way fits step = step
      way_made m n (suc level) p xs ys parts fresh way fits step =
          let low = step.0 in
          let below_parts = step.1 in
          let lower = step.2 in
          let mine = step.3 in
          let new = step.4 in
          let by = step.6 in
          let serves = serves_here m level p way.serves in
          let f : Fits form site m (suc level) xs (p ∷ []) ys (lower ++ mine) = subst (Fits form site m (suc level) xs (p ∷ []) ys) step.7 fits in
          let lf = lower_fits m level p r serves xs ys lower mine f in
          let way_low = on_way_below m level p way in
          let made_low = way_made m low level (entry_on form r (m p)).child (cs1 m level p r serves xs ys lower mine f) (cs2 m level p r serves xs ys lower mine f) below_parts lower way_low lf step.5 in
          let keys = made_keys m low level (entry_on form r (m p)).child (cs1 m level p r serves xs ys lower mine f) (cs2 m level p r serves xs ys lower mine f) below_parts lower way_low lf made_low in
          let of_entries : AreEntriesOf form site frame how r low level below_parts new = record {
            lead = by.lead;
            keyed = all_keyed low level new (subst (AllBlocks (HasKeys low level)) (sym by.lead) keys) by.keyed;
            inside = by.inside;
            full = by.full;
          } in
          (low, below_parts, lower, mine, new, made_low, of_entries, step.7, step.8)

pub ways_make_lem : {R K : Type 0} (form : Form R K) → IsLawful form → (site : Site) (frame : Frame) → WaysMake form site frame
ways_make_lem form law site frame how r m n level p xs ys parts fresh of stand way fits step = way_made form law site frame how r of stand m n level p xs ys parts fresh way fits step
