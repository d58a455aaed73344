-- What an edit makes of a node of which one child became some blocks.
use Rattle.std.proofs.Common.{◌≡◌, ℕ, zero, suc, ◌+◌, ◌<◌, ◌≤◌, Bool, true, false, List, [], ◌∷◌, ◌++◌, refl, sym, ap, subst, ◌∙◌, arith}
use Rattle.std.specs.Prelude.{◌≢◌}
use Rattle.sblock.specs.Form.{Form, IsLawful}
use Rattle.sblock.specs.Headers.{no_block}
use Rattle.sblock.specs.Spans.{span_of}
use Rattle.tree_defs.specs.Levels.{over, AllEntries, IsRight, entries, recs_of}
use Rattle.tree_defs.specs.Lists.{times, AllDiffer}
use Rattle.sblock.specs.Blocks.{numrecs}
use Rattle.tree_defs.specs.Tree.{Entry, entries_from}
use Rattle.tree_defs.specs.declared.site.Site.{Site}
use Rattle.tree_defs.proofs.Counts.{times_append}
use Rattle.place_laws.specs.Forest.{AllBlocks, children, SameOn, IsLinked, entries_over, below, recs_over, blocks_over, IsKeyed, IsForest, AreFull, AreFullBelow, IsRowOver}
use Rattle.place_laws.specs.Turns.{IsAlike, IsRow, IsRowed, Rows, Fits, IsTurned, Turns, SameEntries, IsNodeTurned, NodesTurn}
use Rattle.place_laws.proofs.ForestLemmas.{all_left, all_right, all_join, linked_stays, right_stays, stays}
use Rattle.place_laws.proofs.KeyLemmas.{agrees_too}
use Rattle.place_laws.proofs.RowLemmas.{rows_stand_lem, recs_join, recs_lower, recs_over_same, over_children}
use Rattle.place_laws.proofs.TurnLemmas.{all_members, all_map, all_both, apart, alike_entries, alike_entries_over, right_row, times_three}

append_twice : {A : Type 0} (xs ys zs : List A) → (xs ++ ys) ++ zs ≡ xs ++ (ys ++ zs)
append_twice [] ys zs = refl
append_twice (x ∷ xs) ys zs = ap (λ (t : List _). x ∷ t) (append_twice xs ys zs)

module _ {R K : Type 0} (form : Form R K) (lawful : IsLawful form) (site : Site) where
  pub children_join : (xs ys : List (Entry K)) → children (xs ++ ys) ≡ children xs ++ children ys
  children_join [] ys = refl
  children_join (x ∷ xs) ys = ap (λ (cs : List ℕ). x.child ∷ cs) (children_join xs ys)

  pub entries_join : (m : ℕ → List ℕ) (xs ys : List ℕ) → entries_over form m (xs ++ ys) ≡ entries_over form m xs ++ entries_over form m ys
  entries_join m [] ys = refl
  entries_join m (x ∷ xs) ys = ap (λ (es : List (Entry K)). entries form m x ++ es) (entries_join m xs ys) ∙ sym (append_twice (entries form m x) (entries_over form m xs) (entries_over form m ys))

  pub ap_entries : (m n : ℕ → List ℕ) (ps : List ℕ) → SameOn m n ps → entries_over form n ps ≡ entries_over form m ps
  ap_entries m n [] same = refl
  ap_entries m n (p ∷ ps) same = rw (same.0, ap_entries m n ps same.1) refl

  pub each_left : (P : Entry K → Type 0) (xs ys : List (Entry K)) → AllEntries P (xs ++ ys) → AllEntries P xs
  each_left P [] ys h = tt
  each_left P (x ∷ xs) ys h = (h.0, each_left P xs ys h.1)

  pub each_right : (P : Entry K → Type 0) (xs ys : List (Entry K)) → AllEntries P (xs ++ ys) → AllEntries P ys
  each_right P [] ys h = h
  each_right P (x ∷ xs) ys h = each_right P xs ys h.1

  pub each_join : (P : Entry K → Type 0) (xs ys : List (Entry K)) → AllEntries P xs → AllEntries P ys → AllEntries P (xs ++ ys)
  each_join P [] ys a b = b
  each_join P (x ∷ xs) ys a b = (a.0, each_join P xs ys a.1 b)

  pub same_children : (es fs : List (Entry K)) → SameEntries form site es fs → children fs ≡ children es
  same_children [] [] h = refl
  same_children [] (f ∷ fs) h = absurd h
  same_children (e ∷ es) [] h = absurd h
  same_children (e ∷ es) (f ∷ fs) h = rw (h.0, same_children es fs h.3) refl

  module _ (m low : ℕ → List ℕ) (level : ℕ) where
    keyed_same : (es : List (Entry K)) → AllBlocks (λ b. recs_of form low level b ≡ recs_of form m level b) (children es) → AllEntries (IsKeyed form m level) es → AllEntries (IsKeyed form low level) es
    keyed_same [] same h = tt
    keyed_same (e ∷ es) same h = (rw same.0 h.0, keyed_same es same.1 h.1)

    pub keyed_moved : (es fs : List (Entry K)) → SameEntries form site es fs → AllEntries (IsKeyed form low level) es → AllEntries (IsKeyed form low level) fs
    keyed_moved [] [] h k = tt
    keyed_moved [] (f ∷ fs) h k = absurd h
    keyed_moved (e ∷ es) [] h k = absurd h
    keyed_moved (e ∷ es) (f ∷ fs) h k =
        (agrees_too form lawful e f (span_of form (recs_of form low level f.child)) h.1 h.2 (subst (λ (c : ℕ). IsKeyed form low level (record { low = e.low; high = e.high; child = c })) (sym h.0) k.0), keyed_moved es fs h.3 k.1)

  full_here : (m : ℕ → List ℕ) (level : ℕ) (ps : List ℕ) → AreFull form m site level ps → AllBlocks (IsRight form m site level false) ps
  unfolding AreFull
  full_here m zero ps h = h
  full_here m (suc level) ps h = h.0

  pub full_lower : (m : ℕ → List ℕ) (level : ℕ) (ps : List ℕ) → AreFull form m site level ps → AreFullBelow form m site level ps
  unfolding AreFull
  full_lower m zero ps h = tt
  full_lower m (suc level) ps h = h.1

  full_both : (m : ℕ → List ℕ) (level : ℕ) (ps : List ℕ) → AllBlocks (IsRight form m site level false) ps → AreFullBelow form m site level ps → AreFull form m site level ps
  unfolding AreFull
  full_both m zero ps h k = h
  full_both m (suc level) ps h k = (h, k)

  full_below_stays : (m n : ℕ → List ℕ) (level : ℕ) (ps : List ℕ) → SameOn m n (blocks_over form m level ps) → AreFullBelow form m site level ps → AreFullBelow form n site level ps
  unfolding blocks_over
  full_below_stays m n zero ps same h = tt
  full_below_stays m n (suc level) ps same h =
      let e : below form n ps ≡ below form m ps = ap children (ap_entries m n ps (all_left (λ b. n b ≡ m b) ps (blocks_over form m level (below form m ps)) same)) in
      subst (AreFull form n site level) (sym e) ((stays m n form site level (below form m ps) (all_right (λ b. n b ≡ m b) ps (blocks_over form m level (below form m ps)) same)).full h)

  module _ (sure : Bool) (m low n : ℕ → List ℕ) (level p : ℕ) (parts fresh bold bparts bfresh freed : List ℕ) (brecs : List R) (front back old front' back' new : List (Entry K))
      (lower : Turns form site true m low level bold bparts bfresh freed brecs)
      (node : IsNodeTurned form site sure m low n level p parts fresh bold bparts front back old front' back' new)
      (xs ys : List ℕ) (fits : Fits form site m (suc level) xs (p ∷ []) ys (bfresh ++ fresh)) where
    abbrev cs1 : List ℕ
    cs1 = below form m xs ++ children front

    abbrev cs2 : List ℕ
    cs2 = children back ++ below form m ys

    abbrev Forest : Type 0
    Forest = AllBlocks (IsRight form m site (suc level) true) (xs ++ p ∷ ys) × IsLinked m (xs ++ p ∷ ys) × AllEntries (IsKeyed form m level) (entries_over form m (xs ++ p ∷ ys)) × IsForest form m site level (below form m (xs ++ p ∷ ys))

    forest : Forest
    unfolding IsForest
    forest = fits.forest

    -- the entries of the row before
    all_entries : entries_over form m (xs ++ p ∷ ys) ≡ entries_over form m xs ++ ((front ++ (old ++ back)) ++ entries_over form m ys)
    all_entries = entries_join m xs (p ∷ ys) ∙ ap (λ (es : List (Entry K)). entries_over form m xs ++ (es ++ entries_over form m ys)) node.had

    lower_row : below form m (xs ++ p ∷ ys) ≡ cs1 ++ (bold ++ cs2)
    lower_row =
        ap children all_entries
        ∙ (children_join (entries_over form m xs) ((front ++ (old ++ back)) ++ entries_over form m ys)
        ∙ (ap (λ (cs : List ℕ). below form m xs ++ cs)
        (children_join (front ++ (old ++ back)) (entries_over form m ys)
        ∙ (ap (λ (cs : List ℕ). cs ++ below form m ys) (children_join front (old ++ back) ∙ ap (λ (cs : List ℕ). children front ++ cs) (children_join old back ∙ ap (λ (cs : List ℕ). cs ++ children back) node.led)) ∙ (append_twice (children front) (bold ++ children back) (below form m ys) ∙ ap (λ (cs : List ℕ). children front ++ cs) (append_twice bold (children back) (below form m ys)))))
        ∙ sym (append_twice (below form m xs) (children front) (bold ++ cs2))))

    old_blocks : blocks_over form m (suc level) (xs ++ p ∷ ys) ≡ (xs ++ p ∷ ys) ++ blocks_over form m level (cs1 ++ (bold ++ cs2))
    unfolding blocks_over
    old_blocks = ap (λ (cs : List ℕ). (xs ++ p ∷ ys) ++ blocks_over form m level cs) lower_row

    -- how often a block stands in the row, below it, and among the fresh ones
    all_once : (b : ℕ) → times b (xs ++ p ∷ ys) + times b (blocks_over form m level (cs1 ++ (bold ++ cs2))) + (times b bfresh + times b fresh) ≤ 1
    all_once b =
        let d : times b (blocks_over form m (suc level) (xs ++ p ∷ ys) ++ (bfresh ++ fresh)) ≤ 1 = fits.differ b in
        omega (
          arith,
          d,
          ap (times b) old_blocks,
          times_append b (blocks_over form m (suc level) (xs ++ p ∷ ys)) (bfresh ++ fresh),
          times_append b (xs ++ p ∷ ys) (blocks_over form m level (cs1 ++ (bold ++ cs2))),
          times_append b bfresh fresh,
        )

    all_some : AllBlocks (λ b. b < no_block) ((xs ++ p ∷ ys) ++ blocks_over form m level (cs1 ++ (bold ++ cs2)))
    all_some = subst (AllBlocks (λ b. b < no_block)) old_blocks (all_left (λ b. b < no_block) (blocks_over form m (suc level) (xs ++ p ∷ ys)) (bfresh ++ fresh) fits.some)

    fresh_some : AllBlocks (λ b. b < no_block) bfresh
    fresh_some = all_left (λ b. b < no_block) bfresh fresh (all_right (λ b. b < no_block) (blocks_over form m (suc level) (xs ++ p ∷ ys)) (bfresh ++ fresh) fits.some)

    lower_fits : Fits form site m level cs1 bold cs2 bfresh
    lower_fits = record {
      forest = subst (IsForest form m site level) lower_row forest.3;
      differ = λ b. omega (arith, all_once b, times_append b (blocks_over form m level (cs1 ++ (bold ++ cs2))) bfresh);
      some = all_join (λ b. b < no_block) (blocks_over form m level (cs1 ++ (bold ++ cs2))) bfresh (all_right (λ b. b < no_block) (xs ++ p ∷ ys) (blocks_over form m level (cs1 ++ (bold ++ cs2))) all_some) fresh_some;
    }

    turned : IsTurned form site true m low level cs1 bold cs2 bparts bfresh freed brecs
    turned = lower cs1 cs2 lower_fits

    -- the row's own blocks are as they were
    row_same : SameOn m low (xs ++ p ∷ ys)
    row_same = all_members (λ b. low b ≡ m b) (xs ++ p ∷ ys) (λ b some. turned.others b (omega (arith, all_once b, some)) (omega (arith, all_once b, some)))

    low_row : IsRow form site low xs (p ∷ []) ys fresh
    low_row = record {
      linked = linked_stays m low (xs ++ p ∷ ys) row_same forest.1;
      differ = λ b. omega (arith, all_once b, times_append b (xs ++ p ∷ ys) fresh);
      some = all_left (λ b. b < no_block) (xs ++ p ∷ ys) (blocks_over form m level (cs1 ++ (bold ++ cs2))) all_some;
    }

    rowed : IsRowed form site low n (suc level) xs ys parts
    rowed = node.rows.row xs ys low_row

    low_blocks : (b : ℕ) → times b (blocks_over form low level (cs1 ++ (bparts ++ cs2))) + times b freed ≡ times b (blocks_over form m level (cs1 ++ (bold ++ cs2))) + times b bfresh
    low_blocks = turned.blocks

    below_same : SameOn low n (blocks_over form low level (cs1 ++ (bparts ++ cs2)))
    below_same = all_members (λ b. n b ≡ low b) (blocks_over form low level (cs1 ++ (bparts ++ cs2)))
        (λ b some. node.rows.others xs ys low_row b (omega (arith, all_once b, some, low_blocks b)) (omega (arith, all_once b, some, low_blocks b)))

    -- entries of the others
    front_entries : entries_over form n xs ≡ entries_over form m xs
    front_entries =
        alike_entries_over form site low n (suc level) xs rowed.front ∙ ap_entries m low xs (all_left (λ b. low b ≡ m b) xs (p ∷ ys) row_same)

    back_entries : entries_over form n ys ≡ entries_over form m ys
    back_entries =
        alike_entries_over form site low n (suc level) ys rowed.back ∙ ap_entries m low ys (all_right (λ b. low b ≡ m b) xs (p ∷ ys) row_same).1

    new_entries : entries_over form n (xs ++ (parts ++ ys)) ≡ entries_over form m xs ++ ((front' ++ (new ++ back')) ++ entries_over form m ys)
    new_entries =
        entries_join n xs (parts ++ ys)
        ∙ (ap (λ (es : List (Entry K)). es ++ entries_over form n (parts ++ ys)) front_entries
        ∙ ap (λ (es : List (Entry K)). entries_over form m xs ++ es) (entries_join n parts ys ∙ (ap (λ (es : List (Entry K)). es ++ entries_over form n ys) node.has ∙ ap (λ (es : List (Entry K)). (front' ++ (new ++ back')) ++ es) back_entries)))

    parts_children : children (front' ++ (new ++ back')) ≡ children front ++ (bparts ++ children back)
    parts_children =
        children_join front' (new ++ back')
        ∙ (ap (λ (cs : List ℕ). cs ++ children (new ++ back')) (same_children front front' node.same_front)
        ∙ ap (λ (cs : List ℕ). children front ++ cs) (children_join new back' ∙ (ap (λ (cs : List ℕ). cs ++ children back') node.new_lead ∙ ap (λ (cs : List ℕ). bparts ++ cs) (same_children back back' node.same_back))))

    leads : below form n (xs ++ (parts ++ ys)) ≡ cs1 ++ (bparts ++ cs2)
    leads =
        ap children new_entries
        ∙ (children_join (entries_over form m xs) ((front' ++ (new ++ back')) ++ entries_over form m ys)
        ∙ (ap (λ (cs : List ℕ). below form m xs ++ cs)
        (children_join (front' ++ (new ++ back')) (entries_over form m ys)
        ∙ (ap (λ (cs : List ℕ). cs ++ below form m ys) parts_children ∙ (append_twice (children front) (bparts ++ children back) (below form m ys) ∙ ap (λ (cs : List ℕ). children front ++ cs) (append_twice bparts (children back) (below form m ys)))))
        ∙ sym (append_twice (below form m xs) (children front) (bparts ++ cs2))))

    -- the keys of the old entries hold in the image once what is below was changed
    xs_keyed : AllEntries (IsKeyed form low level) (entries_over form m xs)
    xs_keyed = keyed_same m low level (entries_over form m xs) (all_left _ (below form m xs) (children front) turned.front)
        (each_left (IsKeyed form m level) (entries_over form m xs) ((front ++ (old ++ back)) ++ entries_over form m ys) (subst (AllEntries (IsKeyed form m level)) all_entries forest.2))

    rest_keyed : AllEntries (IsKeyed form m level) ((front ++ (old ++ back)) ++ entries_over form m ys)
    rest_keyed = each_right (IsKeyed form m level) (entries_over form m xs) ((front ++ (old ++ back)) ++ entries_over form m ys) (subst (AllEntries (IsKeyed form m level)) all_entries forest.2)

    p_keyed : AllEntries (IsKeyed form m level) (front ++ (old ++ back))
    p_keyed = each_left (IsKeyed form m level) (front ++ (old ++ back)) (entries_over form m ys) rest_keyed

    front_keyed : AllEntries (IsKeyed form low level) front'
    front_keyed = keyed_moved m low level front front' node.same_front
        (keyed_same m low level front (all_right _ (below form m xs) (children front) turned.front) (each_left (IsKeyed form m level) front (old ++ back) p_keyed))

    back_keyed : AllEntries (IsKeyed form low level) back'
    back_keyed = keyed_moved m low level back back' node.same_back
        (keyed_same m low level back (all_left _ (children back) (below form m ys) turned.back) (each_right (IsKeyed form m level) old back (each_right (IsKeyed form m level) front (old ++ back) p_keyed)))

    ys_keyed : AllEntries (IsKeyed form low level) (entries_over form m ys)
    ys_keyed = keyed_same m low level (entries_over form m ys) (all_right _ (children back) (below form m ys) turned.back)
        (each_right (IsKeyed form m level) (front ++ (old ++ back)) (entries_over form m ys) rest_keyed)

    all_keyed : AllEntries (IsKeyed form low level) (entries_over form n (xs ++ (parts ++ ys)))
    all_keyed = subst (AllEntries (IsKeyed form low level)) (sym new_entries)
        (each_join (IsKeyed form low level) (entries_over form m xs) ((front' ++ (new ++ back')) ++ entries_over form m ys) xs_keyed
        (each_join (IsKeyed form low level) (front' ++ (new ++ back')) (entries_over form m ys)
        (each_join (IsKeyed form low level) front' (new ++ back') front_keyed (each_join (IsKeyed form low level) new back' node.keyed back_keyed)) ys_keyed))

    row_over : IsRowOver form site low n level (cs1 ++ (bparts ++ cs2)) (xs ++ (parts ++ ys))
    row_over = record {
      lower = turned.forest;
      same = below_same;
      leads = leads;
      right = right_row form site low n (suc level) xs (p ∷ []) ys parts fresh [] node.rows rowed (right_stays m low form site (suc level) (xs ++ p ∷ ys) row_same forest.0);
      linked = rowed.linked;
      keyed = all_keyed;
    }

    stands : IsForest form n site (suc level) (xs ++ (parts ++ ys)) × (recs_over form n (suc level) (xs ++ (parts ++ ys)) ≡ recs_over form low level (cs1 ++ (bparts ++ cs2))) × (blocks_over form n (suc level) (xs ++ (parts ++ ys)) ≡ (xs ++ (parts ++ ys)) ++ blocks_over form low level (cs1 ++ (bparts ++ cs2)))
    stands = rows_stand_lem form site low n level (cs1 ++ (bparts ++ cs2)) (xs ++ (parts ++ ys)) row_over

    -- the blocks below have the records that they had in the lower image
    n_low : AllBlocks (λ b. recs_of form n level b ≡ recs_of form low level b) (cs1 ++ (bparts ++ cs2))
    n_low = (stays low n form site level (cs1 ++ (bparts ++ cs2)) below_same).each

    two_steps : (ps : List ℕ) → AllBlocks (λ b. recs_of form n level b ≡ recs_of form low level b) ps → AllBlocks (λ b. recs_of form low level b ≡ recs_of form m level b) ps → AllBlocks (λ b. recs_of form n level b ≡ recs_of form m level b) ps
    two_steps ps a b = all_both _ _ _ ps (λ q x y. x ∙ y) a b

    cs1_same : AllBlocks (λ b. recs_of form n level b ≡ recs_of form m level b) cs1
    cs1_same = two_steps cs1 (all_left _ cs1 (bparts ++ cs2) n_low) turned.front

    cs2_same : AllBlocks (λ b. recs_of form n level b ≡ recs_of form m level b) cs2
    cs2_same = two_steps cs2 (all_right _ bparts cs2 (all_right _ cs1 (bparts ++ cs2) n_low)) turned.back

    other_recs : (q : ℕ) → entries form n q ≡ entries form m q → AllBlocks (λ b. recs_of form n level b ≡ recs_of form m level b) (children (entries form m q)) → recs_of form n (suc level) q ≡ recs_of form m (suc level) q
    unfolding recs_of
    other_recs q same each = rw same (over_children form n level (entries form m q) ∙ (recs_over_same form m n level (children (entries form m q)) each ∙ sym (over_children form m level (entries form m q))))

    others_recs : (qs : List ℕ) → AllBlocks (λ q. entries form n q ≡ entries form m q) qs → AllBlocks (λ b. recs_of form n level b ≡ recs_of form m level b) (below form m qs) → AllBlocks (λ b. recs_of form n (suc level) b ≡ recs_of form m (suc level) b) qs
    others_recs [] same each = tt
    others_recs (q ∷ qs) same each =
        let both = subst (AllBlocks (λ b. recs_of form n level b ≡ recs_of form m level b)) (children_join (entries form m q) (entries_over form m qs)) each in
        (other_recs q same.0 (all_left _ (children (entries form m q)) (below form m qs) both), others_recs qs same.1 (all_right _ (children (entries form m q)) (below form m qs) both))

    each_entries : (qs : List ℕ) → AllBlocks (IsAlike form site low n (suc level)) qs → SameOn m low qs → AllBlocks (λ q. entries form n q ≡ entries form m q) qs
    each_entries qs alike same = all_both _ _ _ qs (λ q a s. alike_entries form site low n (suc level) q a ∙ ap (λ (bytes : List ℕ). entries_from form bytes 0 (numrecs bytes)) s) alike same

    parts_recs : recs_over form n (suc level) parts ≡ over (recs_of form m level) front ++ (brecs ++ over (recs_of form m level) back)
    parts_recs =
        recs_lower form n level parts
        ∙ (ap (recs_over form n level) (ap children node.has ∙ parts_children)
        ∙ (recs_join form n level (children front) (bparts ++ children back)
        ∙ (ap (λ (rs : List R). rs ++ recs_over form n level (bparts ++ children back)) (recs_over_same form m n level (children front) (all_right _ (below form m xs) (children front) cs1_same) ∙ sym (over_children form m level front))
        ∙ ap (λ (rs : List R). over (recs_of form m level) front ++ rs)
        (recs_join form n level bparts (children back)
        ∙ (ap (λ (rs : List R). rs ++ recs_over form n level (children back)) (recs_over_same form low n level bparts (all_left _ bparts cs2 (all_right _ cs1 (bparts ++ cs2) n_low)) ∙ turned.recs_are)
        ∙ ap (λ (rs : List R). brecs ++ rs) (recs_over_same form m n level (children back) (all_left _ (children back) (below form m ys) cs2_same) ∙ sym (over_children form m level back)))))))

    node_blocks : (b : ℕ) → times b (blocks_over form n (suc level) (xs ++ (parts ++ ys))) + times b freed ≡ times b (blocks_over form m (suc level) (xs ++ p ∷ ys)) + times b (bfresh ++ fresh)
    node_blocks b =
        omega (
          arith,
          ap (times b) stands.2,
          ap (times b) old_blocks,
          times_append b (xs ++ (parts ++ ys)) (blocks_over form low level (cs1 ++ (bparts ++ cs2))),
          times_append b (xs ++ p ∷ ys) (blocks_over form m level (cs1 ++ (bold ++ cs2))),
          times_append b bfresh fresh,
          times_three form site b xs (p ∷ []) ys parts fresh [] (node.rows.parts_are b),
          low_blocks b,
        )

    two_fulls : (qs : List ℕ) → AllBlocks (IsAlike form site low n (suc level)) qs → SameOn m low qs → AllBlocks (λ b. IsRight form m site (suc level) false b → IsRight form n site (suc level) false b) qs
    two_fulls qs alike same = all_both (IsAlike form site low n (suc level)) (λ b. low b ≡ m b) (λ b. IsRight form m site (suc level) false b → IsRight form n site (suc level) false b) qs (λ b a s h. a.right false (rw s h)) alike same

    -- none below has too few
    low_full : AreFullBelow form m site (suc level) (xs ++ p ∷ ys) → AreFullBelow form low site level (cs1 ++ (bparts ++ cs2))
    low_full h = turned.full refl (full_lower m level (cs1 ++ (bold ++ cs2)) (subst (AreFull form m site level) lower_row h))

    n_full_below : AreFullBelow form m site (suc level) (xs ++ p ∷ ys) → AreFullBelow form n site level (cs1 ++ (bparts ++ cs2))
    n_full_below h = full_below_stays low n level (cs1 ++ (bparts ++ cs2)) below_same (low_full h)

    row_full : AreFullBelow form m site (suc level) (xs ++ p ∷ ys) → AllBlocks (IsRight form low site level false) bparts → AllBlocks (IsRight form low site level false) (cs1 ++ (bparts ++ cs2))
    row_full h mid =
        let old_row = full_here m level (cs1 ++ (bold ++ cs2)) (subst (AreFull form m site level) lower_row h) in
        all_join (IsRight form low site level false) cs1 (bparts ++ cs2) (all_both (λ b. IsRight form m site level false b → IsRight form low site level false b) (IsRight form m site level false) (IsRight form low site level false) cs1 (λ b f h. f h) turned.front_full (all_left (IsRight form m site level false) cs1 (bold ++ cs2) old_row))
        (all_join (IsRight form low site level false) bparts cs2 mid (all_both (λ b. IsRight form m site level false b → IsRight form low site level false b) (IsRight form m site level false) (IsRight form low site level false) cs2 (λ b f h. f h) turned.back_full (all_right (IsRight form m site level false) bold cs2 (all_right (IsRight form m site level false) cs1 (bold ++ cs2) old_row))))

    all_full : AreFullBelow form m site (suc level) (xs ++ p ∷ ys) → AllBlocks (IsRight form low site level false) bparts → AreFull form n site level (cs1 ++ (bparts ++ cs2))
    all_full h mid = (stays low n form site level (cs1 ++ (bparts ++ cs2)) below_same).full (full_both low level (cs1 ++ (bparts ++ cs2)) (row_full h mid) (low_full h))

    node_turned : IsTurned form site sure m n (suc level) xs (p ∷ []) ys parts (bfresh ++ fresh) freed (over (recs_of form m level) front ++ (brecs ++ over (recs_of form m level) back))
    node_turned = record {
      recs_are = parts_recs;
      forest = stands.0;
      front = others_recs xs (each_entries xs rowed.front (all_left (λ b. low b ≡ m b) xs (p ∷ ys) row_same)) (all_left _ (below form m xs) (children front) cs1_same);
      back = others_recs ys (each_entries ys rowed.back (all_right (λ b. low b ≡ m b) xs (p ∷ ys) row_same).1) (all_right _ (children back) (below form m ys) cs2_same);
      front_full = two_fulls xs rowed.front (all_left (λ b. low b ≡ m b) xs (p ∷ ys) row_same);
      back_full = two_fulls ys rowed.back (all_right (λ b. low b ≡ m b) xs (p ∷ ys) row_same).1;
      full = λ s h. subst (AreFull form n site level) (sym leads) (all_full h (node.full s));
      deep = λ h. subst (AreFullBelow form n site level) (sym leads) (n_full_below h);
      blocks = node_blocks;
      others = λ b none fresh_none.
          let o : times b (xs ++ p ∷ ys) + times b (blocks_over form m level (cs1 ++ (bold ++ cs2))) ≡ 0 = omega (arith, none, ap (times b) old_blocks, times_append b (xs ++ p ∷ ys) (blocks_over form m level (cs1 ++ (bold ++ cs2)))) in
          let f : times b bfresh + times b fresh ≡ 0 = omega (arith, fresh_none, times_append b bfresh fresh) in
          node.rows.others xs ys low_row b (omega (arith, o)) (omega (arith, f)) ∙ turned.others b (omega (arith, o)) (omega (arith, f));
    }

pub nodes_turn_lem : {R K : Type 0} (form : Form R K) → IsLawful form → (site : Site) → NodesTurn form site
nodes_turn_lem form lawful site sure m low n level p parts fresh bold bparts bfresh freed brecs front back old front' back' new lower node xs ys fits =
    node_turned form lawful site sure m low n level p parts fresh bold bparts bfresh freed brecs front back old front' back' new lower node xs ys fits
