-- On a readable tree the pieces are the leaves one after the other, with the blocks that each meets first.
use Rattle.std.proofs.Common.{◌≡◌, ℕ, zero, suc, ◌+◌, ◌-◌, ◌<◌, ◌≤◌, Bool, true, false, List, [], ◌∷◌, ◌++◌, length, Option, Some, None, Ok, refl, sym, subst, ◌∙◌, ap, inl, inr, arith, append_assoc}
use Rattle.std.specs.Prelude.{nat_le, nat_lt, ◌⊎◌, ◌==◌, ◌&&◌, not, unwrap_or}
use Rattle.std.proofs.lemmas.Bool.{cases_lt}
use Rattle.std.proofs.lemmas.Bool.Decides.{nat_tests}
use Rattle.std.proofs.lemmas.List.{append-nil}
use Rattle.sblock.specs.Area.{area_of, child_of}
use Rattle.sblock.specs.Blocks.{numrecs, records_of, IsRising}
use Rattle.sblock.specs.Form.{Form, IsLawful}
use Rattle.sblock.specs.Lists.{items_from, Each}
use Rattle.sblock.specs.Spans.{span_of}
use Rattle.sblock.specs.declared.block.BlockFault.{BlockFault}
use Rattle.sblock.proofs.ListLemmas.{items_each}
use Rattle.tree_defs.specs.Levels.{over, AllEntries, entries, recs_of, blocks_of, IsRight, IsSound}
use Rattle.tree_defs.specs.Tree.{Entry, agrees, entries_from, top_of, read_tree}
use Rattle.tree_defs.specs.declared.site.Site.{Site}
use Rattle.tree_defs.proofs.EachLemmas.{each_append}
use Rattle.tree_defs.proofs.Parts.{both_same}
use Rattle.tree_defs.proofs.Trees.{reads_trees_lem}
use Rattle.tree_find.specs.Next.{is_above, records_above, start_of}
use Rattle.tree_pieces.specs.Pieces.{met_with, is_first, first_piece, piece_behind, piece_below, piece_in, key_behind, are_above, unmet, IsPiece, PieceIn, GivesPieces, AreInSum, SumsToWalk}
use Rattle.tree_find.specs.Places.{place_behind}
use Rattle.tree_find.proofs.AboveLemmas.{above_from, from_place, place_within as leaf_within}
use Rattle.tree_find.proofs.EntryLemmas.{over_append, none_agrees, reached_begins}
use Rattle.tree_find.proofs.Facts.{is_either}
use Rattle.tree_find.proofs.FindLaw.{opens_right, is_level}
use Rattle.tree_find.proofs.FindLemmas.{does_lie}
use Rattle.tree_find.proofs.LastLemmas.{items_length}
use Rattle.tree_find.proofs.NextLaw.{has_records}
use Rattle.tree_find.proofs.NextLemmas.{less, not_less}
use Rattle.tree_find.proofs.NodeLemmas.{Fits, entry, in_front, behind, split_at, low_reached, low_unreached, lies_from, fit_behind, recs_parts}
use Rattle.tree_find.proofs.OpenLemmas.{leaf_rising, node_some}
use Rattle.tree_find.proofs.Parting.{Begins, rising_front, rising_rest, all_above, all_passed, passed_not_above}
use Rattle.tree_pieces.proofs.PieceLists.{Fails, each_left, each_right, filter_kept, filter_dropped, fails_from, met_assoc, are_yes, yes_each, are_no, are_no_one, above_none, Behind, behind as part_behind, left_behind, parts_of, each_filtered}

not_zero : (i : ℕ) → (suc i == 0) ≡ false
not_zero i = grind (arith, nat_tests)

regroup : {A : Type 0} (a b c d e : List A) → a ++ ((b ++ (c ++ d)) ++ e) ≡ (a ++ b) ++ (c ++ (d ++ e))
regroup a b c d e =
    ap (λ v. a ++ v) (append_assoc b (c ++ d) e ∙ ap (λ v. b ++ v) (append_assoc c d e)) ∙ sym (append_assoc a b (c ++ (d ++ e)))

join_left : {A : Type 0} (a b c d : List A) → a ++ ((b ++ c) ++ d) ≡ (a ++ b) ++ (c ++ d)
join_left a b c d = ap (λ v. a ++ v) (append_assoc b c d) ∙ sym (append_assoc a b (c ++ d))

all_front : {K : Type 0} (P : Entry K → Type 0) (xs ys : List (Entry K)) → AllEntries P (xs ++ ys) → AllEntries P xs
all_front P [] ys h = tt
all_front P (x ∷ xs) ys h = (h.0, all_front P xs ys h.1)

no_records : {A : Type 0} (xs ys : List A) → xs ++ ys ≡ [] → xs ≡ []
no_records [] ys e = refl
no_records (x ∷ xs) ys e = cc

empty_or : {A : Type 0} (xs : List A) → (xs ≡ []) ⊎ (xs ≡ [] → ⊥)
empty_or [] = inl refl
empty_or (x ∷ xs) = inr (λ e. cc)

module _ {R K : Type 0} (form : Form R K) (law : IsLawful form) (site : Site) (m : ℕ → List ℕ) where
  abbrev Unmet : Option K → ℕ → ℕ → List ℕ
  Unmet after level p = unmet form m after level p

  abbrev AllFit : ℕ → List (Entry K) → Type 0
  AllFit level es = AllEntries (Fits form law site m level) es

  -- ---- blocks over records of which all, or none, are above

  all_unmet_over : (after : Option K) (level : ℕ) → ((q : ℕ) → Each (is_above form after) (recs_of form m level q) → Unmet after level q ≡ blocks_of form m level q) → (es : List (Entry K)) → Each (is_above form after) (over (recs_of form m level) es) → over (Unmet after level) es ≡ over (blocks_of form m level) es
  all_unmet_over after level below [] h = refl
  all_unmet_over after level below (e ∷ es) h =
      let mine = below e.child (each_left (is_above form after) (recs_of form m level e.child) (over (recs_of form m level) es) h) in
      let others = all_unmet_over after level below es (each_right (is_above form after) (recs_of form m level e.child) (over (recs_of form m level) es) h) in
      rw (mine, others) refl

  all_unmet : (after : Option K) (level p : ℕ) → Each (is_above form after) (recs_of form m level p) → Unmet after level p ≡ blocks_of form m level p
  unfolding unmet recs_of blocks_of
  all_unmet after zero p h = rw (are_yes form after (records_of form (m p)) h) refl
  all_unmet after (suc level) p h =
      rw (are_yes form after (over (recs_of form m level) (entries form m p)) h) (ap (λ v. p ∷ v) (all_unmet_over after level (λ q hq. all_unmet after level q hq) (entries form m p) h))

  none_unmet_over : (after : Option K) (level : ℕ) → ((q : ℕ) → IsSound form m site level false q → (recs_of form m level q ≡ [] → ⊥) → Fails (is_above form after) (recs_of form m level q) → Unmet after level q ≡ []) → (es : List (Entry K)) → AllFit level es → Fails (is_above form after) (over (recs_of form m level) es) → over (Unmet after level) es ≡ []
  none_unmet_over after level below [] fits h = refl
  none_unmet_over after level below (e ∷ es) fits h =
      let some : recs_of form m level e.child ≡ [] → ⊥ = λ z. none_agrees form law e (let P : List R → Type 0 = λ v. agrees form e (span_of form v) ≡ true in subst P z fits.0.1) in
      let mine = below e.child fits.0.0 some (each_left (λ x. not (is_above form after x)) (recs_of form m level e.child) (over (recs_of form m level) es) h) in
      let others = none_unmet_over after level below es fits.1 (each_right (λ x. not (is_above form after x)) (recs_of form m level e.child) (over (recs_of form m level) es) h) in
      rw (mine, others) refl

  none_unmet : (after : Option K) (level : ℕ) (root : Bool) (p : ℕ) → IsSound form m site level root p → (recs_of form m level p ≡ [] → ⊥) → Fails (is_above form after) (recs_of form m level p) → Unmet after level p ≡ []
  unfolding unmet recs_of IsSound entries_from
  none_unmet after zero root p sound some h = rw (are_no_one form after (records_of form (m p)) some h) refl
  none_unmet after (suc level) root p sound some h =
      rw (are_no_one form after (over (recs_of form m level) (entries form m p)) some h) (none_unmet_over after level (λ q s n f. none_unmet after level false q s n f) (entries form m p) sound.1 h)

  -- ---- a node in parts

  over_parts : {A : Type 0} (f : ℕ → List A) (bytes : List ℕ) (i : ℕ) → i < numrecs bytes → over f (items_from (entry form law site m bytes) (numrecs bytes) 0) ≡ over f (in_front form law site m bytes i) ++ (f (entry form law site m bytes i).child ++ over f (behind form law site m bytes i))
  over_parts f bytes i lt = ap (over f) (split_at form law site m bytes i lt) ∙ over_append f (in_front form law site m bytes i) (entry form law site m bytes i ∷ behind form law site m bytes i)

  begins_no : (key : K) (xs ys zs : List R) → Begins form law key ys → are_above form (Some key) (xs ++ (ys ++ zs)) ≡ false
  begins_no key xs [] zs b = absurd b
  begins_no key [] (y ∷ ys) zs b = rw b refl
  begins_no key (x ∷ xs) (y ∷ ys) zs b =
      elim (is_either (is_above form (Some key) x)) [
        | inl t ↦ rw t (begins_no key xs (y ∷ ys) zs b)
        | inr f ↦ rw f refl
      ]

  module _ (level : ℕ) (bytes : List ℕ) where
    abbrev all_recs : List R
    all_recs = over (recs_of form m level) (items_from (entry form law site m bytes) (numrecs bytes) 0)

    abbrev front_of : ℕ → List R
    front_of i = over (recs_of form m level) (in_front form law site m bytes i)

    abbrev under : ℕ → List R
    under i = recs_of form m level (entry form law site m bytes i).child

    abbrev rest_of : ℕ → List R
    rest_of i = over (recs_of form m level) (behind form law site m bytes i)

    -- in front of entry s nothing is above the key, behind it everything is
    record Begun (after : Option K) (s : ℕ) : Type 0 where
      low : Fails (is_above form after) (front_of s)
      high : Each (is_above form after) (rest_of s)
      first : is_first form after false bytes ≡ are_above form after all_recs
      lies : s < numrecs bytes

    module _ (fits : AllFit level (items_from (entry form law site m bytes) (numrecs bytes) 0)) (rising : IsRising form all_recs) (some : 1 ≤ numrecs bytes) where
      begun_at : (key : K) (place : ℕ) → place_behind form key false (area_of bytes) (numrecs bytes) ≡ place → Begun (Some key) (place - 1)
      begun_at key zero e =
          let lie = lies_from form law site m bytes level key (numrecs bytes) 0 fits (λ lt. low_unreached form law site m bytes key 0 (omega (arith, e)) lt) in
          let above = all_above form law key all_recs rising lie in
          let split = recs_parts form law site m bytes level 0 (omega (arith, some)) in
          let both : Each (is_above form (Some key)) (under 0 ++ rest_of 0) = let P : List R → Type 0 = λ v. Each (is_above form (Some key)) v in subst P split above in
          record {
            low = tt;
            high = each_right (is_above form (Some key)) (under 0) (rest_of 0) both;
            first = rw e (sym (are_yes form (Some key) all_recs above));
            lies = omega (arith, some);
          }
      begun_at key (suc i) e =
          let reached = low_reached form law site m bytes key i e in
          let split = recs_parts form law site m bytes level i reached.1 in
          let fit = fit_behind form law site m bytes level i reached.1 fits in
          let lie = lies_from form law site m bytes level key (numrecs bytes - i - 1) (i + 1) fit.1 (λ lt. low_unreached form law site m bytes key (i + 1) (omega (arith, e)) (omega (arith, lt))) in
          let begins = reached_begins form law key (entry form law site m bytes i) (under i) fit.0.1 reached.0 in
          let parted : IsRising form (front_of i ++ (under i ++ rest_of i)) = let P : List R → Type 0 = λ v. IsRising form v in subst P split rising in
          let same : suc i - 1 ≡ i = omega arith in
          rw same (record {
            low = fails_from (λ x. form.is_before (form.key_of x) key) (is_above form (Some key)) (front_of i) (λ x h. passed_not_above form law key x h) (all_passed form law key (front_of i) (under i) (rest_of i) parted begins);
            high = all_above form law key (rest_of i) (rising_rest form law (under i) (rest_of i) (rising_rest form law (front_of i) (under i ++ rest_of i) parted)) lie;
            first = rw e (not_zero i ∙ sym (ap (are_above form (Some key)) split ∙ begins_no key (front_of i) (under i) (rest_of i) begins));
            lies = reached.1;
          })

      begun : (after : Option K) → Begun after (start_of form after bytes)
      unfolding start_of
      begun None =
          record {
            low = tt;
            high = above_none form (rest_of 0);
            first = sym (are_yes form None all_recs (above_none form all_recs));
            lies = omega (arith, some);
          }
      begun (Some key) = begun_at key (place_behind form key false (area_of bytes) (numrecs bytes)) refl

  -- ---- the first leaf below a block whose records are all above

  abbrev Some_ : List R → Type 0
  Some_ rs = rs ≡ [] → ⊥

  record First (after : Option K) (level q : ℕ) (met : List ℕ) : Type 0 where
    rs : List R
    bs : List ℕ
    rest : List R
    read : first_piece form site m after level q met ≡ Ok (rs, met ++ bs)
    whole : recs_of form m level q ≡ rs ++ rest
    some : Some_ rs
    blocks : blocks_of form m level q ≡ bs ++ Unmet (key_behind form after rs) level q

  -- behind the last of these records the node itself and what lies in front is met
  node_left : (after : Option K) (level p s : ℕ) (xs rs ys : List R) → Behind form law after xs rs ys → Some_ rs → recs_of form m (suc level) p ≡ xs ++ (rs ++ ys) → Unmet (key_behind form after rs) (suc level) p ≡ over (Unmet (key_behind form after rs) level) (entries form m p)
  unfolding unmet
  node_left after level p s xs rs ys b some e =
      let no : are_above form (key_behind form after rs) (recs_of form m (suc level) p) ≡ false = ap (are_above form (key_behind form after rs)) e ∙ are_no form (key_behind form after rs) xs rs ys some b.part in
      rw no refl

  first_leaf : (after : Option K) (level q : ℕ) (met : List ℕ) → IsSound form m site level false q → IsRising form (recs_of form m level q) → Some_ (recs_of form m level q) → Each (is_above form after) (recs_of form m level q) → First after level q met
  unfolding first_piece recs_of blocks_of IsSound entries_from
  first_leaf after zero q met sound rising some above =
      let rs = records_of form (m q) in
      let kept = filter_kept (is_above form after) rs above in
      let rises : IsRising form (rs ++ []) = let P : List R → Type 0 = λ v. IsRising form v in subst P (sym (append-nil rs)) rising in
      let b = part_behind form law after [] rs [] some rises in
      record {
        rs = rs;
        bs = q ∷ [];
        rest = [];
        read = rw (opens_right form law site m 0 false q sound, kept) refl;
        whole = sym (append-nil rs);
        some = some;
        blocks = rw (none_unmet (key_behind form after rs) 0 false q sound some b.part) refl;
      }
  first_leaf after (suc level) q met sound rising some above =
      let n : 1 ≤ numrecs (m q) = node_some form site (suc level) false q (m q) (opens_right form law site m (suc level) false q sound.0) (omega arith) in
      let lt : 0 < numrecs (m q) = omega (arith, n) in
      let split = recs_parts form law site m (m q) level 0 lt in
      let fit = fit_behind form law site m (m q) level 0 lt sound.1 in
      let mine = under level (m q) 0 in
      let others = rest_of level (m q) 0 in
      let rises : IsRising form (mine ++ others) = let P : List R → Type 0 = λ v. IsRising form v in subst P split rising in
      let all : Each (is_above form after) (mine ++ others) = let P : List R → Type 0 = λ v. Each (is_above form after) v in subst P split above in
      let c = child_of form.kind (area_of (m q)) 0 in
      let f = first_leaf after level c (met ++ q ∷ []) fit.0.0 (rising_front form law mine others rises) (has_records form law site m level mine 0 (m q) fit.0.1) (each_left (is_above form after) mine others all) in
      let whole : recs_of form m (suc level) q ≡ f.rs ++ (f.rest ++ others) = split ∙ ap (λ v. v ++ others) f.whole ∙ append_assoc f.rs f.rest others in
      let rising_whole : IsRising form (f.rs ++ (f.rest ++ others)) = let P : List R → Type 0 = λ v. IsRising form v in subst P whole rising in
      let b = part_behind form law after [] f.rs (f.rest ++ others) f.some rising_whole in
      let key = key_behind form after f.rs in
      let over_blocks = over_parts (blocks_of form m level) (m q) 0 lt in
      let over_left = over_parts (Unmet key level) (m q) 0 lt in
      let rest_left = all_unmet_over key level (λ p h. all_unmet key level p h) (behind form law site m (m q) 0) (each_right (is_above form key) f.rest others b.rest) in
      let left : Unmet key (suc level) q ≡ Unmet key level c ++ over (blocks_of form m level) (behind form law site m (m q) 0) = node_left after level q 0 [] f.rs (f.rest ++ others) b f.some whole ∙ over_left ∙ ap (λ v. Unmet key level c ++ v) rest_left in
      record {
        rs = f.rs;
        bs = q ∷ f.bs;
        rest = f.rest ++ others;
        read = rw (opens_right form law site m (suc level) false q sound.0) (f.read ∙ ap (λ (v : List ℕ). Ok (f.rs, v)) (append_assoc met (q ∷ []) f.bs));
        whole = whole;
        some = f.some;
        blocks = ap (λ v. q ∷ v) (over_blocks ∙ ap (λ v. v ++ over (blocks_of form m level) (behind form law site m (m q) 0)) f.blocks ∙ append_assoc f.bs (Unmet key level c) (over (blocks_of form m level) (behind form law site m (m q) 0)) ∙ ap (λ v. f.bs ++ v) (sym left));
      }

  -- ---- the piece of a subtree with records

  record Taken (after : Option K) (level p : ℕ) (rs : List R) (bs : List ℕ) : Type 0 where
    pre : List R
    post : List R
    whole : recs_of form m level p ≡ pre ++ (rs ++ post)
    low : Fails (is_above form after) pre
    high : Each (is_above form after) (rs ++ post)
    some : Some_ rs
    blocks : Unmet after level p ≡ bs ++ Unmet (key_behind form after rs) level p

  abbrev Piece : Option K → ℕ → ℕ → Option (List R) → List ℕ → Type 0
  Piece after level p None bs = Fails (is_above form after) (recs_of form m level p) × (bs ≡ [])
  Piece after level p (Some rs) bs = Taken after level p rs bs

  record Step (after : Option K) (level : ℕ) (root : Bool) (p : ℕ) (met : List ℕ) : Type 0 where
    found : Option (List R)
    bs : List ℕ
    read : piece_below form site m after level root p met ≡ Ok (found, met ++ bs)
    piece : Piece after level p found bs

  leaf_place : (key : K) (root : Bool) (p : ℕ) → IsRight form m site 0 root p → (place : ℕ) → place_behind form key true (area_of (m p)) (numrecs (m p)) ≡ place → (place_behind form key true (area_of (m p)) (numrecs (m p)) == 0) ≡ are_above form (Some key) (records_of form (m p))
  unfolding records_of
  leaf_place key root p sound zero e =
      let rises = leaf_rising form site 0 root p (m p) (opens_right form law site m 0 root p sound) refl in
      let all = items_each (is_above form (Some key)) (form.record_at (area_of (m p))) (numrecs (m p)) 0 (λ k lo hi. from_place form law (m p) rises key k (omega (arith, e)) (omega (arith, hi))) in
      rw e (sym (are_yes form (Some key) (items_from (form.record_at (area_of (m p))) (numrecs (m p)) 0) all))
  leaf_place key root p sound (suc i) e =
      let rises = leaf_rising form site 0 root p (m p) (opens_right form law site m 0 root p sound) refl in
      let within = leaf_within form law (Some key) (m p) in
      let from = above_from form law (m p) rises (Some key) (suc i) (sym e) (omega (arith, within, e)) in
      elim (is_either (are_above form (Some key) (items_from (form.record_at (area_of (m p))) (numrecs (m p)) 0))) [
        | inr f ↦ rw (e, f) (not_zero i)
        | inl t ↦ absurd (
            let kept = filter_kept (is_above form (Some key)) (items_from (form.record_at (area_of (m p))) (numrecs (m p)) 0) (yes_each form (Some key) (items_from (form.record_at (area_of (m p))) (numrecs (m p)) 0) t) in
            let same = ap length (sym from ∙ kept) in
            omega (arith, same, items_length (form.record_at (area_of (m p))) (numrecs (m p) - suc i) (suc i), items_length (form.record_at (area_of (m p))) (numrecs (m p)) 0, within, e)
            )
      ]

  leaf_first : (after : Option K) (root : Bool) (p : ℕ) → IsRight form m site 0 root p → is_first form after true (m p) ≡ are_above form after (records_of form (m p))
  leaf_first None root p sound = sym (are_yes form None (records_of form (m p)) (above_none form (records_of form (m p))))
  leaf_first (Some key) root p sound = leaf_place key root p sound (place_behind form key true (area_of (m p)) (numrecs (m p))) refl

  -- a leaf that no record up to the key lies in, and another
  leaf_step : (after : Option K) (root : Bool) (p : ℕ) (met : List ℕ) → IsRight form m site 0 root p → IsRising form (records_of form (m p)) → Some_ (records_of form (m p)) → (b : Bool) → are_above form after (records_of form (m p)) ≡ b → (rs : List R) → records_above form after (records_of form (m p)) ≡ rs → Step after 0 root p met
  unfolding piece_below unmet recs_of
  leaf_step after root p met sound rising some true all rs e =
      let recs = records_of form (m p) in
      let opens = opens_right form law site m 0 root p sound in
      let first : is_first form after true (m p) ≡ true = leaf_first after root p sound ∙ all in
      let above = yes_each form after recs all in
      let kept : records_above form after recs ≡ recs = filter_kept (is_above form after) recs above in
      let rises : IsRising form (recs ++ []) = let P : List R → Type 0 = λ v. IsRising form v in subst P (sym (append-nil recs)) rising in
      let b = part_behind form law after [] recs [] some rises in
      record {
        found = Some recs;
        bs = p ∷ [];
        read = rw (opens, first, kept) refl;
        piece = record {
          pre = [];
          post = [];
          whole = sym (append-nil recs);
          low = tt;
          high = let P : List R → Type 0 = λ v. Each (is_above form after) v in subst P (sym (append-nil recs)) above;
          some = some;
          blocks = rw (all, are_no_one form (key_behind form after recs) recs some b.part) refl;
        };
      }
  leaf_step after root p met sound rising some false none [] e =
      let recs = records_of form (m p) in
      let opens = opens_right form law site m 0 root p sound in
      let first : is_first form after true (m p) ≡ false = leaf_first after root p sound ∙ none in
      let parts = parts_of form law after recs rising in
      let low : recs ≡ parts.low = parts.whole ∙ ap (λ v. parts.low ++ v) e ∙ append-nil parts.low in
      record {
        found = None;
        bs = [];
        read = rw (opens, first, e) (ap (λ (v : List ℕ). Ok (None, v)) (sym (append-nil met)));
        piece = (let P : List R → Type 0 = λ v. Fails (is_above form after) v in subst P (sym low) parts.fails, refl);
      }
  leaf_step after root p met sound rising some false none (r ∷ rs) e =
      let recs = records_of form (m p) in
      let opens = opens_right form law site m 0 root p sound in
      let first : is_first form after true (m p) ≡ false = leaf_first after root p sound ∙ none in
      let parts = parts_of form law after recs rising in
      let whole : recs ≡ parts.low ++ ((r ∷ rs) ++ []) = parts.whole ∙ ap (λ v. parts.low ++ v) (e ∙ sym (append-nil (r ∷ rs))) in
      let rises : IsRising form (parts.low ++ ((r ∷ rs) ++ [])) = let P : List R → Type 0 = λ v. IsRising form v in subst P whole rising in
      let b = part_behind form law after parts.low (r ∷ rs) [] (λ z. cc) rises in
      let no : are_above form (key_behind form after (r ∷ rs)) recs ≡ false = ap (are_above form (key_behind form after (r ∷ rs))) whole ∙ are_no form (key_behind form after (r ∷ rs)) parts.low (r ∷ rs) [] (λ z. cc) b.part in
      record {
        found = Some (r ∷ rs);
        bs = [];
        read = rw (opens, first, e) (ap (λ (v : List ℕ). Ok (Some (r ∷ rs), v)) (sym (append-nil met)));
        piece = record {
          pre = parts.low;
          post = [];
          whole = whole;
          low = parts.fails;
          high = let P : List R → Type 0 = λ v. Each (is_above form after) v in subst P (e ∙ sym (append-nil (r ∷ rs))) (each_filtered (is_above form after) recs);
          some = λ z. cc;
          blocks = rw (none, no) refl;
        };
      }

  -- ---- a node

  module _ (after : Option K) (level : ℕ) (root : Bool) (p : ℕ) (met : List ℕ) (right : IsRight form m site (suc level) root p) (fits : AllFit level (items_from (entry form law site m (m p)) (numrecs (m p)) 0)) (rising : IsRising form (all_recs level (m p))) where
    begins : Begun level (m p) after (start_of form after (m p))
    begins = begun level (m p) fits rising (node_some form site (suc level) root p (m p) (opens_right form law site m (suc level) root p right) (omega arith)) after

    abbrev s : ℕ
    s = start_of form after (m p)

    abbrev first : Bool
    first = is_first form after false (m p)

    abbrev child : ℕ
    child = child_of form.kind (area_of (m p)) s

    abbrev front : List R
    front = front_of level (m p) s

    abbrev mine : List R
    mine = under level (m p) s

    abbrev others : List R
    others = rest_of level (m p) s

    abbrev Fronts : List (Entry K)
    Fronts = in_front form law site m (m p) s

    abbrev Rests : List (Entry K)
    Rests = behind form law site m (m p) s

    front_fits : AllFit level Fronts
    front_fits = let P : List (Entry K) → Type 0 = λ v. AllFit level v in all_front (Fits form law site m level) Fronts (entry form law site m (m p) s ∷ Rests) (subst P (split_at form law site m (m p) s begins.lies) fits)

    fit : Fits form law site m level (entry form law site m (m p) s) × AllFit level Rests
    fit = fit_behind form law site m (m p) level s begins.lies fits

    split : all_recs level (m p) ≡ front ++ (mine ++ others)
    split = recs_parts form law site m (m p) level s begins.lies

    parted : IsRising form (front ++ (mine ++ others))
    parted = let P : List R → Type 0 = λ v. IsRising form v in subst P split rising

    mine_rises : IsRising form mine
    mine_rises = rising_front form law mine others (rising_rest form law front (mine ++ others) parted)

    mine_some : Some_ mine
    mine_some = has_records form law site m level mine s (m p) fit.0.1

    -- blocks that aren't met, where nothing in front is above the key
    left : (key : Option K) → Fails (is_above form key) front → over (Unmet key level) (items_from (entry form law site m (m p)) (numrecs (m p)) 0) ≡ Unmet key level child ++ over (Unmet key level) Rests
    left key low =
        over_parts (Unmet key level) (m p) s begins.lies
        ∙ ap (λ v. v ++ (Unmet key level child ++ over (Unmet key level) Rests)) (none_unmet_over key level (λ q sq n f. none_unmet key level false q sq n f) Fronts front_fits low)

    rest_left : (key : Option K) → Each (is_above form key) others → over (Unmet key level) Rests ≡ over (blocks_of form m level) Rests
    rest_left key high = all_unmet_over key level (λ q h. all_unmet key level q h) Rests high

    from_found : (rs : List R) (bs : List ℕ) → piece_below form site m after level false child (met_with first p met) ≡ Ok (Some rs, met_with first p met ++ bs) → Taken after level child rs bs → Step after (suc level) root p met
    unfolding piece_below unmet recs_of entries_from
    from_found rs bs read t =
        let whole : all_recs level (m p) ≡ (front ++ t.pre) ++ (rs ++ (t.post ++ others)) = split ∙ ap (λ v. front ++ (v ++ others)) t.whole ∙ regroup front t.pre rs t.post others in
        let rises : IsRising form ((front ++ t.pre) ++ (rs ++ (t.post ++ others))) = let P : List R → Type 0 = λ v. IsRising form v in subst P whole rising in
        let b = part_behind form law after (front ++ t.pre) rs (t.post ++ others) t.some rises in
        let key = key_behind form after rs in
        let no : are_above form key (all_recs level (m p)) ≡ false = ap (are_above form key) whole ∙ are_no form key (front ++ t.pre) rs (t.post ++ others) t.some b.part in
        let now = left after begins.low ∙ ap (λ v. v ++ over (Unmet after level) Rests) t.blocks ∙ ap (λ v. (bs ++ Unmet key level child) ++ v) (rest_left after begins.high) in
        let later = left key (each_left (λ x. not (is_above form key x)) front t.pre b.front) ∙ ap (λ v. Unmet key level child ++ v) (rest_left key (each_right (is_above form key) t.post others b.rest)) in
        record {
          found = Some rs;
          bs = met_with first p [] ++ bs;
          read = rw (opens_right form law site m (suc level) root p right, read) (ap (λ (v : List ℕ). Ok (Some rs, v)) (met_assoc first p met bs));
          piece = record {
            pre = front ++ t.pre;
            post = t.post ++ others;
            whole = whole;
            low = each_append (λ x. not (is_above form after x)) front t.pre begins.low t.low;
            high = let P : List R → Type 0 = λ v. Each (is_above form after) v in subst P (append_assoc rs t.post others) (each_append (is_above form after) (rs ++ t.post) others t.high begins.high);
            some = t.some;
            blocks = rw (← begins.first, no, now, later) (join_left (met_with first p []) bs (Unmet key level child) (over (blocks_of form m level) Rests));
          };
        }

    module _ (none : Fails (is_above form after) mine) where
      not_first : first ≡ false
      not_first = begins.first ∙ ap (are_above form after) split ∙ are_no form after front mine others mine_some none

      no_above : are_above form after (all_recs level (m p)) ≡ false
      no_above = sym begins.first ∙ not_first

      mine_met : Unmet after level child ≡ []
      mine_met = none_unmet after level false child fit.0.0 mine_some none

      -- the next entry's first leaf
      from_next : piece_below form site m after level false child met ≡ Ok (None, met) → s + 1 < numrecs (m p) → Step after (suc level) root p met
      unfolding piece_below piece_behind unmet recs_of entries_from
      from_next read lt =
          let count : numrecs (m p) - s - 1 ≡ suc (numrecs (m p) - s - 1 - 1) = omega (arith, lt) in
          let c = child_of form.kind (area_of (m p)) (s + 1) in
          let mine1 = recs_of form m level c in
          let Rest1 = items_from (entry form law site m (m p)) (numrecs (m p) - s - 1 - 1) (s + 1 + 1) in
          let others1 = over (recs_of form m level) Rest1 in
          let next : Rests ≡ entry form law site m (m p) (s + 1) ∷ Rest1 = ap (λ (n : ℕ). items_from (entry form law site m (m p)) n (s + 1)) count in
          let fit1 : AllFit level (entry form law site m (m p) (s + 1) ∷ Rest1) = let P : List (Entry K) → Type 0 = λ v. AllFit level v in subst P next fit.1 in
          let split1 : others ≡ mine1 ++ others1 = ap (over (recs_of form m level)) next in
          let high1 : Each (is_above form after) (mine1 ++ others1) = let P : List R → Type 0 = λ v. Each (is_above form after) v in subst P split1 begins.high in
          let rises1 : IsRising form (mine1 ++ others1) = let P : List R → Type 0 = λ v. IsRising form v in subst P split1 (rising_rest form law mine others (rising_rest form law front (mine ++ others) parted)) in
          let f = first_leaf after level c met fit1.0.0 (rising_front form law mine1 others1 rises1) (has_records form law site m level mine1 (s + 1) (m p) fit1.0.1) (each_left (is_above form after) mine1 others1 high1) in
          let key = key_behind form after f.rs in
          let whole : all_recs level (m p) ≡ (front ++ mine) ++ (f.rs ++ (f.rest ++ others1)) = split ∙ ap (λ v. front ++ (mine ++ v)) (split1 ∙ ap (λ v. v ++ others1) f.whole) ∙ sym (append_assoc front mine ((f.rs ++ f.rest) ++ others1)) ∙ ap (λ v. (front ++ mine) ++ v) (append_assoc f.rs f.rest others1) in
          let rises : IsRising form ((front ++ mine) ++ (f.rs ++ (f.rest ++ others1))) = let P : List R → Type 0 = λ v. IsRising form v in subst P whole rising in
          let b = part_behind form law after (front ++ mine) f.rs (f.rest ++ others1) f.some rises in
          let no : are_above form key (all_recs level (m p)) ≡ false = ap (are_above form key) whole ∙ are_no form key (front ++ mine) f.rs (f.rest ++ others1) f.some b.part in
          let now = left after begins.low ∙ ap (λ v. v ++ over (Unmet after level) Rests) mine_met ∙ rest_left after begins.high ∙ ap (over (blocks_of form m level)) next ∙ ap (λ v. v ++ over (blocks_of form m level) Rest1) f.blocks in
          let mine_key = none_unmet key level false child fit.0.0 mine_some (each_right (λ x. not (is_above form key x)) front mine b.front) in
          let rest_key = all_unmet_over key level (λ q h. all_unmet key level q h) Rest1 (each_right (is_above form key) f.rest others1 b.rest) in
          let later = left key (each_left (λ x. not (is_above form key x)) front mine b.front) ∙ ap (λ v. v ++ over (Unmet key level) Rests) mine_key ∙ ap (over (Unmet key level)) next ∙ ap (λ v. Unmet key level c ++ v) rest_key in
          let high_all : Each (is_above form after) (f.rs ++ (f.rest ++ others1)) = let P : List R → Type 0 = λ v. Each (is_above form after) v in subst P (ap (λ v. v ++ others1) f.whole ∙ append_assoc f.rs f.rest others1) high1 in
          record {
            found = Some f.rs;
            bs = f.bs;
            read = rw (opens_right form law site m (suc level) root p right, not_first, read, less (s + 1) (numrecs (m p)) lt, f.read) refl;
            piece = record {
              pre = front ++ mine;
              post = f.rest ++ others1;
              whole = whole;
              low = each_append (λ x. not (is_above form after x)) front mine begins.low none;
              high = high_all;
              some = f.some;
              blocks = rw (no_above, no, now, later) (append_assoc f.bs (Unmet key level c) (over (blocks_of form m level) Rest1));
            };
          }

      from_end : piece_below form site m after level false child met ≡ Ok (None, met) → numrecs (m p) ≤ s + 1 → Step after (suc level) root p met
      unfolding piece_below piece_behind recs_of entries_from
      from_end read le =
          let count : numrecs (m p) - s - 1 ≡ 0 = omega (arith, le) in
          let no_rest : others ≡ [] = ap (λ (n : ℕ). over (recs_of form m level) (items_from (entry form law site m (m p)) n (s + 1))) count in
          let whole : all_recs level (m p) ≡ front ++ mine = split ∙ ap (λ v. front ++ (mine ++ v)) no_rest ∙ ap (λ v. front ++ v) (append-nil mine) in
          record {
            found = None;
            bs = [];
            read = rw (opens_right form law site m (suc level) root p right, not_first, read, not_less (s + 1) (numrecs (m p)) le) (ap (λ (v : List ℕ). Ok (None, v)) (sym (append-nil met)));
            piece = (let P : List R → Type 0 = λ v. Fails (is_above form after) v in subst P (sym whole) (each_append (λ x. not (is_above form after x)) front mine begins.low none), refl);
          }

      from_none : (bs : List ℕ) → bs ≡ [] → piece_below form site m after level false child (met_with first p met) ≡ Ok (None, met_with first p met ++ bs) → Step after (suc level) root p met
      from_none bs e read =
          let here : piece_below form site m after level false child met ≡ Ok (None, met) = let r : piece_below form site m after level false child met ≡ Ok (None, met ++ bs) = rw not_first at read in r ∙ ap (λ (v : List ℕ). Ok (None, met ++ v)) e ∙ ap (λ (v : List ℕ). Ok (None, v)) (append-nil met) in
          elim (cases_lt (s + 1) (numrecs (m p))) [
            | inl lt ↦ from_next here lt
            | inr le ↦ from_end here le
          ]

    from_child : (found : Option (List R)) (bs : List ℕ) → piece_below form site m after level false child (met_with first p met) ≡ Ok (found, met_with first p met ++ bs) → Piece after level child found bs → Step after (suc level) root p met
    from_child None bs read piece = from_none piece.0 bs piece.1 read
    from_child (Some rs) bs read piece = from_found rs bs read piece

  step : (after : Option K) (level : ℕ) (root : Bool) (p : ℕ) (met : List ℕ) → IsSound form m site level root p → IsRising form (recs_of form m level p) → Some_ (recs_of form m level p) → Step after level root p met
  unfolding recs_of IsSound entries_from
  step after zero root p met sound rising some =
      leaf_step after root p met sound rising some (are_above form after (records_of form (m p))) refl (records_above form after (records_of form (m p))) refl
  step after (suc level) root p met sound rising some =
      let below = step after level false (child after level root p met sound.0 sound.1 rising) (met_with (first after level root p met sound.0 sound.1 rising) p met) (fit after level root p met sound.0 sound.1 rising).0.0 (mine_rises after level root p met sound.0 sound.1 rising) (mine_some after level root p met sound.0 sound.1 rising) in
      from_child after level root p met sound.0 sound.1 rising below.found below.bs below.read below.piece

  -- ---- the tree

  as_piece : (after : Option K) (level p : ℕ) (found : Option (List R)) (bs : List ℕ) → (recs_of form m level p ≡ [] → ⊥) → (root : Bool) → IsSound form m site level root p → IsRising form (recs_of form m level p) → Piece after level p found bs → IsPiece form m level p after (recs_of form m level p) (unwrap_or found []) bs
  as_piece after level p None bs some root sound rising piece =
      let none : records_above form after (recs_of form m level p) ≡ [] = ap (records_above form after) (sym (append-nil (recs_of form m level p))) ∙ filter_dropped (is_above form after) (recs_of form m level p) [] piece.0 in
      record {
        records = refl;
        met = λ n. absurd (n refl);
        ended = λ e. (none, none_unmet after level root p sound some piece.0 ∙ sym piece.1);
      }
  as_piece after level p (Some rs) bs some root sound rising t =
      let rises : IsRising form (t.pre ++ (rs ++ t.post)) = let P : List R → Type 0 = λ v. IsRising form v in subst P t.whole rising in
      let b = part_behind form law after t.pre rs t.post t.some rises in
      let now : records_above form after (recs_of form m level p) ≡ rs ++ t.post = ap (records_above form after) t.whole ∙ filter_dropped (is_above form after) t.pre (rs ++ t.post) t.low ∙ filter_kept (is_above form after) (rs ++ t.post) t.high in
      let later : records_above form (key_behind form after rs) (recs_of form m level p) ≡ t.post = ap (records_above form (key_behind form after rs)) t.whole ∙ left_behind form law after t.pre rs t.post b in
      record {
        records = now ∙ ap (λ v. rs ++ v) (sym later);
        met = λ n. t.blocks;
        ended = λ e. absurd (t.some e);
      }

  -- an empty tree is a leaf, and is met with its first piece
  empty_tree : (after : Option K) (level p : ℕ) → IsSound form m site level true p → recs_of form m level p ≡ [] → (piece_below form site m after level true p [] ≡ Ok (Some [], p ∷ [])) × IsPiece form m level p after (recs_of form m level p) [] (p ∷ [])
  unfolding piece_below unmet recs_of IsSound entries_from
  empty_tree after zero p sound none =
      let first : is_first form after true (m p) ≡ true = leaf_first after true p sound ∙ ap (are_above form after) none in
      let nothing : records_above form after (records_of form (m p)) ≡ [] = ap (records_above form after) none in
      let all : are_above form after (records_of form (m p)) ≡ true = ap (are_above form after) none in (
        rw (opens_right form law site m 0 true p sound, first, nothing) refl,
        record {
          records = refl;
          met = λ n. absurd (n refl);
          ended = λ e. (nothing, rw all refl);
        },
      )
  empty_tree after (suc level) p sound none =
      let n : 1 ≤ numrecs (m p) = node_some form site (suc level) true p (m p) (opens_right form law site m (suc level) true p sound.0) (omega arith) in
      let lt : 0 < numrecs (m p) = omega (arith, n) in
      let split = recs_parts form law site m (m p) level 0 lt in
      let fit0 = fit_behind form law site m (m p) level 0 lt sound.1 in
      absurd (has_records form law site m level (under level (m p) 0) 0 (m p) fit0.0.1 (no_records (under level (m p) 0) (rest_of level (m p) 0) (sym split ∙ none)))

given_here : {R K : Type 0} (form : Form R K) (site : Site) (m : ℕ → List ℕ) (root levels level : ℕ) (after : Option K) (recs all : List R) (found : Option (List R)) (bs : List ℕ) → recs ≡ all → top_of levels ≡ level → (nat_le 1 root && nat_lt root site.bounds.length) ≡ true → piece_below form site m after level true root [] ≡ Ok (found, bs) → IsPiece form m level root after all (unwrap_or found []) bs → PieceIn form site m root levels after recs
unfolding piece_in
given_here {R} form site m root levels level after recs all found bs same top lies read piece =
    let P : ℕ → Type 0 = λ l. IsPiece form m l root after all (unwrap_or found []) bs in
    let Q : List R → Type 0 = λ v. IsPiece form m (top_of levels) root after v (unwrap_or found []) bs in
    (unwrap_or found [], bs, rw (lies, top, read) refl, subst Q (sym same) (subst P (sym top) piece))

pub gives_pieces_lem : {R K : Type 0} (form : Form R K) → IsLawful form → GivesPieces form
gives_pieces_lem {R} form law site m root levels recs blocks read after =
    let t = (reads_trees_lem form law site m root levels recs blocks).0 read in
    let all = recs_of form m (levels - 1) root in
    let P : List R → Type 0 = λ v. IsRising form v in
    let rises : IsRising form all = subst P t.recs_are t.rises in
    let lies = does_lie root site.bounds.length t.root_lies.0 t.root_lies.1 in
    let top = is_level levels t.has_levels in
    elim (empty_or all) [
      | inl none ↦ (let e = empty_tree form law site m after (levels - 1) root t.sound none in
          given_here form site m root levels (levels - 1) after recs all (Some []) (root ∷ []) t.recs_are top lies e.0 e.1)
      | inr some ↦ (let x = step form law site m after (levels - 1) true root [] t.sound rises some in
          given_here form site m root levels (levels - 1) after recs all x.found x.bs t.recs_are top lies x.read (as_piece form law site m after (levels - 1) root x.found x.bs some true t.sound rises x.piece))
    ]

-- ---- the sum

module _ {R K : Type 0} (form : Form R K) (law : IsLawful form) (site : Site) (m : ℕ → List ℕ) (root levels : ℕ) (recs : List R) (blocks : List ℕ) (read : read_tree form site m root levels ≡ Ok (recs, blocks)) where
  sums_from : (n : ℕ) (after : Option K) (rs : List R) (bs : List ℕ) → AreInSum form site m root levels n after rs bs → (rs ≡ records_above form after recs) × (bs ≡ unmet form m after (top_of levels) root)
  sums_from zero after rs bs h =
      let g = gives_pieces_lem form law site m root levels recs blocks read after in
      let e = both_same {E = ℕ × BlockFault} g.0 [] g.1 bs (sym g.2 ∙ h.1) in
      let d = g.3.ended e.0 in
      (h.0 ∙ sym d.0, sym e.1 ∙ sym d.1)
  sums_from (suc n) after rs bs h =
      let g = gives_pieces_lem form law site m root levels recs blocks read after in
      let e = both_same {E = ℕ × BlockFault} g.0 h.0 g.1 h.1 (sym g.2 ∙ h.4) in
      let on = sums_from n (key_behind form after h.0) h.2 h.3 h.6 in
      let some : g.0 ≡ [] → ⊥ = λ z. h.5 (sym e.0 ∙ z) in
      let records = g.3.records in
      let met = g.3.met some in
      (h.7 ∙ rw (on.0, ← e.0) (sym records), h.8 ∙ rw (on.1, ← e.0, ← e.1) (sym met))

pub sums_to_walk_lem : {R K : Type 0} (form : Form R K) → IsLawful form → SumsToWalk form
sums_to_walk_lem form law site m root levels recs blocks read n rs bs h =
    let s = sums_from form law site m root levels recs blocks read n None rs bs h in
    let t = (reads_trees_lem form law site m root levels recs blocks).0 read in
    let all = all_unmet form law site m None (top_of levels) root (above_none form (recs_of form m (top_of levels) root)) in
    (s.0 ∙ filter_kept (is_above form None) recs (above_none form recs), s.1 ∙ all ∙ ap (λ (l : ℕ). blocks_of form m l root) (is_level levels t.has_levels) ∙ sym t.blocks_are)
