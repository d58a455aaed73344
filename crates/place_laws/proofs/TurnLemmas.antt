-- What an edit makes of one block of a row.
use Rattle.std.proofs.Common.{◌≡◌, ℕ, zero, suc, ◌+◌, ◌<◌, ◌≤◌, Bool, true, false, List, [], ◌∷◌, ◌++◌, refl, sym, ap, subst, ◌∙◌, inl, inr, arith}
use Rattle.std.specs.Prelude.{◌≢◌, ◌⊎◌, ◌==◌, if◌then◌else◌}
use Rattle.std.proofs.lemmas.Bool.{eqb-true}
use Rattle.std.proofs.lemmas.Bool.Decides.{nat_tests}
use Rattle.sblock.specs.Area.{area_of}
use Rattle.sblock.specs.Blocks.{numrecs, records_of}
use Rattle.sblock.specs.Form.{Form, IsLawful}
use Rattle.sblock.specs.Headers.{no_block, left_of, right_of}
use Rattle.sblock.specs.Spans.{span_of}
use Rattle.tree_defs.specs.Levels.{over, AllEntries, IsRight, entries, recs_of}
use Rattle.tree_defs.specs.Lists.{times, AllDiffer}
use Rattle.tree_defs.specs.Tree.{Entry, entries_from}
use Rattle.tree_defs.specs.declared.site.Site.{Site}
use Rattle.tree_defs.proofs.Counts.{times_append, same_number}
use Rattle.tree_defs.proofs.Parts.{chain_right}
use Rattle.place_laws.specs.Forest.{AllBlocks, children, SameOn, IsLinked, entries_over, below, recs_over, blocks_over, IsKeyed, IsForest, IsRowOver}
use Rattle.place_laws.specs.Links.{SameLinks, AreRelinked}
use Rattle.place_laws.specs.Turns.{IsAlike, IsRow, IsRowed, Rows, IsWrittenOver, IsCut, IsEvened, IsMerged, Evens, Merges, WritesOver, Cuts, Fits, IsTurned, Turns, SameEntries, LeavesTurn, IsNodeTurned, NodesTurn}
use Rattle.place_laws.proofs.ForestLemmas.{all_left, all_right, all_join, linked_stays, stays}
use Rattle.place_laws.proofs.KeyLemmas.{agrees_too}
use Rattle.place_laws.proofs.LinkLemmas.{links_stay_lem, links_split_lem, links_merge_lem, next_is_named_lem, last_names_none_lem}
use Rattle.place_laws.proofs.RowLemmas.{rows_stand_lem, recs_join, recs_lower, recs_over_same, over_children}

-- ---- numbers in lists

pub all_members : (P : ℕ → Type 0) (ps : List ℕ) → ((b : ℕ) → 1 ≤ times b ps → P b) → AllBlocks P ps
all_members P [] h = tt
all_members P (p ∷ ps) h =
    let e : (p == p) ≡ true = same_number p in
    (h p (rw e (omega arith)), all_members P ps (λ b some. h b (omega (arith, some))))

pub all_map : (P Q : ℕ → Type 0) (ps : List ℕ) → ((b : ℕ) → P b → Q b) → AllBlocks P ps → AllBlocks Q ps
all_map P Q [] f h = tt
all_map P Q (p ∷ ps) f h = (f p h.0, all_map P Q ps f h.1)

pub all_both : (P Q S : ℕ → Type 0) (ps : List ℕ) → ((b : ℕ) → P b → Q b → S b) → AllBlocks P ps → AllBlocks Q ps → AllBlocks S ps
all_both P Q S [] f h k = tt
all_both P Q S (p ∷ ps) f h k = (f p h.0 k.0, all_both P Q S ps f h.1 k.1)

pub is_other : (b p : ℕ) (ps : List ℕ) → times b (p ∷ ps) ≡ 0 → b ≢ p
is_other b p ps none is =
    let e : (p == b) ≡ true = subst (λ (x : ℕ). (p == x) ≡ true) (sym is) (same_number p) in
    let z : 1 + times b ps ≡ 0 = rw e at none in
    absurd (omega (arith, z))

-- those of the first list don't stand in the second
pub apart : (xs zs : List ℕ) → AllDiffer (xs ++ zs) → AllBlocks (λ x. times x zs ≡ 0) xs
apart xs zs differ = all_members (λ x. times x zs ≡ 0) xs (λ b some. omega (arith, differ b, times_append b xs zs, some))

by_test : (c : Bool) (a b : ℕ) → (a == b) ≡ c → (a ≡ b) ⊎ (a ≢ b)
by_test true a b e = inl (eqb-true a b e)
by_test false a b e = inr (λ is. let t : (a == b) ≡ true = subst (λ (x : ℕ). (a == x) ≡ true) is (same_number a) in let z : true ≡ false = sym t ∙ e in absurd cc)

decide : (a b : ℕ) → (a ≡ b) ⊎ (a ≢ b)
decide a b = by_test (a == b) a b refl

module _ {R K : Type 0} (form : Form R K) (site : Site) where
  same_alike : (m n : ℕ → List ℕ) (level b : ℕ) → n b ≡ m b → IsAlike form site m n level b
  same_alike m n level b e = record { area = ap area_of e; count = ap numrecs e; right = λ root h. rw e h }

  same_links : (m n : ℕ → List ℕ) (b : ℕ) → n b ≡ m b → SameLinks m n b
  same_links m n b e = record { left = ap left_of e; right = ap right_of e }

  -- ---- rows

  module _ (m n : ℕ → List ℕ) (level p : ℕ) (w : IsWrittenOver form site m n level p) where
    over_same : (xs ys : List ℕ) → IsRow form site m xs (p ∷ []) ys [] → (AllBlocks (λ b. n b ≡ m b) xs) × (AllBlocks (λ b. n b ≡ m b) ys)
    over_same xs ys r =
        let none : (b : ℕ) → times b ((xs ++ p ∷ ys) ++ []) ≤ 1 = r.differ in
        let d : AllDiffer (xs ++ p ∷ ys) = λ b. omega (arith, none b, times_append b (xs ++ p ∷ ys) []) in (
          all_members (λ b. n b ≡ m b) xs (λ b some. w.others b (is_other b p ys (omega (arith, d b, times_append b xs (p ∷ ys), some)))),
          all_members (λ b. n b ≡ m b) ys (λ b some. w.others b (is_other b p [] (omega (arith, d b, times_append b xs (p ∷ ys), some)))),
        )

    pub written_rows : Rows form site m n level (p ∷ []) (p ∷ []) [] []
    written_rows = record {
      row = λ xs ys r.
          let s = over_same xs ys r in
          record {
            linked = links_stay_lem m n (xs ++ p ∷ ys)
                (all_join (SameLinks m n) xs (p ∷ ys) (all_map (λ b. n b ≡ m b) (SameLinks m n) xs (same_links m n) s.0) (record { left = w.left; right = w.right }, all_map (λ b. n b ≡ m b) (SameLinks m n) ys (same_links m n) s.1))
                r.linked;
            front = all_map (λ b. n b ≡ m b) (IsAlike form site m n level) xs (same_alike m n level) s.0;
            back = all_map (λ b. n b ≡ m b) (IsAlike form site m n level) ys (same_alike m n level) s.1;
          };
      right = (w.passes, tt);
      parts_are = λ b. omega arith;
      others = λ xs ys r b none fresh. w.others b (is_other b p ys (omega (arith, none, times_append b xs (p ∷ ys))));
    }

  module _ (m n : ℕ → List ℕ) (level p q : ℕ) (c : IsCut form site m n level p q) where
    -- a block of the row that is none of those that are written
    untouched : (xs ys : List ℕ) → IsRow form site m xs (p ∷ []) ys (q ∷ []) → (b : ℕ) → 1 ≤ times b xs + times b ys → b ≢ right_of (m p) → n b ≡ m b
    untouched xs ys r b some not_right =
        let d : times b ((xs ++ p ∷ ys) ++ (q ∷ [])) ≤ 1 = r.differ b in
        c.others b
        (is_other b p [] (omega (arith, d, times_append b (xs ++ p ∷ ys) (q ∷ []), times_append b xs (p ∷ ys), some)))
        (is_other b q [] (omega (arith, d, times_append b (xs ++ p ∷ ys) (q ∷ []), times_append b xs (p ∷ ys), some)))
        not_right

    is_some : (xs ys : List ℕ) → AllBlocks (λ b. b < no_block) (xs ++ p ∷ ys) → p ≢ no_block
    is_some xs ys some is = let h = (all_right (λ b. b < no_block) xs (p ∷ ys) some).0 in absurd (omega (arith, h, is))

    -- the blocks of a part of the row that hasn't the right sibling are as before
    stay_but : (xs ys zs : List ℕ) → IsRow form site m xs (p ∷ []) ys (q ∷ []) → ((b : ℕ) → 1 ≤ times b zs → (1 ≤ times b xs + times b ys) × (b ≢ right_of (m p))) → AllBlocks (λ b. n b ≡ m b) zs
    stay_but xs ys zs r each = all_members (λ b. n b ≡ m b) zs (λ b some. let h = each b some in untouched xs ys r b h.0 h.1)

    cut_row : (xs ys : List ℕ) → IsRow form site m xs (p ∷ []) ys (q ∷ []) → IsRowed form site m n level xs ys (p ∷ q ∷ [])
    cut_row xs [] r =
        let none : right_of (m p) ≡ no_block = last_names_none_lem m xs p r.linked in
        let low : AllBlocks (λ b. b < no_block) xs = all_left (λ b. b < no_block) xs (p ∷ []) r.some in
        let front : AllBlocks (λ b. n b ≡ m b) xs =
        all_both (λ b. b < no_block) (λ b. 1 ≤ times b xs) (λ b. n b ≡ m b) xs
        (λ b lt some. untouched xs [] r b (omega (arith, some)) (λ is. absurd (omega (arith, lt, is, none)))) low (all_members (λ b. 1 ≤ times b xs) xs (λ b some. some)) in
        record {
          linked = links_split_lem m n xs p q [] (all_map (λ b. n b ≡ m b) (SameLinks m n) xs (same_links m n) front) (is_some xs [] r.some) c.left c.right c.new_left c.new_right tt r.linked;
          front = all_map (λ b. n b ≡ m b) (IsAlike form site m n level) xs (same_alike m n level) front;
          back = tt;
        }
    cut_row xs (y ∷ ys) r =
        let named : right_of (m p) ≡ y = next_is_named_lem m xs p y ys (is_some xs (y ∷ ys) r.some) r.linked in
        let is_y : y < no_block = (all_right (λ b. b < no_block) xs (p ∷ y ∷ ys) r.some).1.0 in
        let behind = c.behind (λ is. absurd (omega (arith, is_y, named, is))) in
        let alike : IsAlike form site m n level y = subst (IsAlike form site m n level) named behind.0 in
        let y_left : left_of (n y) ≡ q = subst (λ (b : ℕ). left_of (n b) ≡ q) named behind.1 in
        let y_right : right_of (n y) ≡ right_of (m y) = subst (λ (b : ℕ). right_of (n b) ≡ right_of (m b)) named behind.2 in
        let front : AllBlocks (λ b. n b ≡ m b) xs =
        all_members (λ b. n b ≡ m b) xs (λ b some. untouched xs (y ∷ ys) r b (omega (arith, some))
        (λ is. is_other b y [] (omega (arith, r.differ b, times_append b (xs ++ p ∷ y ∷ ys) (q ∷ []), times_append b xs (p ∷ y ∷ ys), some)) (is ∙ named))) in
        let back : AllBlocks (λ b. n b ≡ m b) ys =
        all_members (λ b. n b ≡ m b) ys (λ b some. untouched xs (y ∷ ys) r b (omega (arith, some))
        (λ is. is_other b y [] (omega (arith, r.differ b, times_append b (xs ++ p ∷ y ∷ ys) (q ∷ []), times_append b xs (p ∷ y ∷ ys), some)) (is ∙ named))) in
        record {
          linked = links_split_lem m n xs p q (y ∷ ys) (all_map (λ b. n b ≡ m b) (SameLinks m n) xs (same_links m n) front) (is_some xs (y ∷ ys) r.some) c.left c.right c.new_left c.new_right
              (y_left, y_right, all_map (λ b. n b ≡ m b) (SameLinks m n) ys (same_links m n) back) r.linked;
          front = all_map (λ b. n b ≡ m b) (IsAlike form site m n level) xs (same_alike m n level) front;
          back = (alike, all_map (λ b. n b ≡ m b) (IsAlike form site m n level) ys (same_alike m n level) back);
        }

    not_right : (xs ys : List ℕ) → IsRow form site m xs (p ∷ []) ys (q ∷ []) → (b : ℕ) → times b (xs ++ p ∷ ys) ≡ 0 → b ≡ right_of (m p) → b ≡ no_block
    not_right xs [] r b none is = is ∙ last_names_none_lem m xs p r.linked
    not_right xs (y ∷ ys) r b none is =
        let named : right_of (m p) ≡ y = next_is_named_lem m xs p y ys (is_some xs (y ∷ ys) r.some) r.linked in
        absurd (is_other b y [] (omega (arith, none, times_append b xs (p ∷ y ∷ ys))) (is ∙ named))

    pub cut_rows : ((b : ℕ) → b ≡ no_block → b ≢ p → b ≢ q → n b ≡ m b) → Rows form site m n level (p ∷ []) (p ∷ q ∷ []) (q ∷ []) []
    cut_rows nowhere = record {
      row = cut_row;
      right = (c.passes, (c.new_passes, tt));
      parts_are = λ b. omega (arith, times_append b (p ∷ []) (q ∷ []));
      others = λ xs ys r b none fresh.
          let not_p : b ≢ p = is_other b p ys (omega (arith, none, times_append b xs (p ∷ ys))) in
          let not_q : b ≢ q = is_other b q [] fresh in
          elim (decide b (right_of (m p))) [
            | inl is ↦ nowhere b (not_right xs ys r b none is) not_p not_q
            | inr other ↦ c.others b not_p not_q other
          ];
    }

  module _ (m n : ℕ → List ℕ) (level p q : ℕ) (c : IsEvened form site m n level p q) where
    even_other : (xs ys : List ℕ) → IsRow form site m xs (p ∷ q ∷ []) ys [] → (b : ℕ) → 1 ≤ times b xs + times b ys → n b ≡ m b
    even_other xs ys r b some =
        let d : times b ((xs ++ p ∷ q ∷ ys) ++ []) ≤ 1 = r.differ b in
        c.others b
        (is_other b p [] (omega (arith, d, times_append b (xs ++ p ∷ q ∷ ys) [], times_append b xs (p ∷ q ∷ ys), some)))
        (is_other b q [] (omega (arith, d, times_append b (xs ++ p ∷ q ∷ ys) [], times_append b xs (p ∷ q ∷ ys), some)))

    even_some : (xs ys : List ℕ) → AllBlocks (λ b. b < no_block) (xs ++ p ∷ q ∷ ys) → p ≢ no_block
    even_some xs ys some is = let h = (all_right (λ b. b < no_block) xs (p ∷ q ∷ ys) some).0 in absurd (omega (arith, h, is))

    even_row : (xs ys : List ℕ) → IsRow form site m xs (p ∷ q ∷ []) ys [] → IsRowed form site m n level xs ys (p ∷ q ∷ [])
    even_row xs ys r =
        let front : AllBlocks (λ b. n b ≡ m b) xs = all_members (λ b. n b ≡ m b) xs (λ b some. even_other xs ys r b (omega (arith, some))) in
        let back : AllBlocks (λ b. n b ≡ m b) ys = all_members (λ b. n b ≡ m b) ys (λ b some. even_other xs ys r b (omega (arith, some))) in
        let named : right_of (m p) ≡ q = next_is_named_lem m xs p q ys (even_some xs ys r.some) r.linked in
        let q_left : left_of (m q) ≡ p = (chain_right m no_block no_block xs (p ∷ q ∷ ys) r.linked.chain).2.0 in
        record {
          linked = links_stay_lem m n (xs ++ p ∷ q ∷ ys)
              (all_join (SameLinks m n) xs (p ∷ q ∷ ys) (all_map (λ b. n b ≡ m b) (SameLinks m n) xs (same_links m n) front)
              (record { left = c.left; right = c.right ∙ sym named }, (record { left = c.next_left ∙ sym q_left; right = c.next_right }, all_map (λ b. n b ≡ m b) (SameLinks m n) ys (same_links m n) back))) r.linked;
          front = all_map (λ b. n b ≡ m b) (IsAlike form site m n level) xs (same_alike m n level) front;
          back = all_map (λ b. n b ≡ m b) (IsAlike form site m n level) ys (same_alike m n level) back;
        }

    pub even_rows : Rows form site m n level (p ∷ q ∷ []) (p ∷ q ∷ []) [] []
    even_rows = record {
      row = even_row;
      right = (c.passes, (c.next_passes, tt));
      parts_are = λ b. refl;
      others = λ xs ys r b none fresh.
          c.others b
          (is_other b p [] (omega (arith, none, times_append b xs (p ∷ q ∷ ys))))
          (is_other b q [] (omega (arith, none, times_append b xs (p ∷ q ∷ ys))));
    }

  module _ (m n : ℕ → List ℕ) (level p q : ℕ) (c : IsMerged form site m n level p q) where
    merge_other : (xs ys : List ℕ) → IsRow form site m xs (p ∷ q ∷ []) ys [] → (b : ℕ) → 1 ≤ times b xs + times b ys → b ≢ right_of (m q) → n b ≡ m b
    merge_other xs ys r b some not_right =
        let d : times b ((xs ++ p ∷ q ∷ ys) ++ []) ≤ 1 = r.differ b in
        c.others b (is_other b p [] (omega (arith, d, times_append b (xs ++ p ∷ q ∷ ys) [], times_append b xs (p ∷ q ∷ ys), some))) not_right

    abbrev more : List ℕ → List ℕ
    more xs = xs ++ p ∷ []

    longer : (xs ys : List ℕ) → (xs ++ p ∷ []) ++ q ∷ ys ≡ xs ++ p ∷ q ∷ ys
    longer [] ys = refl
    longer (x ∷ xs) ys = ap (λ (t : List ℕ). x ∷ t) (longer xs ys)

    q_some : (xs ys : List ℕ) → AllBlocks (λ b. b < no_block) (xs ++ p ∷ q ∷ ys) → q ≢ no_block
    q_some xs ys some is = let h = (all_right (λ b. b < no_block) xs (p ∷ q ∷ ys) some).1.0 in absurd (omega (arith, h, is))

    merge_row : (xs ys : List ℕ) → IsRow form site m xs (p ∷ q ∷ []) ys [] → IsRowed form site m n level xs ys (p ∷ [])
    merge_row xs [] r =
        let none : right_of (m q) ≡ no_block = last_names_none_lem m (more xs) q (subst (IsLinked m) (sym (longer xs [])) r.linked) in
        let low : AllBlocks (λ b. b < no_block) xs = all_left (λ b. b < no_block) xs (p ∷ q ∷ []) r.some in
        let front : AllBlocks (λ b. n b ≡ m b) xs =
        all_both (λ b. b < no_block) (λ b. 1 ≤ times b xs) (λ b. n b ≡ m b) xs
        (λ b lt some. merge_other xs [] r b (omega (arith, some)) (λ is. absurd (omega (arith, lt, is, none)))) low (all_members (λ b. 1 ≤ times b xs) xs (λ b some. some)) in
        record {
          linked = links_merge_lem m n xs p q [] (all_map (λ b. n b ≡ m b) (SameLinks m n) xs (same_links m n) front) (q_some xs [] r.some) c.left c.right tt r.linked;
          front = all_map (λ b. n b ≡ m b) (IsAlike form site m n level) xs (same_alike m n level) front;
          back = tt;
        }
    merge_row xs (y ∷ ys) r =
        let named : right_of (m q) ≡ y = next_is_named_lem m (more xs) q y ys (q_some xs (y ∷ ys) r.some) (subst (IsLinked m) (sym (longer xs (y ∷ ys))) r.linked) in
        let is_y : y < no_block = (all_right (λ b. b < no_block) xs (p ∷ q ∷ y ∷ ys) r.some).1.1.0 in
        let behind = c.behind (λ is. absurd (omega (arith, is_y, named, is))) in
        let alike : IsAlike form site m n level y = subst (IsAlike form site m n level) named behind.0 in
        let y_left : left_of (n y) ≡ p = subst (λ (b : ℕ). left_of (n b) ≡ p) named behind.1 in
        let y_right : right_of (n y) ≡ right_of (m y) = subst (λ (b : ℕ). right_of (n b) ≡ right_of (m b)) named behind.2 in
        let front : AllBlocks (λ b. n b ≡ m b) xs =
        all_members (λ b. n b ≡ m b) xs (λ b some. merge_other xs (y ∷ ys) r b (omega (arith, some))
        (λ is. is_other b y [] (omega (arith, r.differ b, times_append b (xs ++ p ∷ q ∷ y ∷ ys) [], times_append b xs (p ∷ q ∷ y ∷ ys), some)) (is ∙ named))) in
        let back : AllBlocks (λ b. n b ≡ m b) ys =
        all_members (λ b. n b ≡ m b) ys (λ b some. merge_other xs (y ∷ ys) r b (omega (arith, some))
        (λ is. is_other b y [] (omega (arith, r.differ b, times_append b (xs ++ p ∷ q ∷ y ∷ ys) [], times_append b xs (p ∷ q ∷ y ∷ ys), some)) (is ∙ named))) in
        record {
          linked = links_merge_lem m n xs p q (y ∷ ys) (all_map (λ b. n b ≡ m b) (SameLinks m n) xs (same_links m n) front) (q_some xs (y ∷ ys) r.some) c.left c.right
              (y_left, y_right, all_map (λ b. n b ≡ m b) (SameLinks m n) ys (same_links m n) back) r.linked;
          front = all_map (λ b. n b ≡ m b) (IsAlike form site m n level) xs (same_alike m n level) front;
          back = (alike, all_map (λ b. n b ≡ m b) (IsAlike form site m n level) ys (same_alike m n level) back);
        }

    merge_right : (xs ys : List ℕ) → IsRow form site m xs (p ∷ q ∷ []) ys [] → (b : ℕ) → times b (xs ++ p ∷ q ∷ ys) ≡ 0 → b ≡ right_of (m q) → b ≡ no_block
    merge_right xs [] r b none is = is ∙ last_names_none_lem m (more xs) q (subst (IsLinked m) (sym (longer xs [])) r.linked)
    merge_right xs (y ∷ ys) r b none is =
        let named : right_of (m q) ≡ y = next_is_named_lem m (more xs) q y ys (q_some xs (y ∷ ys) r.some) (subst (IsLinked m) (sym (longer xs (y ∷ ys))) r.linked) in
        absurd (is_other b y [] (omega (arith, none, times_append b xs (p ∷ q ∷ y ∷ ys))) (is ∙ named))

    pub merge_rows : Rows form site m n level (p ∷ q ∷ []) (p ∷ []) [] (q ∷ [])
    merge_rows = record {
      row = merge_row;
      right = (c.passes, tt);
      parts_are = λ b. omega (arith, times_append b (p ∷ []) (q ∷ []));
      others = λ xs ys r b none fresh.
          let not_p : b ≢ p = is_other b p [] (omega (arith, none, times_append b xs (p ∷ q ∷ ys))) in
          elim (decide b (right_of (m q))) [
            | inl is ↦ c.nowhere b (merge_right xs ys r b none is) not_p
            | inr other ↦ c.others b not_p other
          ];
    }

  -- ---- leaves

  module _ (m n : ℕ → List ℕ) where
    alike_recs : (p : ℕ) → IsAlike form site m n 0 p → recs_of form n 0 p ≡ recs_of form m 0 p
    unfolding recs_of records_of
    alike_recs p a = rw (a.area, a.count) refl

    pub alike_entries : (level p : ℕ) → IsAlike form site m n level p → entries form n p ≡ entries form m p
    unfolding entries_from
    alike_entries level p a = rw (a.area, a.count) refl

    pub alike_entries_over : (level : ℕ) (ps : List ℕ) → AllBlocks (IsAlike form site m n level) ps → entries_over form n ps ≡ entries_over form m ps
    alike_entries_over level [] h = refl
    alike_entries_over level (p ∷ ps) h = rw (alike_entries level p h.0, alike_entries_over level ps h.1) refl

    alike_right : (level : ℕ) (ps : List ℕ) → AllBlocks (IsAlike form site m n level) ps → AllBlocks (IsRight form m site level true) ps → AllBlocks (IsRight form n site level true) ps
    alike_right level ps alike h = all_both (IsAlike form site m n level) (IsRight form m site level true) (IsRight form n site level true) ps (λ b a r. a.right true r) alike h

    -- the tests of a row's blocks, where some stand in the place of others
    pub right_row : (level : ℕ) (xs old ys parts fresh freed : List ℕ) → Rows form site m n level old parts fresh freed → IsRowed form site m n level xs ys parts → AllBlocks (IsRight form m site level true) (xs ++ (old ++ ys))
        → AllBlocks (IsRight form n site level true) (xs ++ (parts ++ ys))
    right_row level xs old ys parts fresh freed rows rowed h =
        all_join (IsRight form n site level true) xs (parts ++ ys) (alike_right level xs rowed.front (all_left (IsRight form m site level true) xs (old ++ ys) h))
        (all_join (IsRight form n site level true) parts ys rows.right (alike_right level ys rowed.back (all_right (IsRight form m site level true) old ys (all_right (IsRight form m site level true) xs (old ++ ys) h))))

    pub alike_each : (level : ℕ) (ps : List ℕ) → AllBlocks (IsAlike form site m n level) ps → AllBlocks (λ b. IsRight form m site level false b → IsRight form n site level false b) ps
    alike_each level ps alike = all_map (IsAlike form site m n level) (λ b. IsRight form m site level false b → IsRight form n site level false b) ps (λ b a. a.right false) alike

  pub times_three : (b : ℕ) (xs old ys parts fresh freed : List ℕ) → times b parts + times b freed ≡ times b old + times b fresh → times b (xs ++ (parts ++ ys)) + times b freed ≡ times b (xs ++ (old ++ ys)) + times b fresh
  times_three b xs old ys parts fresh freed e = omega (arith, times_append b xs (parts ++ ys), times_append b parts ys, times_append b xs (old ++ ys), times_append b old ys, e)

  pub leaves_turn : LeavesTurn form site
  unfolding IsForest blocks_over
  leaves_turn sure m n old parts fresh freed rows xs ys fits =
      let row : IsRow form site m xs old ys fresh = record { linked = fits.forest.1; differ = fits.differ; some = all_left (λ b. b < no_block) (xs ++ (old ++ ys)) fresh fits.some } in
      let rowed = rows.row xs ys row in
      record {
        recs_are = refl;
        forest = (right_row m n 0 xs old ys parts fresh freed rows rowed fits.forest.0, rowed.linked);
        front = all_map (IsAlike form site m n 0) (λ b. recs_of form n 0 b ≡ recs_of form m 0 b) xs (alike_recs m n) rowed.front;
        back = all_map (IsAlike form site m n 0) (λ b. recs_of form n 0 b ≡ recs_of form m 0 b) ys (alike_recs m n) rowed.back;
        front_full = alike_each m n 0 xs rowed.front;
        back_full = alike_each m n 0 ys rowed.back;
        full = λ _ _. tt;
        deep = λ _. tt;
        blocks = λ b. times_three b xs old ys parts fresh freed (rows.parts_are b);
        others = rows.others xs ys row;
      }

pub writes_over_lem : {R K : Type 0} (form : Form R K) (site : Site) → WritesOver form site
writes_over_lem form site m n level p w = written_rows form site m n level p w

pub cuts_lem : {R K : Type 0} (form : Form R K) (site : Site) → Cuts form site
cuts_lem form site m n level p q c = cut_rows form site m n level p q c c.nowhere

pub evens_lem : {R K : Type 0} (form : Form R K) (site : Site) → Evens form site
evens_lem form site m n level p q c = even_rows form site m n level p q c

pub merges_lem : {R K : Type 0} (form : Form R K) (site : Site) → Merges form site
merges_lem form site m n level p q c = merge_rows form site m n level p q c
