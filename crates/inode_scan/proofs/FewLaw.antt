-- How many blocks a search of a readable tree reads.
use Rattle.std.proofs.Common.{◌≡◌, ℕ, zero, suc, ◌+◌, ◌-◌, ◌*◌, ◌≤◌, Bool, true, false, List, [], ◌∷◌, ◌++◌, length, length-append, Option, Some, None, Ok, refl, sym, ap, subst, ◌∙◌, arith}
use Rattle.std.specs.Prelude.{nat_lt, nat_le, ◌==◌}
use Rattle.std.proofs.lemmas.Bool.{false≢true, and_parts, leb-true}
use Rattle.std.proofs.lemmas.Bool.Decides.{nat_tests}
use Rattle.ino_recs.specs.Chunks.{ino_form}
use Rattle.ino_recs.specs.ChunkLaws.{lawful_ino}
use Rattle.ino_recs.specs.declared.chunk.InoKey.{InoKey}
use Rattle.ino_recs.specs.declared.chunk.InoRec.{InoRec}
use Rattle.sblock.specs.Area.{area_of}
use Rattle.sblock.specs.Blocks.{numrecs, count_fits, records_of, IsRising}
use Rattle.sblock.specs.Headers.{left_of}
use Rattle.sblock.specs.Lists.{items_from, Each}
use Rattle.sblock.proofs.BlockLemmas.{passed}
use Rattle.tree_defs.specs.Levels.{over, AllEntries, recs_of, IsRight, IsSound, IsTree}
use Rattle.tree_defs.specs.Tree.{entries_from, want_of}
use Rattle.tree_defs.specs.declared.site.Site.{Site}
use Rattle.tree_defs.proofs.Depths.{has_few_levels_lem}
use Rattle.tree_defs.proofs.Trees.{reads_trees_lem}
use Rattle.tree_find.specs.Laws.{Holds}
use Rattle.tree_find.specs.Next.{start_of}
use Rattle.tree_find.specs.Places.{place_behind}
use Rattle.tree_find.proofs.EntryLemmas.{reached_begins}
use Rattle.tree_find.proofs.FindLaw.{is_level}
use Rattle.tree_find.proofs.LastLemmas.{items_length}
use Rattle.tree_find.proofs.NodeLemmas.{Fits, entry, in_front, behind, low_reached, low_unreached, lies_from, fit_behind, recs_parts}
use Rattle.tree_find.proofs.Parting.{Begins, is_above, rising_front, rising_rest, all_above, all_passed}
use Rattle.inode_scan.specs.Chunk.{or_else, first_of, first_in}
use Rattle.inode_scan.specs.Reads.{counted, passed_in, ReadsFew, ReadsInBounds}
use Rattle.inode_scan.specs.Search.{Search, then_reads, reads_among, key_from, search_below, reads_below, reads_in}
use Rattle.inode_scan.proofs.ChunkLemmas.{first_append}
use Rattle.inode_scan.proofs.FirstLaw.{finds, front_none}

-- ---- the chunks that are passed

first_none : (a b : Option ℕ) → or_else a b ≡ None → (a ≡ None) × (b ≡ None)
first_none None b h = (refl, h)
first_none (Some n) b h = cc

counted_more : (o : Option ℕ) (t : Bool) (a b : ℕ) → a ≤ b → counted o t a ≤ counted o t b
counted_more (Some n) t a b h = omega arith
counted_more None true a b h = omega (arith, h)
counted_more None false a b h = h

counted_sum : (o : Option ℕ) (t : Bool) (a b c : ℕ) → o ≡ None → c ≡ a + b → counted o t c ≡ counted o t a + b
counted_sum (Some n) t a b c e h = cc
counted_sum None true a b c e h = omega (arith, h)
counted_sum None false a b c e h = h

counted_one : (o : Option ℕ) (t : Bool) (a n : ℕ) → o ≡ None → t ≡ true → a ≡ n → counted o t a ≡ suc n
counted_one (Some k) t a n e f h = cc
counted_one None true a n e f h = omega (arith, h)
counted_one None false a n e f h = cc

module _ (from end : ℕ) where
  passed_front : (xs ys : List InoRec) → passed_in from end xs ≤ passed_in from end (xs ++ ys)
  unfolding passed_in
  passed_front [] ys = omega arith
  passed_front (x ∷ xs) ys = counted_more (first_of from end x) (nat_le from (x.startino + 63)) (passed_in from end xs) (passed_in from end (xs ++ ys)) (passed_front xs ys)

  passed_sum : (xs ys : List InoRec) → first_in from end xs ≡ None → passed_in from end (xs ++ ys) ≡ passed_in from end xs + passed_in from end ys
  unfolding passed_in first_in
  passed_sum [] ys h = omega arith
  passed_sum (x ∷ xs) ys h =
      let parts = first_none (first_of from end x) (first_in from end xs) h in
      counted_sum (first_of from end x) (nat_le from (x.startino + 63)) (passed_in from end xs) (passed_in from end ys) (passed_in from end (xs ++ ys)) parts.0 (passed_sum xs ys parts.1)

  above_reaches : (a : ℕ) → nat_lt (from - 63) a ≡ true → nat_le from (a + 63) ≡ true
  above_reaches a h = grind (arith, nat_tests)

  all_counted : (xs : List InoRec) → first_in from end xs ≡ None → Each (λ (r : InoRec). nat_lt (from - 63) r.startino) xs → passed_in from end xs ≡ length xs
  unfolding passed_in first_in
  all_counted [] h above = refl
  all_counted (x ∷ xs) h above =
      let parts = first_none (first_of from end x) (first_in from end xs) h in
      counted_one (first_of from end x) (nat_le from (x.startino + 63)) (passed_in from end xs) (length xs) parts.0 (above_reaches x.startino above.0) (all_counted xs parts.1 above.1)

each_front : {A : Type 0} (test : A → Bool) (xs ys : List A) → Each test (xs ++ ys) → Each test xs
each_front test [] ys h = tt
each_front test (x ∷ xs) ys h = (h.0, each_front test xs ys h.1)

each_rest : {A : Type 0} (test : A → Bool) (xs ys : List A) → Each test (xs ++ ys) → Each test ys
each_rest test [] ys h = h
each_rest test (x ∷ xs) ys h = each_rest test xs ys h.1

module _ (site : Site) (m : ℕ → List ℕ) (from end : ℕ) where
  abbrev above : InoRec → Bool
  above r = is_above ino_form lawful_ino (key_from from) r

  -- ---- the least numbers of records and entries

  leaf_has : (p : ℕ) → IsRight ino_form m site 0 false p → 126 ≤ length (records_of ino_form (m p))
  unfolding count_fits records_of
  leaf_has p right =
      let fits : count_fits ino_form.kind (0 == 0) false (numrecs (m p)) ≡ true = (passed ino_form (m p) (want_of ino_form.kind site 0 false (left_of (m p)) p) right).fits in
      let least : 126 ≤ numrecs (m p) = leb-true _ _ (and_parts _ _ fits).0 in
      rw (items_length (ino_form.record_at (area_of (m p))) (numrecs (m p)) 0) least

  node_has : (level p : ℕ) → IsRight ino_form m site (suc level) false p → 252 ≤ numrecs (m p)
  unfolding count_fits
  node_has level p right =
      let e : (suc level == 0) ≡ false = grind (arith, nat_tests) in
      let fits : count_fits ino_form.kind (suc level == 0) false (numrecs (m p)) ≡ true = (passed ino_form (m p) (want_of ino_form.kind site (suc level) false (left_of (m p)) p) right).fits in
      leb-true _ _ (and_parts _ _ (rw e at fits)).0

  -- ---- subtrees all of whose chunks have numbers of the range

  -- where nothing is found, two records for each 251 blocks; else the way to it comes besides
  abbrev Costs : Option ℕ → ℕ → ℕ → List InoRec → Type 0
  Costs None level reads recs = 251 * reads + 1 ≤ 2 * length recs
  Costs (Some n) level reads recs = 251 * reads ≤ 251 * (level + 1) + 2 * passed_in from end recs

  abbrev CostsEach : Option ℕ → ℕ → ℕ → ℕ → List InoRec → Type 0
  CostsEach None level n reads recs = 251 * reads + n ≤ 2 * length recs
  CostsEach (Some k) level n reads recs = 251 * reads ≤ 251 * (level + 1) + 2 * passed_in from end recs

  abbrev Full : ℕ → ℕ → Type 0
  Full level q =
      IsSound ino_form m site level false q → IsRising ino_form (recs_of ino_form m level q) → Each above (recs_of ino_form m level q)
      → (o : Option ℕ) → first_in from end (recs_of ino_form m level q) ≡ o → Costs o level (reads_below site m from end level q) (recs_of ino_form m level q)

  module _ (level : ℕ) (bytes : List ℕ) where
    abbrev items : ℕ → ℕ → List InoRec
    items n i = over (recs_of ino_form m level) (items_from (entry ino_form lawful_ino site m bytes) n i)

    abbrev reads_of : ℕ → ℕ → ℕ
    reads_of n i = reads_among (search_below site m from end level false) (reads_below site m from end level) (items_from (entry ino_form lawful_ino site m bytes) n i)

    abbrev child : ℕ → ℕ
    child i = (entry ino_form lawful_ino site m bytes i).child

    -- the reads of the entries from one on, by what its subtree gives
    reads_one : (n i : ℕ) (a : Option ℕ) → Fits ino_form lawful_ino site m level (entry ino_form lawful_ino site m bytes i) → IsRising ino_form (recs_of ino_form m level (child i)) → first_in from end (recs_of ino_form m level (child i)) ≡ a
        → reads_of (suc n) i ≡ then_reads (Ok a) (reads_below site m from end level (child i)) (reads_of n (i + 1))
    reads_one n i a fit rising e =
        ap (λ (s : Search). then_reads s (reads_below site m from end level (child i)) (reads_of n (i + 1)))
        (finds site m from end level false (child i) fit.0 rising ∙ ap Ok e)

    module _ (go : (q : ℕ) → Full level q) where
      costs_each : (n i : ℕ) → AllEntries (Fits ino_form lawful_ino site m level) (items_from (entry ino_form lawful_ino site m bytes) n i) → IsRising ino_form (items n i) → Each above (items n i)
          → (o : Option ℕ) → first_in from end (items n i) ≡ o → CostsEach o level n (reads_of n i) (items n i)
      unfolding first_in
      costs_each zero i fits rising up None e = omega arith
      costs_each zero i fits rising up (Some k) e = cc
      costs_each (suc n) i fits rising up o e =
          by_first
          (λ x h. costs_each n (i + 1) fits.1 (rising_rest ino_form lawful_ino (recs_of ino_form m level (child i)) (items n (i + 1)) rising) (each_rest above (recs_of ino_form m level (child i)) (items n (i + 1)) up) x h)
          (first_in from end (recs_of ino_form m level (child i))) refl o e
        where
          mine : List InoRec
          mine = recs_of ino_form m level (child i)

          rest : List InoRec
          rest = items n (i + 1)

          by_first : ((x : Option ℕ) → first_in from end rest ≡ x → CostsEach x level n (reads_of n (i + 1)) rest) → (a : Option ℕ) → first_in from end mine ≡ a → (o : Option ℕ) → first_in from end (mine ++ rest) ≡ o → CostsEach o level (suc n) (reads_of (suc n) i) (mine ++ rest)
          by_first later None f o e =
              let reads = reads_one n i None fits.0 (rising_front ino_form lawful_ino mine rest rising) f in
              let here = go (child i) fits.0.0 (rising_front ino_form lawful_ino mine rest rising) (each_front above mine rest up) None f in
              let left : first_in from end rest ≡ o = sym (first_append from end mine rest ∙ ap (λ (x : Option ℕ). or_else x (first_in from end rest)) f) ∙ e in
              by_rest o reads here (later o left)
            where
              by_rest : (o : Option ℕ) → reads_of (suc n) i ≡ reads_below site m from end level (child i) + reads_of n (i + 1) → 251 * reads_below site m from end level (child i) + 1 ≤ 2 * length mine
                  → CostsEach o level n (reads_of n (i + 1)) rest → CostsEach o level (suc n) (reads_of (suc n) i) (mine ++ rest)
              by_rest None reads here later = let both = length-append mine rest in omega (arith, reads, here, later, both)
              by_rest (Some k) reads here later =
                  let sum = passed_sum from end mine rest f in
                  let all = all_counted from end mine f (each_front above mine rest up) in
                  omega (arith, reads, here, later, sum, all)
          by_first later (Some j) f None e = let none = first_none (first_in from end mine) (first_in from end rest) (sym (first_append from end mine rest) ∙ e) in cc
          by_first later (Some j) f (Some k) e =
              let reads = reads_one n i (Some j) fits.0 (rising_front ino_form lawful_ino mine rest rising) f in
              let here = go (child i) fits.0.0 (rising_front ino_form lawful_ino mine rest rising) (each_front above mine rest up) (Some j) f in
              let more = passed_front from end mine rest in
              omega (arith, reads, here, more)

  -- where the first record of a part isn't above the key, not all are
  not_begun : (ys zs : List InoRec) → Each above (ys ++ zs) → Begins ino_form lawful_ino (key_from from) ys → ⊥
  not_begun [] zs up b = b
  not_begun (y ∷ ys) zs up b = false≢true (sym b ∙ up.0)

  -- all entries are read of such a node
  none_reached : (level : ℕ) (bytes : List ℕ) (i : ℕ) → place_behind ino_form (key_from from) false (area_of bytes) (numrecs bytes) ≡ suc i
      → AllEntries (Fits ino_form lawful_ino site m level) (items_from (entry ino_form lawful_ino site m bytes) (numrecs bytes) 0) → Each above (items level bytes (numrecs bytes) 0) → ⊥
  none_reached level bytes i e fits up =
      let at = low_reached ino_form lawful_ino site m bytes (key_from from) i e in
      let parts = fit_behind ino_form lawful_ino site m bytes level i at.1 fits in
      let split = recs_parts ino_form lawful_ino site m bytes level i at.1 in
      let front = over (recs_of ino_form m level) (in_front ino_form lawful_ino site m bytes i) in
      let mine = recs_of ino_form m level (child level bytes i) in
      let rest = over (recs_of ino_form m level) (behind ino_form lawful_ino site m bytes i) in
      let begins = reached_begins ino_form lawful_ino (key_from from) (entry ino_form lawful_ino site m bytes i) mine parts.0.1 at.0 in
      let whole : Each above (front ++ (mine ++ rest)) = let P : List InoRec → Type 0 = λ v. Each above v in subst P split up in
      not_begun mine rest (each_rest above front (mine ++ rest) whole) begins

  node_costs : (level n reads : ℕ) (recs : List InoRec) (o : Option ℕ) → 252 ≤ n → CostsEach o level n reads recs → Costs o (suc level) (1 + reads) recs
  node_costs level n reads recs None least h = omega (arith, least, h)
  node_costs level n reads recs (Some k) least h = omega (arith, h)

  full : (level q : ℕ) → Full level q
  unfolding reads_below recs_of IsSound entries_from start_of
  full zero q sound rising up None e = let least = leaf_has q sound in omega (arith, least)
  full zero q sound rising up (Some k) e = omega arith
  full (suc level) q sound rising up o e = by_place (λ p. full level p) (place_behind ino_form (key_from from) false (area_of (m q)) (numrecs (m q))) refl
    where
      by_place : ((p : ℕ) → Full level p) → (place : ℕ) → place_behind ino_form (key_from from) false (area_of (m q)) (numrecs (m q)) ≡ place
          → Costs o (suc level) (1 + reads_of level (m q) (numrecs (m q) - (place_behind ino_form (key_from from) false (area_of (m q)) (numrecs (m q)) - 1)) (place_behind ino_form (key_from from) false (area_of (m q)) (numrecs (m q)) - 1)) (items level (m q) (numrecs (m q)) 0)
      by_place go zero is =
          let whole : numrecs (m q) - 0 ≡ numrecs (m q) = omega arith in
          rw (is, whole) (node_costs level (numrecs (m q)) (reads_of level (m q) (numrecs (m q)) 0) (items level (m q) (numrecs (m q)) 0) o (node_has level q sound.0) (costs_each level (m q) go (numrecs (m q)) 0 sound.1 rising up o e))
      by_place go (suc i) is = absurd (none_reached level (m q) i is sound.1 up)

  -- ---- subtrees in which the range begins

  abbrev CostsMost : Option ℕ → ℕ → ℕ → List InoRec → Type 0
  CostsMost None level reads recs = 251 * reads ≤ 251 * (level + 1) + 2 * passed_in from end recs
  CostsMost (Some n) level reads recs = 251 * reads ≤ 502 * (level + 1) + 2 * passed_in from end recs

  all_most : (level n reads : ℕ) (recs : List InoRec) (o : Option ℕ) → first_in from end recs ≡ o → Each above recs → CostsEach o level n reads recs → CostsMost o (suc level) (1 + reads) recs
  all_most level n reads recs None e up h = let all = all_counted from end recs e up in omega (arith, h, all)
  all_most level n reads recs (Some k) e up h = omega (arith, h)

  -- the first subtree is one in which it begins, and the others lie behind it
  two_parts : (level n here later : ℕ) (mine rest : List InoRec) (a o : Option ℕ) → first_in from end mine ≡ a → first_in from end (mine ++ rest) ≡ o → Each above rest → CostsMost a level here mine
      → ((x : Option ℕ) → first_in from end rest ≡ x → CostsEach x level n later rest) → CostsMost o (suc level) (1 + then_reads (Ok a) here later) (mine ++ rest)
  two_parts level n here later mine rest None None e f up costs more =
      let parts = first_none (first_in from end mine) (first_in from end rest) (sym (first_append from end mine rest) ∙ f) in
      let behind = more None parts.1 in
      let sum = passed_sum from end mine rest e in
      let all = all_counted from end rest parts.1 up in
      omega (arith, costs, behind, sum, all)
  two_parts level n here later mine rest None (Some k) e f up costs more =
      let left : first_in from end rest ≡ Some k = sym (first_append from end mine rest ∙ ap (λ (x : Option ℕ). or_else x (first_in from end rest)) e) ∙ f in
      let behind = more (Some k) left in
      let sum = passed_sum from end mine rest e in
      omega (arith, costs, behind, sum)
  two_parts level n here later mine rest (Some j) None e f up costs more = let none = first_none (first_in from end mine) (first_in from end rest) (sym (first_append from end mine rest) ∙ f) in cc
  two_parts level n here later mine rest (Some j) (Some k) e f up costs more = let sum = passed_front from end mine rest in omega (arith, costs, sum)

  most_more : (o : Option ℕ) (level reads : ℕ) (front recs : List InoRec) → first_in from end front ≡ None → CostsMost o level reads recs → CostsMost o level reads (front ++ recs)
  most_more None level reads front recs none h = let sum = passed_sum from end front recs none in omega (arith, h, sum)
  most_more (Some k) level reads front recs none h = let sum = passed_sum from end front recs none in omega (arith, h, sum)

  most : (level : ℕ) (root : Bool) (q : ℕ) → IsSound ino_form m site level root q → IsRising ino_form (recs_of ino_form m level q) → (o : Option ℕ) → first_in from end (recs_of ino_form m level q) ≡ o
      → CostsMost o level (reads_below site m from end level q) (recs_of ino_form m level q)
  unfolding reads_below recs_of IsSound entries_from start_of
  most zero root q sound rising None e = omega arith
  most zero root q sound rising (Some k) e = omega arith
  most (suc level) root q sound rising o e = by_place (λ p s r x h. most level false p s r x h) (place_behind ino_form key false (area_of (m q)) (numrecs (m q))) refl
    where
      key : InoKey
      key = key_from from

      bytes : List ℕ
      bytes = m q

      all : List InoRec
      all = items level bytes (numrecs bytes) 0

      by_place : ((p : ℕ) → IsSound ino_form m site level false p → IsRising ino_form (recs_of ino_form m level p) → (x : Option ℕ) → first_in from end (recs_of ino_form m level p) ≡ x → CostsMost x level (reads_below site m from end level p) (recs_of ino_form m level p))
          → (place : ℕ) → place_behind ino_form key false (area_of bytes) (numrecs bytes) ≡ place
          → CostsMost o (suc level) (1 + reads_of level bytes (numrecs bytes - (place_behind ino_form key false (area_of bytes) (numrecs bytes) - 1)) (place_behind ino_form key false (area_of bytes) (numrecs bytes) - 1)) all
      by_place go zero is =
          let whole : numrecs bytes - 0 ≡ numrecs bytes = omega arith in
          let above_all = lies_from ino_form lawful_ino site m bytes level key (numrecs bytes) 0 sound.1 (λ pos. low_unreached ino_form lawful_ino site m bytes key 0 (omega (arith, is)) pos) in
          let up = all_above ino_form lawful_ino key all rising above_all in
          rw (is, whole) (all_most level (numrecs bytes) (reads_of level bytes (numrecs bytes) 0) all o e up (costs_each level bytes (λ p. full level p) (numrecs bytes) 0 sound.1 rising up o e))
      by_place go (suc i) is =
          let at = low_reached ino_form lawful_ino site m bytes key i is in
          let parts = fit_behind ino_form lawful_ino site m bytes level i at.1 sound.1 in
          let split = recs_parts ino_form lawful_ino site m bytes level i at.1 in
          let front = over (recs_of ino_form m level) (in_front ino_form lawful_ino site m bytes i) in
          let mine = recs_of ino_form m level (child level bytes i) in
          let rest = over (recs_of ino_form m level) (behind ino_form lawful_ino site m bytes i) in
          let rises : IsRising ino_form (front ++ (mine ++ rest)) = let P : List InoRec → Type 0 = λ v. IsRising ino_form v in subst P split rising in
          let tail = rising_rest ino_form lawful_ino front (mine ++ rest) rises in
          let begins = reached_begins ino_form lawful_ino key (entry ino_form lawful_ino site m bytes i) mine parts.0.1 at.0 in
          let none = front_none from end front (all_passed ino_form lawful_ino key front mine rest rises begins) in
          let found : first_in from end (mine ++ rest) ≡ o = sym (ap (first_in from end) split ∙ first_append from end front (mine ++ rest) ∙ ap (λ (x : Option ℕ). or_else x (first_in from end (mine ++ rest))) none) ∙ e in
          let above_rest = lies_from ino_form lawful_ino site m bytes level key (numrecs bytes - i - 1) (i + 1) parts.1 (λ pos. low_unreached ino_form lawful_ino site m bytes key (i + 1) (omega (arith, is)) (omega (arith, pos))) in
          let up = all_above ino_form lawful_ino key rest (rising_rest ino_form lawful_ino mine rest tail) above_rest in
          let here = go (child level bytes i) parts.0.0 (rising_front ino_form lawful_ino mine rest tail) (first_in from end mine) refl in
          let reads = reads_one level bytes (numrecs bytes - i - 1) i (first_in from end mine) parts.0 (rising_front ino_form lawful_ino mine rest tail) refl in
          let both = two_parts level (numrecs bytes - i - 1) (reads_below site m from end level (child level bytes i)) (reads_of level bytes (numrecs bytes - i - 1) (i + 1)) mine rest (first_in from end mine) o refl found up here
          (λ x h. costs_each level bytes (λ p. full level p) (numrecs bytes - i - 1) (i + 1) parts.1 (rising_rest ino_form lawful_ino mine rest tail) up x h) in
          let one : suc i - 1 ≡ i = omega arith in
          let left : numrecs bytes - i ≡ suc (numrecs bytes - i - 1) = (let lt = at.1 in omega (arith, lt)) in
          rw (is, one, left, split, reads) (most_more o (suc level) (1 + then_reads (Ok (first_in from end mine)) (reads_below site m from end level (child level bytes i)) (reads_of level bytes (numrecs bytes - i - 1) (i + 1))) front (mine ++ rest) none both)

  -- ---- from the root

  in_levels : (o : Option ℕ) (levels reads : ℕ) (recs : List InoRec) → 1 ≤ levels → CostsMost o (levels - 1) reads recs → 251 * reads ≤ 502 * levels + 2 * passed_in from end recs
  in_levels None levels reads recs some h = omega (arith, some, h)
  in_levels (Some k) levels reads recs some h = omega (arith, some, h)

  in_tree : (root levels : ℕ) (recs : List InoRec) (blocks : List ℕ) → IsTree ino_form site m root levels recs blocks → 251 * reads_in site m from end root levels ≤ 502 * levels + 2 * passed_in from end recs
  unfolding reads_in
  in_tree root levels recs blocks t =
      let rises : IsRising ino_form (recs_of ino_form m (levels - 1) root) = let P : List InoRec → Type 0 = λ v. IsRising ino_form v in subst P t.recs_are t.rises in
      rw (is_level levels t.has_levels, t.recs_are)
      (in_levels (first_in from end (recs_of ino_form m (levels - 1) root)) levels (reads_below site m from end (levels - 1) root) (recs_of ino_form m (levels - 1) root) t.has_levels.0 (most (levels - 1) true root t.sound rises (first_in from end (recs_of ino_form m (levels - 1) root)) refl))

  tree_there : (root levels : ℕ) (recs : List InoRec) (h : Holds ino_form site m root levels recs) → IsTree ino_form site m root levels recs h.0
  tree_there root levels recs h = (reads_trees_lem ino_form lawful_ino site m root levels recs h.0).0 h.1

  pub reads_few : ReadsFew site m from end
  reads_few root levels recs h = in_tree root levels recs h.0 (tree_there root levels recs h)

  in_bounds : (reads levels passed : ℕ) → 251 * reads ≤ 502 * levels + 2 * passed → levels ≤ 5 → passed ≤ 32068764 → 126 * reads ≤ 126 * 1024 + passed
  in_bounds reads levels passed few low most = omega (arith, few, low, most)

  pub reads_in_bounds : ReadsInBounds site m from end
  reads_in_bounds root levels recs short h most = in_bounds (reads_in site m from end root levels) levels (passed_in from end recs) (reads_few root levels recs h) (has_few_levels_lem ino_form site m root levels recs h.0 short (tree_there root levels recs h)) most
