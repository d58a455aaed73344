-- A piece leaves a list of mappings; and mappings beside a run have none of its owners.
use Rattle.std.proofs.Common.{◌≡◌, ℕ, ◌+◌, ◌-◌, ◌*◌, ◌^◌, ◌<◌, ◌≤◌, ◌==◌, ◌&&◌, ◌||◌, Bool, true, false, not, cond, nat_le, nat_lt, List, [], ◌∷◌, ◌++◌, find, Option, Some, None, refl, sym, ap, ap₂, ◌∙◌, arith, eqb-true}
use Rattle.std.specs.List.{list_any}
use Rattle.std.specs.Option.{option_map_or}
use Rattle.std.proofs.lemmas.Bool.{false≢true, true≢false, and_parts, ltb-true, leb-true}
use Rattle.std.proofs.lemmas.Bool.Decides.{nat_tests}
use Rattle.dinode_core.specs.declared.mapping.Mapping.{Mapping}
use Rattle.fs_model.specs.declared.claim.Claim.{Claim}
use Rattle.geom.proofs.ApartLemmas.{splits_in}
use Rattle.geom.specs.Apart.{HasFitting}
use Rattle.geom.specs.Layout.{Layout, group_len_of, fs_block_of, split_of}
use Rattle.rmap_recs.specs.declared.tuples.Tuple.{Tuple}
use Rattle.fs_state.specs.Claims.{word_of}
use Rattle.fs_state.specs.Lists.{only_if}
use Rattle.fs_change.specs.Records.{maps, take_piece, mapping_rest, is_piece, is_unmapped, is_unwritten_at}
use Rattle.law_writers.proofs.Change.Covers.{covers, flag_word, Place, place_of, maps_it, maps_at, maps_placed}
use Rattle.law_writers.proofs.Change.Lists.{found_one, none_that, both_each}
use Rattle.law_writers.proofs.Change.Members.{any_both}
use Rattle.law_writers.specs.Change.Forks.{Each, IsPlaced, AreApart}

-- the mapping has an offset of these n
abbrev pub overlaps : ℕ → ℕ → Mapping → Bool
overlaps offset n m = nat_lt m.offset (offset + n) && nat_lt offset (m.offset + m.count)

-- the run at this place, mapped at the offset, has the tuple
abbrev pub run_has : ℕ → ℕ → ℕ → ℕ → ℕ → Bool → Tuple → ℕ → Bool
run_has h ino g b offset flag t n = (g == h) && covers t ino b (offset + flag_word flag) n

clash : (x y : Bool) (tb tw qb qo qn b off n : ℕ) → qo + qn ≤ 2 ^ 54 → off + n ≤ 2 ^ 54 → (nat_lt qo (off + n) && nat_lt off (qo + qn)) ≡ false
    → ((nat_le qb tb && nat_lt tb (qb + qn)) && (tw + qb == qo + 0 + flag_word x + tb)) ≡ true → ((nat_le b tb && nat_lt tb (b + n)) && (tw + b == off + flag_word y + tb)) ≡ true → ⊥
clash true true tb tw qb qo qn b off n h i apart p q = grind (arith, nat_tests)
clash true false tb tw qb qo qn b off n h i apart p q = grind (arith, nat_tests)
clash false true tb tw qb qo qn b off n h i apart p q = grind (arith, nat_tests)
clash false false tb tw qb qo qn b off n h i apart p q = grind (arith, nat_tests)

-- a mapping beside the offsets has none of the run's owners
pub beside_run : (at : Layout) (h ino g b offset n : ℕ) (flag : Bool) (c : Claim) (t : Tuple) → offset + n ≤ 2 ^ 54 → run_has h ino g b offset flag t n ≡ true
    → (m : Mapping) → IsPlaced at m × (overlaps offset n m ≡ false) → maps_it at h c ino 0 t m ≡ false
beside_run at h ino g b offset n flag c t few run m both = by_test (maps_it at h c ino 0 t m) refl
  where
    by_test : (x : Bool) → maps_it at h c ino 0 t m ≡ x → maps_it at h c ino 0 t m ≡ false
    by_test false e = e
    by_test true e =
        let p = place_of at m both.0 in
        let had = and_parts (p.group == h) (covers t ino p.block (word_of 0 m) m.count) (sym (maps_placed at h c ino 0 t m p) ∙ e) in
        let ran = and_parts (g == h) (covers t ino b (offset + flag_word flag) n) run in
        absurd (clash m.unwritten flag t.block t.word p.block m.offset m.count b offset n both.0.offsets few both.1 (and_parts (t.owner == ino) _ had.1).1 (and_parts (t.owner == ino) _ ran.1).1)

first_false : (x y : Bool) → (x || y) ≡ false → x ≡ false
first_false false y h = refl
first_false true y h = absurd (true≢false h)

rest_false : (x y : Bool) → (x || y) ≡ false → y ≡ false
rest_false false y h = h
rest_false true y h = absurd (true≢false h)

not_true : (x : Bool) → not x ≡ true → x ≡ false
not_true false h = refl
not_true true h = absurd (false≢true h)

each_beside : (offset n : ℕ) (ms : List Mapping) → list_any (overlaps offset n) ms ≡ false → Each (λ m. overlaps offset n m ≡ false) ms
each_beside offset n [] h = tt
each_beside offset n (m ∷ ms) h = (first_false (overlaps offset n m) (list_any (overlaps offset n) ms) h, each_beside offset n ms (rest_false (overlaps offset n m) (list_any (overlaps offset n) ms) h))

-- offsets that aren't mapped have no owners in the fork
pub unmapped_has : (at : Layout) (h ino g b offset n : ℕ) (flag : Bool) (c : Claim) (t : Tuple) (ms : List Mapping) → offset + n ≤ 2 ^ 54 → Each (IsPlaced at) ms → is_unmapped offset n ms ≡ true → run_has h ino g b offset flag t n ≡ true
    → list_any (maps_it at h c ino 0 t) ms ≡ false
unmapped_has at h ino g b offset n flag c t ms few placed none run =
    none_that (maps_it at h c ino 0 t) (λ m. IsPlaced at m × (overlaps offset n m ≡ false)) ms
    (both_each (IsPlaced at) (λ m. overlaps offset n m ≡ false) ms placed (each_beside offset n ms (not_true (list_any (overlaps offset n) ms) none)))
    (beside_run at h ino g b offset n flag c t few run)

-- ---- a mapping that is cut

cut : (o : Bool) (tb tw pb w d n k : ℕ) →
    ((nat_lt 0 d && (o && ((nat_le pb tb && nat_lt tb (pb + d)) && (tw + pb == w + tb)))) || (nat_lt 0 k && (o && ((nat_le (pb + d + n) tb && nat_lt tb (pb + d + n + k)) && (tw + (pb + d + n) == w + d + n + tb)))))
    ≡ ((o && ((nat_le pb tb && nat_lt tb (pb + (d + n + k))) && (tw + pb == w + tb))) && not (o && ((nat_le (pb + d) tb && nat_lt tb (pb + d + n)) && (tw + (pb + d) == w + d + tb))))
cut true tb tw pb w d n k = grind (arith, nat_tests)
cut false tb tw pb w d n k = none (nat_lt 0 d) (nat_lt 0 k)
  where
    none : (x y : Bool) → ((x && false) || (y && false)) ≡ false
    none true true = refl
    none true false = refl
    none false true = refl
    none false false = refl

grouped : (g a b c d e f : Bool) → ((a && c) || (b && d)) ≡ (e && not f) → ((a && (g && c)) || (b && (g && d))) ≡ ((g && e) && not (g && f))
grouped true a b c d e f h = h
grouped false true true c d e f h = refl
grouped false true false c d e f h = refl
grouped false false true c d e f h = refl
grouped false false false c d e f h = refl

-- numbers as they stand where a piece begins d blocks behind its mapping's first, with k more behind it
pub record Cut (m : Mapping) (offset n : ℕ) : Type 0 where
  pub before : ℕ
  pub behind : ℕ
  pub begins : offset ≡ m.offset + before
  pub whole : m.count ≡ before + n + behind

one_if : (H : Mapping → Bool) (b : Bool) (m : Mapping) → list_any H (only_if b m) ≡ (b && H m)
one_if H true m = or_none (H m)
  where
    or_none : (x : Bool) → (x || false) ≡ x
    or_none true = refl
    or_none false = refl
one_if H false m = refl

-- where the piece is, the mapping is in the same group
pub record PieceAt (at : Layout) (m : Mapping) (p : Place at m) (g b d : ℕ) : Type 0 where
  pub group : g ≡ p.group
  pub block : b ≡ p.block + d

pub same_place : (at : Layout) (m : Mapping) (p : Place at m) (g b d n : ℕ) → HasFitting at → g < at.agcount → b + n ≤ group_len_of at g → 0 < n → d + n ≤ m.count → fs_block_of at g b ≡ m.block + d → PieceAt at m p g b d
same_place at m p g b d n fit gl bl some ends number =
    let place : split_of at (fs_block_of at g b) ≡ Some (g, b) = splits_in at fit g b gl (below b n (group_len_of at g) some bl) in
    let moved : fs_block_of at p.group (p.block + d) ≡ m.block + d = along (p.group * 2 ^ at.agblklog) p.block d m.block p.parts.number in
    let other : split_of at (fs_block_of at p.group (p.block + d)) ≡ Some (p.group, p.block + d) = splits_in at fit p.group (p.block + d) p.parts.group (inside p.block d n m.count (group_len_of at p.group) some ends p.ends) in
    let same : Some (g, b) ≡ Some (p.group, p.block + d) = sym place ∙ ap (split_of at) (number ∙ sym moved) ∙ other in
    record { group = ap (λ o. (elim o [ None ↦ g | Some x ↦ x.0 ])) same; block = ap (λ o. (elim o [ None ↦ b | Some x ↦ x.1 ])) same }
  where
    below : (b n len : ℕ) → 0 < n → b + n ≤ len → b < len
    below b n len h i = omega (arith, h, i)

    along : (x y d n : ℕ) → x + y ≡ n → x + (y + d) ≡ n + d
    along x y d n h = omega (arith, h)

    inside : (b d n c len : ℕ) → 0 < n → d + n ≤ c → b + c ≤ len → b + d < len
    inside b d n c len h i j = omega (arith, h, i, j)

in_whole : (g o : Bool) (tb tw pb w d n k : ℕ) → (g && (o && ((nat_le (pb + d) tb && nat_lt tb (pb + d + n)) && (tw + (pb + d) == w + d + tb)))) ≡ true
    → (g && (o && ((nat_le pb tb && nat_lt tb (pb + (d + n + k))) && (tw + pb == w + tb)))) ≡ true
in_whole true true tb tw pb w d n k h = grind (arith, nat_tests)
in_whole true false tb tw pb w d n k h = absurd (false≢true h)
in_whole false o tb tw pb w d n k h = absurd (false≢true h)

module _ (at : Layout) (fit : HasFitting at) (h : ℕ) (c : Claim) (ino : ℕ) (t : Tuple) where
  abbrev H : Mapping → Bool
  H m = maps_it at h c ino 0 t m

  abbrev back_of : Mapping → ℕ → ℕ → Mapping
  back_of m offset n = record m { offset = offset + n; block = m.block + (offset + n - m.offset); count = m.offset + m.count - (offset + n) }

  -- the part behind it, where there is one
  back_there : (m : Mapping) (offset n : ℕ) (p : Place at m) → IsPlaced at m → (k : Cut m offset n) → (nat_lt (offset + n) (m.offset + m.count) && H (back_of m offset n)) ≡ (nat_lt 0 k.behind && ((p.group == h) && covers t ino (p.block + k.before + n) (word_of 0 m + k.before + n) k.behind))
  back_there m offset n p pm k = by_test (nat_lt 0 k.behind) refl
    where
      ends : (x y d n e c : ℕ) → x ≡ y + d → c ≡ d + n + e → nat_lt (x + n) (y + c) ≡ nat_lt 0 e
      ends x y d n e c h i = grind (arith, nat_tests)

      along : (z b mb x y d n : ℕ) → z + b ≡ mb → x ≡ y + d → z + (b + d + n) ≡ mb + (x + n - y)
      along z b mb x y d n h i = omega (arith, h, i)

      inside : (b d n e c len : ℕ) → nat_lt 0 e ≡ true → c ≡ d + n + e → b + c ≤ len → b + d + n < len
      inside b d n e c len h i j = grind (arith, nat_tests)

      count : (x y d n e c : ℕ) → x ≡ y + d → c ≡ d + n + e → y + c - (x + n) ≡ e
      count x y d n e c h i = omega (arith, h, i)

      words : (x y d n u : ℕ) → x ≡ y + d → x + n + 0 + u ≡ y + 0 + u + d + n
      words x y d n u h = omega (arith, h)

      by_test : (z : Bool) → nat_lt 0 k.behind ≡ z → (nat_lt (offset + n) (m.offset + m.count) && H (back_of m offset n)) ≡ (nat_lt 0 k.behind && ((p.group == h) && covers t ino (p.block + k.before + n) (word_of 0 m + k.before + n) k.behind))
      by_test false e = ap (λ x. x && H (back_of m offset n)) (ends offset m.offset k.before n k.behind m.count k.begins k.whole ∙ e) ∙ sym (ap (λ x. x && ((p.group == h) && covers t ino (p.block + k.before + n) (word_of 0 m + k.before + n) k.behind)) e)
      by_test true e =
          let place : split_of at (m.block + (offset + n - m.offset)) ≡ Some (p.group, p.block + k.before + n) =
          ap (split_of at) (sym (along (p.group * 2 ^ at.agblklog) p.block m.block offset m.offset k.before n p.parts.number k.begins))
          ∙ splits_in at fit p.group (p.block + k.before + n) p.parts.group (inside p.block k.before n k.behind m.count (group_len_of at p.group) e k.whole p.ends) in
          ap₂ (λ x y. x && y) (ends offset m.offset k.before n k.behind m.count k.begins k.whole)
          (maps_at at h c ino 0 t (back_of m offset n) p.group (p.block + k.before + n) place
          ∙ ap₂ (λ x y. (p.group == h) && covers t ino (p.block + k.before + n) x y) (words offset m.offset k.before n (flag_word m.unwritten) k.begins) (count offset m.offset k.before n k.behind m.count k.begins k.whole))

  -- what of a mapping is beside its piece has what the mapping has, but for the piece's
  rest_has : (m : Mapping) (offset n g b : ℕ) → IsPlaced at m → Cut m offset n → 0 < n → g < at.agcount → b + n ≤ group_len_of at g → fs_block_of at g b ≡ m.block + (offset - m.offset)
      → list_any H (mapping_rest offset n m) ≡ (H m && not (run_has h ino g b offset m.unwritten t n))
  rest_has m offset n g b pm k some gl bl number =
      let p : Place at m = place_of at m pm in
      let d : ℕ = k.before in
      let e : ℕ = k.behind in
      let w : ℕ = word_of 0 m in
      let piece : PieceAt at m p g b d = same_place at m p g b d n fit gl bl some (fits d n e m.count k.whole) (number ∙ ap (λ x. m.block + x) (less offset m.offset d k.begins)) in
      let front : H (record m { count = offset - m.offset }) ≡ ((p.group == h) && covers t ino p.block w d) =
      maps_at at h c ino 0 t (record m { count = offset - m.offset }) p.group p.block p.split ∙ ap (λ x. (p.group == h) && covers t ino p.block w x) (less offset m.offset d k.begins) in
      any_both H (only_if (nat_lt m.offset offset) (record m { count = offset - m.offset })) (only_if (nat_lt (offset + n) (m.offset + m.count)) (back_of m offset n))
      ∙ ap₂ (λ x y. x || y) (one_if H (nat_lt m.offset offset) (record m { count = offset - m.offset }) ∙ ap₂ (λ x y. x && y) (starts m.offset offset d k.begins) front)
      (one_if H (nat_lt (offset + n) (m.offset + m.count)) (back_of m offset n) ∙ back_there m offset n p pm k)
      ∙ grouped (p.group == h) (nat_lt 0 d) (nat_lt 0 e) (covers t ino p.block w d) (covers t ino (p.block + d + n) (w + d + n) e) (covers t ino p.block w (d + n + e)) (covers t ino (p.block + d) (w + d) n) (cut (t.owner == ino) t.block t.word p.block w d n e)
      ∙ ap₂ (λ x y. x && not y) (ap (λ x. (p.group == h) && covers t ino p.block w x) (sym k.whole) ∙ sym (maps_placed at h c ino 0 t m p))
      (λ i. (sym piece.group i == h) && covers t ino (sym piece.block i) (words m.offset (flag_word m.unwritten) d offset k.begins i) n)
    where
      fits : (d n e c : ℕ) → c ≡ d + n + e → d + n ≤ c
      fits d n e c h = omega (arith, h)

      less : (x y d : ℕ) → x ≡ y + d → x - y ≡ d
      less x y d h = omega (arith, h)

      starts : (y x d : ℕ) → x ≡ y + d → nat_lt y x ≡ nat_lt 0 d
      starts y x d h = grind (arith, nat_tests)

      words : (y u d x : ℕ) → x ≡ y + d → y + 0 + u + d ≡ x + u
      words y u d x h = omega (arith, h)

  -- a piece's mapping, in numbers
  pub cut_by : (m : Mapping) (offset n : ℕ) → maps offset m ≡ true → nat_le (offset + n) (m.offset + m.count) ≡ true → Cut m offset n
  cut_by m offset n it ends = record {
    before = offset - m.offset;
    behind = m.offset + m.count - (offset + n);
    begins = begins m.offset offset (nat_lt offset (m.offset + m.count)) it;
    whole = whole m.offset offset n m.count (nat_lt offset (m.offset + m.count)) it ends;
  }
    where
      begins : (y x : ℕ) (b : Bool) → (nat_le y x && b) ≡ true → x ≡ y + (x - y)
      begins y x b h = let v = leb-true y x (and_parts (nat_le y x) b h).0 in omega (arith, v)

      whole : (y x n c : ℕ) (b : Bool) → (nat_le y x && b) ≡ true → nat_le (x + n) (y + c) ≡ true → c ≡ x - y + n + (y + c - (x + n))
      whole y x n c b h i = let v = leb-true y x (and_parts (nat_le y x) b h).0 in let w = leb-true (x + n) (y + c) i in omega (arith, v, w)

  -- mappings behind the piece's stay
  untouched : (offset n : ℕ) (ms : List Mapping) → Each (λ q. offset < q.offset) ms → list_any H (take_piece offset n ms) ≡ list_any H ms
  unfolding take_piece
  untouched offset n [] e = refl
  untouched offset n (m ∷ ms) e =
      ap (λ b. list_any H (cond b (mapping_rest offset n m) (m ∷ []) ++ take_piece offset n ms)) (not_there offset m.offset (nat_lt offset (m.offset + m.count)) e.0)
      ∙ ap (λ b. H m || b) (untouched offset n ms e.1)
    where
      not_there : (x y : ℕ) (b : Bool) → x < y → (nat_le y x && b) ≡ false
      not_there x y b h = grind (arith, nat_tests)

  -- where none of them has the piece's owners
  none_of : (run : Bool) (ms : List Mapping) → (run ≡ true → list_any H ms ≡ false) → list_any H ms ≡ (list_any H ms && not run)
  none_of true ms e = e refl ∙ sym (ap (λ b. b && false) (e refl))
  none_of false ms e = and_all (list_any H ms)
    where
      and_all : (x : Bool) → x ≡ (x && true)
      and_all true = refl
      and_all false = refl

  one_of : (run : Bool) (m : Mapping) → (run ≡ true → H m ≡ false) → H m ≡ (H m && not run)
  one_of true m e = e refl ∙ sym (ap (λ b. b && false) (e refl))
  one_of false m e = and_all (H m)
    where
      and_all : (x : Bool) → x ≡ (x && true)
      and_all true = refl
      and_all false = refl

  both_lose : (x y r : Bool) → ((x && not r) || (y && not r)) ≡ ((x || y) && not r)
  both_lose true true true = refl
  both_lose true true false = refl
  both_lose true false true = refl
  both_lose true false false = refl
  both_lose false y r = refl

  -- What has a fork that lost a piece? What it had, but for the piece's.
  pub piece_lost : (offset n g b : ℕ) (ms : List Mapping) → 0 < n → offset + n ≤ 2 ^ 54 → g < at.agcount → b + n ≤ group_len_of at g → Each (IsPlaced at) ms → AreApart ms → is_piece offset (fs_block_of at g b) n ms ≡ true
      → list_any H (take_piece offset n ms) ≡ (list_any H ms && not (run_has h ino g b offset (is_unwritten_at offset ms) t n))
  unfolding take_piece
  piece_lost offset n g b [] some few gl bl placed apart is = absurd (false≢true is)
  piece_lost offset n g b (m ∷ ms) some few gl bl placed apart is = by_test (maps offset m) refl is (λ i. piece_lost offset n g b ms some few gl bl placed.1 apart.1 i)
    where
      beyond : (y x c z : ℕ) (b : Bool) → (b && nat_lt x (y + c)) ≡ true → y + c ≤ z → x < z
      beyond y x c z b h i = let v = ltb-true x (y + c) (and_parts b (nat_lt x (y + c)) h).1 in omega (arith, v, i)

      all_beyond : (qs : List Mapping) → maps offset m ≡ true → Each (λ q. m.offset + m.count ≤ q.offset) qs → Each (λ q. offset < q.offset) qs
      all_beyond [] e a = tt
      all_beyond (q ∷ qs) e a = (beyond m.offset offset m.count q.offset (nat_le m.offset offset) e a.0, all_beyond qs e a.1)

      far : (y x n c z zc : ℕ) → nat_le (x + n) (y + c) ≡ true → y + c ≤ z → (nat_lt z (x + n) && nat_lt x (z + zc)) ≡ false
      far y x n c z zc h i = grind (arith, nat_tests)

      all_far : (qs : List Mapping) → nat_le (offset + n) (m.offset + m.count) ≡ true → Each (λ q. m.offset + m.count ≤ q.offset) qs → Each (λ q. overlaps offset n q ≡ false) qs
      all_far [] e a = tt
      all_far (q ∷ qs) e a = (far m.offset offset n m.count q.offset q.count e a.0, all_far qs e a.1)

      near : (y x n c z : ℕ) (b : Bool) → (nat_le z x && b) ≡ true → y + c ≤ z → (nat_lt y (x + n) && nat_lt x (y + c)) ≡ false
      near y x n c z b h i = grind (arith, nat_tests)

      holder : (o : Option Mapping) → find (maps offset) ms ≡ o → option_map_or (λ q. nat_le (offset + n) (q.offset + q.count) && (q.block + (offset - q.offset) == fs_block_of at g b)) o false ≡ true → overlaps offset n m ≡ false
      holder None e i = absurd (false≢true i)
      holder (Some q) e i =
          let f = found_one (maps offset) (λ x. m.offset + m.count ≤ x.offset) ms q apart.0 e in
          near m.offset offset n m.count q.offset (nat_lt offset (q.offset + q.count)) f.0 f.1

      by_test : (z : Bool) → maps offset m ≡ z → option_map_or (λ q. nat_le (offset + n) (q.offset + q.count) && (q.block + (offset - q.offset) == fs_block_of at g b)) (cond z (Some m) (find (maps offset) ms)) false ≡ true
          → (is_piece offset (fs_block_of at g b) n ms ≡ true → list_any H (take_piece offset n ms) ≡ (list_any H ms && not (run_has h ino g b offset (is_unwritten_at offset ms) t n)))
          → list_any H (cond z (mapping_rest offset n m) (m ∷ []) ++ take_piece offset n ms) ≡ ((H m || list_any H ms) && not (run_has h ino g b offset (option_map_or (λ q. q.unwritten) (cond z (Some m) (find (maps offset) ms)) false) t n))
      by_test true e i later =
          let v = and_parts (nat_le (offset + n) (m.offset + m.count)) (m.block + (offset - m.offset) == fs_block_of at g b) i in
          let run : Bool = run_has h ino g b offset m.unwritten t n in
          any_both H (mapping_rest offset n m) (take_piece offset n ms)
          ∙ ap₂ (λ x y. x || y) (rest_has m offset n g b placed.0 (cut_by m offset n e v.0) some gl bl (sym (eqb-true (m.block + (offset - m.offset)) (fs_block_of at g b) v.1)))
          (untouched offset n ms (all_beyond ms e apart.0)
          ∙ none_of run ms (λ r. none_that H (λ q. IsPlaced at q × (overlaps offset n q ≡ false)) ms (both_each (IsPlaced at) (λ q. overlaps offset n q ≡ false) ms placed.1 (all_far ms v.0 apart.0)) (beside_run at h ino g b offset n m.unwritten c t few r)))
          ∙ both_lose (H m) (list_any H ms) run
      by_test false e i later =
          let run : Bool = run_has h ino g b offset (is_unwritten_at offset ms) t n in
          ap₂ (λ x y. x || y) (one_of run m (λ r. beside_run at h ino g b offset n (is_unwritten_at offset ms) c t few r m (placed.0, holder (find (maps offset) ms) refl i)))
          (later i)
          ∙ both_lose (H m) (list_any H ms) run

  -- a piece's mapping has its owners
  one_had : (m : Mapping) (offset n g b : ℕ) → IsPlaced at m → Cut m offset n → 0 < n → g < at.agcount → b + n ≤ group_len_of at g → fs_block_of at g b ≡ m.block + (offset - m.offset)
      → run_has h ino g b offset m.unwritten t n ≡ true → H m ≡ true
  one_had m offset n g b pm k some gl bl number run =
      let p : Place at m = place_of at m pm in
      let d : ℕ = k.before in
      let piece : PieceAt at m p g b d = same_place at m p g b d n fit gl bl some (fits d n k.behind m.count k.whole) (number ∙ ap (λ x. m.block + x) (less offset m.offset d k.begins)) in
      maps_placed at h c ino 0 t m p
      ∙ ap (λ x. (p.group == h) && covers t ino p.block (word_of 0 m) x) k.whole
      ∙ in_whole (p.group == h) (t.owner == ino) t.block t.word p.block (word_of 0 m) d n k.behind
      ((λ i. (sym piece.group i == h) && covers t ino (sym piece.block i) (words m.offset (flag_word m.unwritten) d offset k.begins i) n) ∙ run)
    where
      fits : (d n e c : ℕ) → c ≡ d + n + e → d + n ≤ c
      fits d n e c h = omega (arith, h)

      less : (x y d : ℕ) → x ≡ y + d → x - y ≡ d
      less x y d h = omega (arith, h)

      words : (y u d x : ℕ) → x ≡ y + d → y + 0 + u + d ≡ x + u
      words y u d x h = omega (arith, h)

  pub piece_had : (offset n g b : ℕ) (ms : List Mapping) → 0 < n → g < at.agcount → b + n ≤ group_len_of at g → Each (IsPlaced at) ms → is_piece offset (fs_block_of at g b) n ms ≡ true
      → run_has h ino g b offset (is_unwritten_at offset ms) t n ≡ true → list_any H ms ≡ true
  piece_had offset n g b [] some gl bl placed is run = absurd (false≢true is)
  piece_had offset n g b (m ∷ ms) some gl bl placed is run = by_test (maps offset m) refl is run (λ i r. piece_had offset n g b ms some gl bl placed.1 i r)
    where
      or_right : (x y : Bool) → y ≡ true → (x || y) ≡ true
      or_right true y e = refl
      or_right false y e = e

      by_test : (z : Bool) → maps offset m ≡ z → option_map_or (λ q. nat_le (offset + n) (q.offset + q.count) && (q.block + (offset - q.offset) == fs_block_of at g b)) (cond z (Some m) (find (maps offset) ms)) false ≡ true
          → run_has h ino g b offset (option_map_or (λ q. q.unwritten) (cond z (Some m) (find (maps offset) ms)) false) t n ≡ true
          → (is_piece offset (fs_block_of at g b) n ms ≡ true → run_has h ino g b offset (is_unwritten_at offset ms) t n ≡ true → list_any H ms ≡ true) → (H m || list_any H ms) ≡ true
      by_test true e i r later =
          let v = and_parts (nat_le (offset + n) (m.offset + m.count)) (m.block + (offset - m.offset) == fs_block_of at g b) i in
          ap (λ x. x || list_any H ms) (one_had m offset n g b placed.0 (cut_by m offset n e v.0) some gl bl (sym (eqb-true (m.block + (offset - m.offset)) (fs_block_of at g b) v.1)) r)
      by_test false e i r later = or_right (H m) (list_any H ms) (later i r)
