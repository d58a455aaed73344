-- How many mappings cover a block, where a run gets an owner or loses it.
use Rattle.std.specs.Prelude.{ℕ, Bool, true, false, List, [], ◌∷◌, find, Option, Some, None, ◌≡◌, ◌==◌, ◌&&◌, ◌||◌, ◌+◌, ◌-◌, ◌<◌, ◌≤◌, nat_le, nat_lt, refl, if◌then◌else◌}
use Rattle.std.specs.List.{list_any}
use Rattle.std.proofs.Common.{sym, ap, ◌∙◌, arith}
use Rattle.std.proofs.lemmas.Bool.{eqb-true, true≢false}
use Rattle.std.proofs.lemmas.Bool.Decides.{nat_tests}
use Rattle.fs_change.specs.Records.{give_mapping, take_mapping, without_first}
use Rattle.rmap_recs.specs.Rmap.{can_join}
use Rattle.rmap_recs.specs.Words.{word_goes_on}
use Rattle.rmap_recs.specs.declared.records.RmapRec.{RmapRec}
use Rattle.run_edits.specs.Edits.{back_of, front_of, holds, is_before, joined_after, joined_before, put_if, put_rec, rest_put}
use Rattle.law_accounts.specs.Account.Accounts.{at_span, covers_at}
use Rattle.law_accounts.specs.Account.Steps.{GivenCovers, TakenCovers}
use Rattle.law_accounts.proofs.Account.Spans.{and_left, and_right, span_not}
use Rattle.law_accounts.proofs.Account.Sums.{at_split}

abbrev one : ℕ → RmapRec → ℕ
one b r = at_span r.start r.count b

abbrev some : ℕ → Option RmapRec → ℕ
some b None = 0
some b (Some r) = one b r

put_count : (b : ℕ) (x : RmapRec) (rs : List RmapRec) → covers_at (put_rec x rs) b ≡ one b x + covers_at rs b
unfolding put_rec
put_count b x [] = refl
put_count b x (r ∷ rs) = by (is_before r x) (put_count b x rs)
  where
    swap : (x y z w : ℕ) → w ≡ x + z → y + w ≡ x + (y + z)
    swap x y z w e = omega (arith, e)

    by : (k : Bool) → covers_at (put_rec x rs) b ≡ one b x + covers_at rs b → covers_at (if k then r ∷ put_rec x rs else x ∷ r ∷ rs) b ≡ one b x + (one b r + covers_at rs b)
    by true h = swap (one b x) (one b r) (covers_at rs b) (covers_at (put_rec x rs) b) h
    by false h = refl

module _ (q : RmapRec → Bool) (b : ℕ) where
  without_count : (rs : List RmapRec) → some b (find q rs) + covers_at (without_first q rs) b ≡ covers_at rs b
  without_count [] = omega arith
  without_count (r ∷ rs) = by (q r) (without_count rs)
    where
      swap : (x y z w : ℕ) → x + y ≡ w → x + (z + y) ≡ z + w
      swap x y z w e = omega (arith, e)

      by : (k : Bool) → some b (find q rs) + covers_at (without_first q rs) b ≡ covers_at rs b → some b (if k then Some r else find q rs) + covers_at (if k then rs else r ∷ without_first q rs) b ≡ one b r + covers_at rs b
      by true h = refl
      by false h = swap (some b (find q rs)) (covers_at (without_first q rs) b) (one b r) (covers_at rs b) h

-- what passes one test and not the other is found all the same
find_same : (q s : RmapRec → Bool) (rs : List RmapRec) → ((r : RmapRec) → q r ≡ true → s r ≡ true → ⊥) → find q (without_first s rs) ≡ find q rs
find_same q s [] f = refl
find_same q s (r ∷ rs) f = by (s r) refl (find_same q s rs f)
  where
    miss : (m : Bool) → s r ≡ true → q r ≡ m → find q rs ≡ (if m then Some r else find q rs)
    miss true e g = absurd (f r g e)
    miss false e g = refl

    keep : (m : Bool) → find q (without_first s rs) ≡ find q rs → (if m then Some r else find q (without_first s rs)) ≡ (if m then Some r else find q rs)
    keep true h = refl
    keep false h = h

    by : (k : Bool) → s r ≡ k → find q (without_first s rs) ≡ find q rs → find q (if k then rs else r ∷ without_first s rs) ≡ (if q r then Some r else find q rs)
    by true e h = miss (q r) e refl
    by false e h = keep (q r) h

found_joins : (q : RmapRec → Bool) (rs : List RmapRec) (r : RmapRec) → find q rs ≡ Some r → q r ≡ true
found_joins q [] r h = absurd (true≢false (sym (ap is_some h)))
  where
    is_some : Option RmapRec → Bool
    is_some None = false
    is_some (Some x) = true
found_joins q (x ∷ rs) r h = by (q x) refl (found_joins q rs r) h
  where
    out : {x y : RmapRec} → Some x ≡ Some y → x ≡ y
    out {x = x} e = ap (of x) e
      where
        of : RmapRec → Option RmapRec → RmapRec
        of d None = d
        of d (Some z) = z

    by : (k : Bool) → q x ≡ k → (find q rs ≡ Some r → q r ≡ true) → (if k then Some x else find q rs) ≡ Some r → q r ≡ true
    by true e f g = ap q (sym (out g)) ∙ e
    by false e f g = f g

ends_at : (p r : RmapRec) → can_join p r ≡ true → p.start + p.count ≡ r.start
ends_at p r h = sym (eqb-true r.start (p.start + p.count) (and_left (r.start == p.start + p.count) (r.owner == p.owner) (and_left ((r.start == p.start + p.count) && (r.owner == p.owner)) (word_goes_on p.owner p.word p.count r.word) h)))

module _ (r : RmapRec) (b : ℕ) where
  joined_count : (o : Option RmapRec) → ((p : RmapRec) → o ≡ Some p → can_join p r ≡ true) → one b (joined_before o r) ≡ some b o + one b r
  joined_count None h = omega arith
  joined_count (Some p) h = let e = ends_at p r (h p refl) in at_split p.start p.count r.count (p.count + r.count) b refl ∙ ap (λ z. at_span p.start p.count b + at_span z r.count b) e

  after_count : (x : RmapRec) (o : Option RmapRec) → x.start + x.count ≡ r.start + r.count → ((q : RmapRec) → o ≡ Some q → can_join r q ≡ true) → one b (joined_after x o) ≡ one b x + some b o
  after_count x None e h = omega arith
  after_count x (Some q) e h = let f = ends_at r q (h q refl) in at_split x.start x.count q.count (x.count + q.count) b refl ∙ ap (λ z. at_span x.start x.count b + at_span z q.count b) (e ∙ f)

  before_ends : (o : Option RmapRec) → ((p : RmapRec) → o ≡ Some p → can_join p r ≡ true) → (joined_before o r).start + (joined_before o r).count ≡ r.start + r.count
  before_ends None h = refl
  before_ends (Some p) h = let e = ends_at p r (h p refl) in omega (arith, e)

  pub give_count : (rs : List RmapRec) → 0 < r.count → covers_at (give_mapping r rs) b ≡ covers_at rs b + at_span r.start r.count b
  unfolding give_mapping
  give_count rs pos =
      let p = find (λ p. can_join p r) rs in
      let q = find (can_join r) rs in
      let jp : (x : RmapRec) → p ≡ Some x → can_join x r ≡ true = found_joins (λ p. can_join p r) rs in
      let jq : (x : RmapRec) → q ≡ Some x → can_join r x ≡ true = found_joins (can_join r) rs in
      let c = put_count b (joined_after (joined_before p r) q) (without_first (λ p. can_join p r) (without_first (can_join r) rs)) in
      let k : one b (joined_after (joined_before p r) q) ≡ some b p + one b r + some b q = after_count (joined_before p r) q (before_ends p jp) jq ∙ ap (λ z. z + some b q) (joined_count p jp) in
      let s : find (λ p. can_join p r) (without_first (can_join r) rs) ≡ p = find_same (λ p. can_join p r) (can_join r) rs (λ x f g. let e = ends_at x r f in let o = ends_at r x g in omega (arith, e, o, pos)) in
      let u : some b p + covers_at (without_first (λ p. can_join p r) (without_first (can_join r) rs)) b ≡ covers_at (without_first (can_join r) rs) b = ap (λ z. some b z + covers_at (without_first (λ p. can_join p r) (without_first (can_join r) rs)) b) (sym s) ∙ without_count (λ p. can_join p r) b (without_first (can_join r) rs) in
      let w = without_count (can_join r) b rs in
      sums (covers_at (give_mapping r rs) b) (one b (joined_after (joined_before p r) q)) (some b p) (some b q) (one b r) (covers_at (without_first (λ p. can_join p r) (without_first (can_join r) rs)) b) (covers_at (without_first (can_join r) rs) b) (covers_at rs b) c k u w
    where
      sums : (g j p q r x y z : ℕ) → g ≡ j + x → j ≡ p + r + q → p + x ≡ y → q + y ≡ z → g ≡ z + r
      sums g j p q r x y z e1 e2 e3 e4 = omega (arith, e1, e2, e3, e4)

-- ---- a run leaves

module _ (r : RmapRec) (b : ℕ) (pos : 0 < r.count) where
  empty : (k n : ℕ) → n ≡ 0 → at_span k n b ≡ 0
  empty k n e = ap (λ z. if z then 1 else 0) (span_not k n b (λ l m. omega (arith, l, m, e)))

  -- what is left of a record that holds the run, put to the others
  rest_count : (p : RmapRec) (xs : List RmapRec) → holds p r ≡ true → covers_at (rest_put (Some p) r xs) b + at_span r.start r.count b ≡ one b p + covers_at xs b
  rest_count p xs h = by (nat_lt p.start r.start) refl (nat_lt (r.start + r.count) (p.start + p.count)) refl
    where
      h1 : (nat_le p.start r.start && nat_le (r.start + r.count) (p.start + p.count)) ≡ true
      h1 = and_left (nat_le p.start r.start && nat_le (r.start + r.count) (p.start + p.count)) (r.owner == p.owner) (and_left (nat_le p.start r.start && nat_le (r.start + r.count) (p.start + p.count) && (r.owner == p.owner)) (word_goes_on p.owner p.word (r.start - p.start) r.word) h)

      s : p.start ≤ r.start
      s = let k : nat_le p.start r.start ≡ true = and_left (nat_le p.start r.start) (nat_le (r.start + r.count) (p.start + p.count)) h1 in grind (arith, nat_tests, k)

      t : r.start + r.count ≤ p.start + p.count
      t = let k : nat_le (r.start + r.count) (p.start + p.count) ≡ true = and_right (nat_le p.start r.start) (nat_le (r.start + r.count) (p.start + p.count)) h1 in grind (arith, nat_tests, k)

      whole : at_span p.start p.count b ≡ at_span p.start (r.start - p.start) b + (at_span r.start r.count b + at_span (r.start + r.count) (p.start + p.count - (r.start + r.count)) b)
      whole = at_split p.start (r.start - p.start) (p.count - (r.start - p.start)) p.count b (omega (arith, s, t))
          ∙ ap (λ z. at_span p.start (r.start - p.start) b + at_span z (p.count - (r.start - p.start)) b) start
          ∙ ap (λ z. at_span p.start (r.start - p.start) b + z) (at_split r.start r.count (p.start + p.count - (r.start + r.count)) (p.count - (r.start - p.start)) b (omega (arith, s, t)))
        where
          start : p.start + (r.start - p.start) ≡ r.start
          start = omega (arith, s)

      back : (m : Bool) → nat_lt (r.start + r.count) (p.start + p.count) ≡ m → covers_at (put_if m (back_of p r) xs) b ≡ at_span (r.start + r.count) (p.start + p.count - (r.start + r.count)) b + covers_at xs b
      back true f = put_count b (back_of p r) xs
      back false f = no_more (at_span (r.start + r.count) (p.start + p.count - (r.start + r.count)) b) (covers_at xs b) (empty (r.start + r.count) (p.start + p.count - (r.start + r.count)) (let q : p.start + p.count ≤ r.start + r.count = grind (arith, nat_tests, f) in omega (arith, q)))
        where
          no_more : (x y : ℕ) → x ≡ 0 → y ≡ x + y
          no_more x y e = omega (arith, e)

      by : (k : Bool) → nat_lt p.start r.start ≡ k → (m : Bool) → nat_lt (r.start + r.count) (p.start + p.count) ≡ m
          → covers_at (put_if k (front_of p r) (put_if m (back_of p r) xs)) b + at_span r.start r.count b ≡ at_span p.start p.count b + covers_at xs b
      by true e m f = sums (at_span p.start (r.start - p.start) b) (at_span r.start r.count b) (at_span (r.start + r.count) (p.start + p.count - (r.start + r.count)) b) (at_span p.start p.count b) (covers_at xs b) (covers_at (put_if m (back_of p r) xs) b) (covers_at (put_rec (front_of p r) (put_if m (back_of p r) xs)) b) whole (back m f) (put_count b (front_of p r) (put_if m (back_of p r) xs))
        where
          sums : (x y z w c d o : ℕ) → w ≡ x + (y + z) → d ≡ z + c → o ≡ x + d → o + y ≡ w + c
          sums x y z w c d o e1 e2 e3 = omega (arith, e1, e2, e3)
      by false e m f = sums (at_span p.start (r.start - p.start) b) (at_span r.start r.count b) (at_span (r.start + r.count) (p.start + p.count - (r.start + r.count)) b) (at_span p.start p.count b) (covers_at xs b) (covers_at (put_if m (back_of p r) xs) b) whole (back m f) (empty p.start (r.start - p.start) (let q : r.start ≤ p.start = grind (arith, nat_tests, e) in omega (arith, q)))
        where
          sums : (x y z w c d : ℕ) → w ≡ x + (y + z) → d ≡ z + c → x ≡ 0 → d + y ≡ w + c
          sums x y z w c d e1 e2 e3 = omega (arith, e1, e2, e3)

  found : (rs : List RmapRec) → list_any (λ p. holds p r) rs ≡ true → (p : RmapRec) × (find (λ x. holds x r) rs ≡ Some p) × (holds p r ≡ true)
  found [] h = absurd (true≢false (sym h))
  found (p ∷ rs) h = by (holds p r) refl h (found rs)
    where
      by : (k : Bool) → holds p r ≡ k → (k || list_any (λ x. holds x r) rs) ≡ true → (list_any (λ x. holds x r) rs ≡ true → (q : RmapRec) × (find (λ x. holds x r) rs ≡ Some q) × (holds q r ≡ true)) → (q : RmapRec) × ((if k then Some p else find (λ x. holds x r) rs) ≡ Some q) × (holds q r ≡ true)
      by true e i f = (p, refl, e)
      by false e i f = f i

  pub take_count : (rs : List RmapRec) → list_any (λ p. holds p r) rs ≡ true → covers_at (take_mapping r rs) b + at_span r.start r.count b ≡ covers_at rs b
  unfolding take_mapping
  take_count rs h =
      let f = found rs h in
      let w = without_count (λ p. holds p r) b rs in
      ap (λ o. covers_at (rest_put o r (without_first (λ p. holds p r) rs)) b + at_span r.start r.count b) f.1
      ∙ rest_count f.0 (without_first (λ p. holds p r) rs) f.2
      ∙ ap (λ o. some b o + covers_at (without_first (λ p. holds p r) rs) b) (sym f.1)
      ∙ w

pub given_covers : GivenCovers
given_covers r rs b pos = give_count r b rs pos

pub taken_covers : TakenCovers
taken_covers r rs b pos h = take_count r b pos rs h
