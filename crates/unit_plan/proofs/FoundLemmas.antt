-- What the sweep meets and the walk behind it shows is the first overlap of the claimed blocks.
use Rattle.std.proofs.Common.{◌≡◌, ℕ, zero, suc, ◌+◌, ◌<◌, ◌≤◌, ◌⊎◌, Bool, true, false, cond, not, List, [], ◌∷◌, ◌++◌, length, map, take, Option, Some, None, refl, ap, sym, subst, ◌∙◌, inl, inr, arith}
use Rattle.std.specs.Prelude.{◌==◌, ◌&&◌, nat_lt, nat_le, if◌then◌else◌}
use Rattle.std.specs.List.{filter}
use Rattle.std.specs.List.Sorted.{IsPermutation, IsNonDecreasingBy}
use Rattle.std.proofs.lemmas.Bool.{and_left, and_right, and_from, cond-false, eqb-true, eqb-false, cases_lt, le-leb, lt-leb, lt-ltb, le-ltb}
use Rattle.std.proofs.lemmas.List.Elements.{filter-append}
use Rattle.fs_model.specs.declared.claim.Claim.{Claim}
use Rattle.fs_model.specs.declared.claim.Evidence.{Evidence}
use Rattle.fs_model.specs.declared.claim.Evidence.TheVariants.{Overlap}
use Rattle.run_sets.specs.Runs.{is_within}
use Rattle.rmap_recs.specs.Words.{is_unwritten}
use Rattle.fs_state.specs.Claims.{Claimed, unwritten}
use Rattle.fs_state.specs.Contradiction.{is_data, is_written_data, overlap_in}
use Rattle.fs_state.specs.Lists.{numbers, first_of_all}
use Rattle.unit_plan.specs.declared.order.Firsts.{Firsts}
use Rattle.unit_plan.specs.declared.order.Firsts.TheVariants.{Nothing, One, Two}
use Rattle.unit_plan.specs.declared.piece.Among.{Among}
use Rattle.unit_plan.specs.declared.piece.Piece.{Piece}
use Rattle.unit_plan.specs.Firsts.{listed, firsts_from, shown_of}
use Rattle.unit_plan.specs.Order.{comes_before, put}
use Rattle.unit_plan.specs.Pieces.{has_block, is_hard, is_looked_at, claimed, put_piece, in_order, blocks_of, claimed_blocks}
use Rattle.unit_plan.specs.Sets.{LieBelow, IsFirstOverlap}
use Rattle.unit_plan.specs.Sweep.{swept}
use Rattle.unit_plan.proofs.Counting.{many, Same, permuted, many_filter, many_map, many_same, many_all, any_none, any_some}
use Rattle.unit_plan.proofs.SortedLemmas.{Least, Ascends, one_order, ascends_put, put_all, all_ascend, all_there, firsts_are}
use Rattle.unit_plan.proofs.SweepLemmas.{there, hard_there, ClearAt, HitAt, Found, rising, swept_is}

-- ---- pieces in the claims' order

put_claims : (p : Piece) (qs : List Piece) → map (λ q. q.claim) (put_piece p qs) ≡ put p.claim (map (λ q. q.claim) qs)
put_claims p [] = refl
put_claims p (q ∷ qs) = elim (comes_before q.claim p.claim) as (λ b. map (λ (x : Piece). x.claim) (if b then q ∷ put_piece p qs else p ∷ q ∷ qs) ≡ (if b then q.claim ∷ put p.claim (map (λ (x : Piece). x.claim) qs) else p.claim ∷ q.claim ∷ map (λ (x : Piece). x.claim) qs)) [
  | true ↦ ap (λ (cs : List Claim). q.claim ∷ cs) (put_claims p qs)
  | false ↦ refl
]

order_ascends : (ps : List Piece) → Ascends (map (λ q. q.claim) (in_order ps))
order_ascends [] = tt
order_ascends (p ∷ ps) = subst Ascends (sym (put_claims p (in_order ps))) (ascends_put p.claim (map (λ q. q.claim) (in_order ps)) (order_ascends ps))

put_there : (t : Piece → Bool) (p : Piece) (qs : List Piece) → many t (put_piece p qs) ≡ cond (t p) (1 + many t qs) (many t qs)
put_there t p [] = refl
put_there t p (q ∷ qs) = elim (comes_before q.claim p.claim) as (λ b. many t (if b then q ∷ put_piece p qs else p ∷ q ∷ qs) ≡ cond (t p) (1 + many t (q ∷ qs)) (many t (q ∷ qs))) [
  | true ↦ ap (λ (n : ℕ). cond (t q) (1 + n) n) (put_there t p qs) ∙ swapped (t p) (t q) (many t qs)
  | false ↦ refl
]
  where
    swapped : (a b : Bool) (n : ℕ) → cond b (1 + cond a (1 + n) n) (cond a (1 + n) n) ≡ cond a (1 + cond b (1 + n) n) (cond b (1 + n) n)
    swapped true true n = refl
    swapped true false n = refl
    swapped false true n = refl
    swapped false false n = refl

order_there : (ps : List Piece) → Same (in_order ps) ps
order_there [] = λ t. refl
order_there (p ∷ ps) = λ t. put_there t p (in_order ps) ∙ ap (λ (n : ℕ). cond (t p) (1 + n) n) (order_there ps t)

filter_least : (t : Piece → Bool) (c : Claim) (ps : List Piece) → Least c (map (λ q. q.claim) ps) → Least c (map (λ q. q.claim) (filter t ps))
filter_least t c [] l = tt
filter_least t c (p ∷ ps) l = elim (t p) as (λ b. Least c (map (λ (x : Piece). x.claim) (cond b (p ∷ filter t ps) (filter t ps)))) [
  | true ↦ (l.0, filter_least t c ps l.1)
  | false ↦ filter_least t c ps l.1
]

filter_ascends : (t : Piece → Bool) (ps : List Piece) → Ascends (map (λ q. q.claim) ps) → Ascends (map (λ q. q.claim) (filter t ps))
filter_ascends t [] a = tt
filter_ascends t (p ∷ ps) a = elim (t p) as (λ b. Ascends (map (λ (x : Piece). x.claim) (cond b (p ∷ filter t ps) (filter t ps)))) [
  | true ↦ (filter_least t p.claim ps a.0, filter_ascends t ps a.1)
  | false ↦ filter_ascends t ps a.1
]

-- ---- the claimed blocks of one number

one_number : (p : Piece) (b s n : ℕ) → filter (λ c. c.block == b) (map (claimed p) (numbers s n)) ≡ cond (nat_le s b && nat_lt b (s + n)) (claimed p b ∷ []) []
one_number p b s zero = sym (ap (λ (t : Bool). cond t (claimed p b ∷ []) []) (none (cases_lt b s)))
  where
    none : (b < s) ⊎ (s ≤ b) → (nat_le s b && nat_lt b (s + 0)) ≡ false
    none (inl front) = and_left (nat_le s b) (nat_lt b (s + 0)) (lt-leb s b front)
    none (inr on) = and_right (nat_le s b) (nat_lt b (s + 0)) (le-ltb b (s + 0) (omega (arith, on)))
one_number p b s (suc n) = (elim (s == b) as (λ t. (s == b) ≡ t → cond t (claimed p s ∷ filter (λ (c : Claimed). c.block == b) (map (claimed p) (numbers (s + 1) n))) (filter (λ (c : Claimed). c.block == b) (map (claimed p) (numbers (s + 1) n))) ≡ cond (nat_le s b && nat_lt b (s + suc n)) (claimed p b ∷ []) []) [
  | true ↦ λ is.
      let same : s ≡ b = eqb-true s b is in
      let behind : (nat_le (s + 1) b && nat_lt b (s + 1 + n)) ≡ false = and_left (nat_le (s + 1) b) (nat_lt b (s + 1 + n)) (lt-leb (s + 1) b (omega (arith, same))) in
      let here : (nat_le s b && nat_lt b (s + suc n)) ≡ true = and_from (nat_le s b) (nat_lt b (s + suc n)) (le-leb s b (omega (arith, same))) (lt-ltb b (s + suc n) (omega (arith, same))) in
      ap (λ (cs : List Claimed). claimed p s ∷ cs) (one_number p b (s + 1) n ∙ ap (λ (t : Bool). cond t (claimed p b ∷ []) []) behind)
      ∙ ap (λ (k : ℕ). claimed p k ∷ []) same ∙ sym (ap (λ (t : Bool). cond t (claimed p b ∷ []) []) here)
  | false ↦ λ other.
      one_number p b (s + 1) n ∙ ap (λ (t : Bool). cond t (claimed p b ∷ []) []) (same_test (eqb-false s b other))
]) refl
  where
    same_test : (s ≡ b → ⊥) → (nat_le (s + 1) b && nat_lt b (s + 1 + n)) ≡ (nat_le s b && nat_lt b (s + suc n))
    same_test ne =
        let e : s + 1 + n ≡ s + suc n = omega arith in
        ap (λ (k : ℕ). nat_le (s + 1) b && nat_lt b k) e ∙ ap (λ (t : Bool). t && nat_lt b (s + suc n)) (le_same (cases_lt b s))
      where
        le_same : (b < s) ⊎ (s ≤ b) → nat_le (s + 1) b ≡ nat_le s b
        le_same (inl front) = lt-leb (s + 1) b (omega (arith, front)) ∙ sym (lt-leb s b front)
        le_same (inr on) = le-leb (s + 1) b (omega (arith, on, ne)) ∙ sym (le-leb s b on)

pub on_block : (b : ℕ) (ps : List Piece) → filter (λ c. c.block == b) (blocks_of ps) ≡ map (λ p. claimed p b) (filter (λ p. is_within b p.run) ps)
on_block b [] = refl
on_block b (p ∷ ps) =
    filter-append (λ (c : Claimed). c.block == b) (map (claimed p) (numbers p.run.start p.run.count)) (blocks_of ps)
    ∙ ap (λ (cs : List Claimed). cs ++ filter (λ (c : Claimed). c.block == b) (blocks_of ps)) (one_number p b p.run.start p.run.count)
    ∙ ap (λ (cs : List Claimed). cond (is_within b p.run) (claimed p b ∷ []) [] ++ cs) (on_block b ps)
    ∙ joined (is_within b p.run)
  where
    joined : (t : Bool) → cond t (claimed p b ∷ []) [] ++ map (λ q. claimed q b) (filter (λ q. is_within b q.run) ps) ≡ map (λ q. claimed q b) (cond t (p ∷ filter (λ q. is_within b q.run) ps) (filter (λ q. is_within b q.run) ps))
    joined true = refl
    joined false = refl

-- ---- what is shown of a block

hard_is : (b : ℕ) (p : Piece) → not (is_written_data (claimed p b)) ≡ is_hard p
unfolding is_written_data
hard_is b p = elim (is_unwritten p.word) as (λ t. not (is_data p.claim && not (is_unwritten (if t then unwritten else 0))) ≡ not (is_data p.claim && not t)) [
  | true ↦ refl
  | false ↦ refl
]

module _ (among : Among) (old new : List Piece) (same : IsPermutation old new) (b : ℕ) where
  -- the pieces on the block, in the claims' order
  abbrev pub shown : List Piece
  shown = filter (λ p. is_within b p.run) (in_order (filter (λ p. is_looked_at among p.claim) old))

  pub blocks_shown : filter (λ c. c.block == b) (claimed_blocks among old) ≡ map (λ p. claimed p b) shown
  unfolding claimed_blocks
  blocks_shown = on_block b (in_order (filter (λ p. is_looked_at among p.claim) old))

  grouped : (x y z : Bool) → (x && (y && z)) ≡ (x && y && z)
  grouped true y z = refl
  grouped false y z = refl

  count_shown : (t : Piece → Bool) → many t shown ≡ many (λ p. has_block among b p && t p) new
  count_shown t =
      many_filter t (λ p. is_within b p.run) (in_order (filter (λ p. is_looked_at among p.claim) old))
      ∙ order_there (filter (λ p. is_looked_at among p.claim) old) (λ p. is_within b p.run && t p)
      ∙ many_filter (λ p. is_within b p.run && t p) (λ p. is_looked_at among p.claim) old
      ∙ many_same (λ p. is_looked_at among p.claim && (is_within b p.run && t p)) (λ p. has_block among b p && t p) (λ p. grouped (is_looked_at among p.claim) (is_within b p.run) (t p)) old
      ∙ permuted old new same (λ p. has_block among b p && t p)

  and_true : (x : Bool) → (x && true) ≡ x
  and_true true = refl
  and_true false = refl

  pub length_shown : length shown ≡ there among new b
  length_shown = sym (many_all shown) ∙ count_shown (λ p. true) ∙ many_same (λ p. has_block among b p && true) (has_block among b) (λ p. and_true (has_block among b p)) new

  pub hard_shown : many (λ e. not (is_written_data e)) (map (λ p. claimed p b) shown) ≡ hard_there among new b
  hard_shown =
      many_map (λ p. claimed p b) (λ e. not (is_written_data e)) shown
      ∙ many_same (λ p. not (is_written_data (claimed p b))) is_hard (hard_is b) shown ∙ count_shown is_hard

  -- their claims are the pieces' own, put in order
  pub claims_shown : map (λ p. p.claim) shown ≡ put_all [] (map (λ p. p.claim) (filter (has_block among b) new))
  claims_shown = one_order (map (λ p. p.claim) shown) (put_all [] (map (λ p. p.claim) (filter (has_block among b) new)))
      (filter_ascends (λ p. is_within b p.run) (in_order (filter (λ p. is_looked_at among p.claim) old)) (order_ascends (filter (λ p. is_looked_at among p.claim) old)))
      (all_ascend (map (λ p. p.claim) (filter (has_block among b) new)) [] tt)
      (λ t. many_map (λ p. p.claim) t shown ∙ count_shown (λ p. t p.claim)
      ∙ sym (all_there t (map (λ p. p.claim) (filter (has_block among b) new)) [] ∙ zero_more (many t (map (λ p. p.claim) (filter (has_block among b) new)))
      ∙ many_map (λ p. p.claim) t (filter (has_block among b) new) ∙ many_filter (λ p. t p.claim) (has_block among b) new))
    where
      zero_more : (n : ℕ) → 0 + n ≡ n
      zero_more n = omega arith

  pub firsts_shown : take 2 (map (λ p. p.claim) shown) ≡ firsts_from [] (map (λ p. p.claim) (filter (has_block among b) new))
  firsts_shown = ap (λ (cs : List Claim). take 2 cs) claims_shown ∙ sym (firsts_are (map (λ p. p.claim) (filter (has_block among b) new)) [])

abbrev on_one : ℕ → List Piece → List Claimed
on_one b ps = map (λ p. claimed p b) ps

quiet_block : (b : ℕ) (ps : List Piece) (a h : ℕ) → length ps ≡ a → many (λ e. not (is_written_data e)) (on_one b ps) ≡ h → (0 < h → a ≤ 1) → overlap_in (on_one b ps) ≡ None
quiet_block b [] a h ea eh clear = refl
quiet_block b (p ∷ []) a h ea eh clear = refl
quiet_block b (p ∷ q ∷ ps) a h ea eh clear = elim (cases_lt 0 h) [
  | inl some ↦ absurd (let le = clear some in omega (arith, le, ea))
  | inr none ↦
      let zero_hard : many (λ e. not (is_written_data e)) (on_one b (p ∷ q ∷ ps)) ≡ 0 = eh ∙ omega (arith, none) in
      ap (λ (t : Bool). if t then Some (Overlap b p.claim q.claim) else None) (any_none (λ e. not (is_written_data e)) (on_one b (p ∷ q ∷ ps)) zero_hard)
]

two_first : (c d x y : Claim) → ◌≡◌ {A = List Claim} (c ∷ d ∷ []) (x ∷ y ∷ []) → (c ≡ x) × (d ≡ y)
two_first c d x y e = ((cc), (cc))

-- what is shown is that overlap, where there is one
Shows : ℕ → List Piece → Firsts → Type 0
Shows b ps f = (x : Evidence) × (shown_of b f ≡ Some x) × (overlap_in (on_one b ps) ≡ Some x)

hit_block : (b : ℕ) (ps : List Piece) (f : Firsts) (a h : ℕ) → length ps ≡ a → many (λ e. not (is_written_data e)) (on_one b ps) ≡ h → 1 < a → 0 < h → take 2 (map (λ p. p.claim) ps) ≡ listed f → Shows b ps f
unfolding Shows
hit_block b [] f a h ea eh two some e = absurd (omega (arith, ea, two))
hit_block b (p ∷ []) f a h ea eh two some e = absurd (omega (arith, ea, two))
hit_block b (p ∷ q ∷ ps) Nothing a h ea eh two some e = absurd (never e)
  where
    never : ◌≡◌ {A = List Claim} (p.claim ∷ q.claim ∷ []) [] → ⊥
    never e = cc
hit_block b (p ∷ q ∷ ps) (One c) a h ea eh two some e = absurd (never e)
  where
    never : ◌≡◌ {A = List Claim} (p.claim ∷ q.claim ∷ []) (c ∷ []) → ⊥
    never e = cc
hit_block b (p ∷ q ∷ ps) (Two c d) a h ea eh two some e =
    let same = two_first p.claim q.claim c d e in
    let stands = any_some (λ e. not (is_written_data e)) (on_one b (p ∷ q ∷ ps)) (subst (λ (k : ℕ). 0 < k) (sym eh) some) in (
      Overlap b c d,
      refl,
      ap (λ (t : Bool). if t then Some (Overlap b p.claim q.claim) else None) stands
          ∙ ap (λ (x : Claim). Some (Overlap b x q.claim)) same.0 ∙ ap (λ (x : Claim). Some (Overlap b c x)) same.1,
    )

-- ---- the lowest of all

each_none : (f : ℕ → Option Evidence) (a n : ℕ) → ((b : ℕ) → f b ≡ None) → first_of_all (map f (numbers a n)) ≡ None
each_none f a zero h = refl
each_none f a (suc n) h = ap (λ (o : Option Evidence). first_of_all (o ∷ map f (numbers (a + 1) n))) (h a) ∙ each_none f (a + 1) n h

at_first : (f : ℕ → Option Evidence) (a n t : ℕ) (x : Evidence) → a ≤ t → t < a + n → ((b : ℕ) → b < t → f b ≡ None) → f t ≡ Some x → first_of_all (map f (numbers a n)) ≡ Some x
at_first f a zero t x low high none is = absurd (omega (arith, low, high))
at_first f a (suc n) t x low high none is = elim (cases_lt a t) [
  | inl later ↦
      ap (λ (o : Option Evidence). first_of_all (o ∷ map f (numbers (a + 1) n))) (none a later)
      ∙ at_first f (a + 1) n t x (omega (arith, later)) (omega (arith, high)) none is
  | inr now ↦
      let same : a ≡ t = omega (arith, low, now) in
      ap (λ (o : Option Evidence). first_of_all (o ∷ map f (numbers (a + 1) n))) (ap f same ∙ is)
]

-- pieces below a length have no block at it or behind
none_above : (among : Among) (length : ℕ) (ps : List Piece) (b : ℕ) → LieBelow length ps → length ≤ b → there among ps b ≡ 0
none_above among length [] b below le = refl
none_above among length (p ∷ ps) b below le =
    let end = below.0 in
    let off : has_block among b p ≡ false = and_right (is_looked_at among p.claim) (is_within b p.run) (and_right (nat_le p.run.start b) (nat_lt b (p.run.start + p.run.count)) (le-ltb b (p.run.start + p.run.count) (omega (arith, end, le)))) in
    cond-false (has_block among b p) (1 + there among ps b) (there among ps b) off ∙ none_above among length ps b below.1 le

clear_none : (among : Among) (old new : List Piece) (same : IsPermutation old new) (b : ℕ) → ClearAt b 0 0 (there among new b) (hard_there among new b) → overlap_in (filter (λ c. c.block == b) (claimed_blocks among old)) ≡ None
clear_none among old new same b clear =
    ap overlap_in (blocks_shown among old new same b)
    ∙ quiet_block b (shown among old new same b) (there among new b) (hard_there among new b) (length_shown among old new same b) (hard_shown among old new same b) clear.0

hit_two : (b a h : ℕ) → HitAt b 0 0 a h → (1 < a) × (0 < h)
hit_two b a h (inl p) = p
hit_two b a h (inr (inl p)) = absurd (let x = p.0 in omega (arith, x))
hit_two b a h (inr (inr p)) = absurd (let x = p.0 in omega (arith, x))

found_by : (among : Among) (new : List Piece) (o : Option ℕ) → IsNonDecreasingBy (λ p. p.run.start) new → swept among 0 0 new ≡ o → Found among 0 0 new o
found_by among new o up is = subst (λ (x : Option ℕ). Found among 0 0 new x) is (swept_is among new 0 0 (omega arith) (rising new up))

pub none_found : (among : Among) (old new : List Piece) → IsPermutation old new → IsNonDecreasingBy (λ p. p.run.start) new → swept among 0 0 new ≡ None → IsFirstOverlap among old None
unfolding IsFirstOverlap
none_found among old new same up is = λ length below.
    let found = found_by among new None up is in
    sym (each_none (λ b. overlap_in (filter (λ c. c.block == b) (claimed_blocks among old))) 0 length (λ b. clear_none among old new same b (found b)))

pub one_found : (among : Among) (old new : List Piece) (b : ℕ) (f : Firsts) → IsPermutation old new → IsNonDecreasingBy (λ p. p.run.start) new → swept among 0 0 new ≡ Some b
    → listed f ≡ firsts_from [] (map (λ p. p.claim) (filter (has_block among b) new)) → IsFirstOverlap among old (shown_of b f)
unfolding IsFirstOverlap Shows
one_found among old new b f same up is firsts = λ length below.
    let found = found_by among new (Some b) up is in
    let two = hit_two b (there among new b) (hard_there among new b) found.0 in
    let more = two.0 in
    let inside : b < length = (elim (cases_lt b length) [
      | inl lt ↦ lt
      | inr ge ↦ absurd (let none : there among new b ≡ 0 = sym (permuted old new same (has_block among b)) ∙ none_above among length old b below ge in omega (arith, none, more))
    ]) in
    let shows = hit_block b (shown among old new same b) f (there among new b) (hard_there among new b) (length_shown among old new same b) (hard_shown among old new same b) two.0 two.1 (firsts_shown among old new same b ∙ sym firsts) in
    shows.1
    ∙ sym (at_first (λ k. overlap_in (filter (λ (x : Claimed). x.block == k) (claimed_blocks among old))) 0 length b shows.0 (omega arith) (omega (arith, inside))
    (λ k lt. clear_none among old new same k (found.1 k lt)) (ap overlap_in (blocks_shown among old new same b) ∙ shows.2))
