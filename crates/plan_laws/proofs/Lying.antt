-- Pieces without an overlap have no common tuple.
use Rattle.std.proofs.Common.{◌≡◌, ℕ, zero, suc, ◌+◌, ◌-◌, ◌<◌, ◌≤◌, Bool, true, false, not, cond, List, [], ◌∷◌, length, map, get_or, Contains, Option, Some, None, refl, ap, sym, subst, ◌∙◌, inl, inr, arith}
use Rattle.std.specs.Prelude.{◌==◌, ◌&&◌, ◌⊎◌, nat_lt, nat_le, if◌then◌else◌}
use Rattle.std.specs.List.{filter, list_any}
use Rattle.std.proofs.lemmas.Bool.{and_from, cases_lt, cases_order, false_from_ne_true, false≢true, le-leb, lt-ltb}
use Rattle.std.proofs.lemmas.List.Sorted.{IsPermutation-refl}
use Rattle.fs_state.specs.Claims.{Claimed}
use Rattle.fs_state.specs.Contradiction.{is_written_data, overlap_in}
use Rattle.fs_state.specs.Lists.{first_of_all, numbers}
use Rattle.fs_model.specs.declared.claim.Evidence.{Evidence}
use Rattle.fs_model.specs.declared.claim.Evidence.TheVariants.{Overlap}
use Rattle.rmap_recs.specs.Runs.{tuple_at}
use Rattle.rmap_recs.specs.Words.{key_word}
use Rattle.rmap_recs.specs.declared.records.Key.{Key}
use Rattle.rmap_recs.specs.declared.records.RmapRec.{RmapRec}
use Rattle.rmap_recs.specs.declared.tuples.Tuple.{Tuple}
use Rattle.run_edits.specs.EditLaws.{IsOf}
use Rattle.run_sets.specs.Runs.{is_within}
use Rattle.unit_plan.specs.declared.piece.Among.TheVariants.{All as AllClaims}
use Rattle.unit_plan.specs.declared.piece.Piece.{Piece}
use Rattle.unit_plan.specs.Pieces.{claimed, claimed_blocks, has_block, is_hard}
use Rattle.unit_plan.specs.Sets.{IsFirstOverlap, LieBelow}
use Rattle.unit_plan.proofs.Counting.{many, any_some, many_both, many_map}
use Rattle.unit_plan.proofs.FoundLemmas.{shown, blocks_shown, length_shown, hard_shown}
use Rattle.unit_plan.proofs.LawLemmas.{any_order_lem}
use Rattle.unit_plan.proofs.SweepLemmas.{there, hard_there}
use Rattle.unit_plan.specs.Joined.{has_key, how_many}
use Rattle.unit_plan.specs.Lost.{of_piece}
use Rattle.plan_laws.specs.Lying.{AreClaimedOnce, LieApart}

-- ---- counts

many_one : {X : Type 0} (t : X → Bool) (xs : List X) (j : ℕ) (d : X) → j < length xs → t (get_or xs j d) ≡ true → 1 ≤ many t xs
many_one t [] j d lt h = absurd (omega (arith, lt))
many_one t (x ∷ xs) zero d lt h = let e = ap (λ (b : Bool). cond b (1 + many t xs) (many t xs)) h in omega (arith, e)
many_one t (x ∷ xs) (suc j) d lt h = let rest = many_one t xs j d (omega (arith, lt)) h in more (t x) (many t xs) rest
  where
    more : (b : Bool) (n : ℕ) → 1 ≤ n → 1 ≤ cond b (1 + n) n
    more true n le = omega arith
    more false n le = le

many_two : {X : Type 0} (t : X → Bool) (xs : List X) (i j : ℕ) (d : X) → i < j → j < length xs → t (get_or xs i d) ≡ true → t (get_or xs j d) ≡ true → 2 ≤ many t xs
many_two t [] i j d lt room h k = absurd (omega (arith, room))
many_two t (x ∷ xs) i zero d lt room h k = absurd (omega (arith, lt))
many_two t (x ∷ xs) zero (suc j) d lt room h k =
    let one = many_one t xs j d (omega (arith, room)) k in
    let e = ap (λ (b : Bool). cond b (1 + many t xs) (many t xs)) h in
    omega (arith, one, e)
many_two t (x ∷ xs) (suc i) (suc j) d lt room h k = let rest = many_two t xs i j d (omega (arith, lt)) (omega (arith, room)) h k in more (t x) (many t xs) rest
  where
    more : (b : Bool) (n : ℕ) → 2 ≤ n → 2 ≤ cond b (1 + n) n
    more true n le = omega (arith, le)
    more false n le = le

-- ---- nothing is shown of any block

some_none : (e : Evidence) → ◌≡◌ {A = Option Evidence} (Some e) None → ⊥
some_none e h = cc

first_none : (o : Option Evidence) (os : List (Option Evidence)) → first_of_all (o ∷ os) ≡ None → (o ≡ None) × (first_of_all os ≡ None)
first_none None os shows = (refl, shows)
first_none (Some e) os shows = absurd (some_none e shows)

none_shown : (f : ℕ → Option Evidence) (a n b : ℕ) → first_of_all (map f (numbers a n)) ≡ None → a ≤ b → b < a + n → f b ≡ None
none_shown f a zero b none low high = absurd (omega (arith, low, high))
none_shown f a (suc n) b none low high =
    let both = first_none (f a) (map f (numbers (a + 1) n)) none in
    elim (cases_lt a b) [
      | inl later ↦ none_shown f (a + 1) n b both.1 (omega (arith, later)) (omega (arith, high))
      | inr now ↦ (let same : a ≡ b = omega (arith, now, low) in sym (ap f same) ∙ both.0)
    ]

-- all pieces lie below the sum of their ends
abbrev reach : List Piece → ℕ
reach [] = 0
reach (p ∷ ps) = (p.run.start + p.run.count) + reach ps

below_more : (length more : ℕ) (ps : List Piece) → LieBelow length ps → LieBelow (more + length) ps
below_more length more [] below = tt
below_more length more (p ∷ ps) below = ((let end = below.0 in omega (arith, end)), below_more length more ps below.1)

all_below_reach : (ps : List Piece) → LieBelow (reach ps) ps
all_below_reach [] = tt
all_below_reach (p ∷ ps) = (omega arith, below_more (reach ps) (p.run.start + p.run.count) ps (all_below_reach ps))

ends_in_reach : (ps : List Piece) (j : ℕ) (d : Piece) → j < length ps → (get_or ps j d).run.start + (get_or ps j d).run.count ≤ reach ps
ends_in_reach [] j d lt = absurd (omega (arith, lt))
ends_in_reach (p ∷ ps) zero d lt = omega arith
ends_in_reach (p ∷ ps) (suc j) d lt = let rest = ends_in_reach ps j d (omega (arith, lt)) in omega (arith, rest)

abbrev hard : Claimed → Bool
hard c = not (is_written_data c)

-- where nothing is shown of claims on one block, there is one at most, or none of them is hard
quiet : (cs : List Claimed) → overlap_in cs ≡ None → (length cs ≤ 1) ⊎ (many hard cs ≡ 0)
quiet [] none = inl (omega arith)
quiet (c ∷ []) none = inl (omega arith)
quiet (c ∷ d ∷ cs) none = elim (cases_lt 0 (many hard (c ∷ d ∷ cs))) [
  | inl some ↦ absurd (shown_none (any_some hard (c ∷ d ∷ cs) some) none)
  | inr zero_hard ↦ inr (omega (arith, zero_hard))
]
  where
    shown_none : list_any hard (c ∷ d ∷ cs) ≡ true → (if list_any hard (c ∷ d ∷ cs) then Some (Overlap c.block c.claim d.claim) else None) ≡ None → ⊥
    shown_none any h = differ (sym (ap (λ (t : Bool). if t then Some (Overlap c.block c.claim d.claim) else None) any) ∙ h) where
      differ : ◌≡◌ {A = Option Evidence} (Some (Overlap c.block c.claim d.claim)) None → ⊥
      differ e = cc

map_length : {X Y : Type 0} (f : X → Y) (xs : List X) → length (map f xs) ≡ length xs
map_length f [] = refl
map_length f (x ∷ xs) = ap suc (map_length f xs)

module _ (ps : List Piece) (first : IsFirstOverlap AllClaims ps None) where
  nothing_at : (b : ℕ) → overlap_in (filter (λ c. c.block == b) (claimed_blocks AllClaims ps)) ≡ None
  unfolding IsFirstOverlap
  nothing_at b =
      none_shown (λ x. overlap_in (filter (λ c. c.block == x) (claimed_blocks AllClaims ps))) 0 (suc b + reach ps) b (sym (first (suc b + reach ps) (below_more (reach ps) (suc b) ps (all_below_reach ps)))) (omega arith) (omega arith)

  nothing_on : (b : ℕ) → b < reach ps → overlap_in (filter (λ c. c.block == b) (claimed_blocks AllClaims ps)) ≡ None
  unfolding IsFirstOverlap
  nothing_on b lt = none_shown (λ x. overlap_in (filter (λ c. c.block == x) (claimed_blocks AllClaims ps))) 0 (reach ps) b (sym (first (reach ps) (all_below_reach ps))) (omega arith) (omega (arith, lt))

  -- a block has one piece at most, or written file data alone
  pub clear_at : (b : ℕ) → (there AllClaims ps b ≤ 1) ⊎ (hard_there AllClaims ps b ≡ 0)
  clear_at b =
      let itself = IsPermutation-refl ps in
      let on = map (λ p. claimed p b) (shown AllClaims ps ps itself b) in
      let none : overlap_in on ≡ None = sym (ap overlap_in (blocks_shown AllClaims ps ps itself b)) ∙ nothing_at b in
      let long = map_length (λ p. claimed p b) (shown AllClaims ps ps itself b) ∙ length_shown AllClaims ps ps itself b in
      elim (quiet on none) [
        | inl one ↦ inl (omega (arith, one, long))
        | inr none_hard ↦ inr (sym (hard_shown AllClaims ps ps itself b) ∙ none_hard)
      ]

  clear_on : (b : ℕ) → b < reach ps → (there AllClaims ps b ≤ 1) ⊎ (hard_there AllClaims ps b ≡ 0)
  clear_on b lt = clear_at b

  -- two pieces in two places with a common block are written file data
  soft : (i j b : ℕ) (d : Piece) → i < j → j < length ps → has_block AllClaims b (get_or ps i d) ≡ true → has_block AllClaims b (get_or ps j d) ≡ true → (is_hard (get_or ps i d) ≡ false) × (is_hard (get_or ps j d) ≡ false)
  soft i j b d lt room h k =
      let two = many_two (has_block AllClaims b) ps i j d lt room h k in
      let within : b < reach ps = inside (get_or ps j d) k (ends_in_reach ps j d room) in
      elim (clear_on b within) [
        | inl one ↦ absurd (omega (arith, one, two))
        | inr none ↦ (not_hard i (omega (arith, lt, room)) h none, not_hard j room k none)
      ]
    where
      inside : (p : Piece) → has_block AllClaims b p ≡ true → p.run.start + p.run.count ≤ reach ps → b < reach ps
      inside p has end = elim (cases_lt b (p.run.start + p.run.count)) [
        | inl low ↦ omega (arith, low, end)
        | inr high ↦ absurd (false≢true (sym (past p high) ∙ has))
      ]
        where
          past : (p : Piece) → p.run.start + p.run.count ≤ b → has_block AllClaims b p ≡ false
          past p high = grind (arith, false≢true)

      not_hard : (k : ℕ) → k < length ps → has_block AllClaims b (get_or ps k d) ≡ true → hard_there AllClaims ps b ≡ 0 → is_hard (get_or ps k d) ≡ false
      not_hard k within has none = false_from_ne_true (is_hard (get_or ps k d)) (λ is.
          let one = many_one (λ p. has_block AllClaims b p && is_hard p) ps k d within (and_from (has_block AllClaims b (get_or ps k d)) (is_hard (get_or ps k d)) has is) in
          omega (arith, one, none))

-- ---- tuples

of_block : (p : Piece) (t : Tuple) → IsOf (of_piece p) t → has_block AllClaims t.block p ≡ true
of_block p t h =
    let at : p.run.start + h.0 ≡ t.block = ap (λ (x : Tuple). x.block) h.2 in
    let below = h.1 in
    and_from (nat_le p.run.start t.block) (nat_lt t.block (p.run.start + p.run.count)) (le-leb p.run.start t.block (omega (arith, at))) (lt-ltb t.block (p.run.start + p.run.count) (omega (arith, at, below)))

mapped_at : (ps : List Piece) (j : ℕ) (p : Piece) (r : RmapRec) → j < length ps → get_or (map of_piece ps) j r ≡ of_piece (get_or ps j p)
mapped_at [] j p r lt = absurd (omega (arith, lt))
mapped_at (x ∷ xs) zero p r lt = refl
mapped_at (x ∷ xs) (suc j) p r lt = mapped_at xs j p r (omega (arith, lt))

same_default : (ps : List Piece) (j : ℕ) (p q : Piece) → j < length ps → get_or ps j p ≡ get_or ps j q
same_default [] j p q lt = absurd (omega (arith, lt))
same_default (x ∷ xs) zero p q lt = refl
same_default (x ∷ xs) (suc j) p q lt = same_default xs j p q (omega (arith, lt))

some_piece : (ps : List Piece) (j : ℕ) → j < length ps → Piece
some_piece [] j lt = absurd (omega (arith, lt))
some_piece (x ∷ xs) j lt = x

holds_at : (ps : List Piece) (j : ℕ) (d : Piece) → j < length ps → Contains ps (get_or ps j d)
holds_at ps j d lt = (j, lt, same_default ps j (get_or ps j d) d lt)

pub lie_apart_lem : LieApart
lie_apart_lem ps qs same first once rising rooms = record { rising = rising; rooms = rooms; apart = apart } where
  none : IsFirstOverlap AllClaims qs None
  none = any_order_lem AllClaims ps qs None same first

  pair : (i j : ℕ) (d : Piece) → i < j → j < length qs → (t : Tuple) → IsOf (of_piece (get_or qs i d)) t → IsOf (of_piece (get_or qs j d)) t → of_piece (get_or qs i d) ≡ of_piece (get_or qs j d)
  pair i j d lt room t h k =
      let both = soft qs none i j t.block d lt room (of_block (get_or qs i d) t h) (of_block (get_or qs j d) t k) in
      once (get_or qs i d) (get_or qs j d) (holds_at qs i d (omega (arith, lt, room))) (holds_at qs j d room) both.0 both.1 t h k

  apart : (p q : RmapRec) → Contains (map of_piece qs) p → Contains (map of_piece qs) q → (t : Tuple) → IsOf p t → IsOf q t → p ≡ q
  apart p q c e t h k =
      let long = map_length of_piece qs in
      let i = c.0 in
      let j = e.0 in
      let low : i < length qs = (let x = c.1 in omega (arith, x, long)) in
      let high : j < length qs = (let x = e.1 in omega (arith, x, long)) in
      let d = some_piece qs i low in
      let at_p : of_piece (get_or qs i d) ≡ p = sym (mapped_at qs i d p low) ∙ c.2 in
      let at_q : of_piece (get_or qs j d) ≡ q = sym (mapped_at qs j d q high) ∙ e.2 in
      let h2 : IsOf (of_piece (get_or qs i d)) t = subst (λ (r : RmapRec). IsOf r t) (sym at_p) h in
      let k2 : IsOf (of_piece (get_or qs j d)) t = subst (λ (r : RmapRec). IsOf r t) (sym at_q) k in
      elim (cases_order i j) [
        | inl is ↦ sym at_p ∙ (ap (λ (n : ℕ). of_piece (get_or qs n d)) is ∙ at_q)
        | inr (inl below) ↦ sym at_p ∙ (pair i j d below high t h2 k2 ∙ at_q)
        | inr (inr above) ↦ sym at_p ∙ (sym (pair j i d above low t k2 h2) ∙ at_q)
      ]

-- ---- no block is claimed twice for one owner at one offset

how_many_is : {X : Type 0} (t : X → Bool) (xs : List X) → how_many t xs ≡ many t xs
how_many_is t [] = refl
how_many_is t (x ∷ xs) = ap (λ (n : ℕ). cond (t x) (1 + n) n) (how_many_is t xs)

-- the piece's owner and offset at the key's block are those of the key
abbrev rest_of : Key → Piece → Bool
rest_of k p = (p.owner == k.owner) && (key_word (tuple_at (of_piece p) (k.start - p.run.start)).word == k.word)

-- where no piece on the block is hard, as many soft ones have the key as have it at all
soft_alone : (k : Key) (ps : List Piece) → many (λ p. has_block AllClaims k.start p && is_hard p) ps ≡ 0 → many (λ p. has_key k (of_piece p)) ps ≤ many (λ p. not (is_hard p) && has_key k (of_piece p)) ps
soft_alone k [] none = omega arith
soft_alone k (p ∷ ps) none = step (is_within k.start p.run) (is_hard p) (rest_of k p) (many (λ q. has_block AllClaims k.start q && is_hard q) ps) (many (λ q. has_key k (of_piece q)) ps) (many (λ q. not (is_hard q) && has_key k (of_piece q)) ps) none (soft_alone k ps)
  where
    step : (w h r : Bool) (m x y : ℕ) → cond (w && h) (1 + m) m ≡ 0 → (m ≡ 0 → x ≤ y) → cond (w && r) (1 + x) x ≤ cond (not h && (w && r)) (1 + y) y
    step true true r m x y none more = absurd (omega (arith, none))
    step true false true m x y none more = let le = more none in omega (arith, le)
    step true false false m x y none more = more none
    step false true r m x y none more = more none
    step false false r m x y none more = more none

pub claimed_once_lem : AreClaimedOnce
claimed_once_lem ps first written rooms = record { once = once; rooms = rooms } where
  counted : (k : Key) → how_many (has_key k) (map of_piece ps) ≡ many (λ p. has_key k (of_piece p)) ps
  counted k = how_many_is (has_key k) (map of_piece ps) ∙ many_map of_piece (has_key k) ps

  once : (k : Key) → how_many (has_key k) (map of_piece ps) ≤ 1
  once k =
      let all = counted k in
      elim (clear_at ps first k.start) [
        | inl one ↦ (let fewer : many (λ p. has_key k (of_piece p)) ps ≤ there AllClaims ps k.start = many_both (has_block AllClaims k.start) (rest_of k) ps in omega (arith, all, one, fewer))
        | inr none ↦
            let soft = soft_alone k ps none in
            let few = written k in
            let is = how_many_is (λ p. not (is_hard p) && has_key k (of_piece p)) ps in
            omega (arith, all, soft, few, is)
      ]
