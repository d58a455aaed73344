-- Pieces that claim no block twice for one owner at one offset, put in order, are pieces of reverse mappings.
use Rattle.std.proofs.Common.{◌≡◌, ◌<◌, ◌≤◌, ◌+◌, ◌-◌, ℕ, zero, suc, Bool, true, false, cond, eqb, ◌&&◌, ◌||◌, ◌==◌, List, [], ◌∷◌, ◌++◌, get_or, length, map, filter, take, All, Contains, refl, sym, ap, ◌∙◌, subst, inl, inr, arith}
use Rattle.std.specs.Prelude.{if◌then◌else◌, nat_lt, nat_le}
use Rattle.std.specs.List.Sorted.{IsPermutation, IsSortedByKey}
use Rattle.std.specs.Fn.{Called, ComputesKey, Mut}
use Rattle.std.specs.Ordering.{is_lt, nat_cmp, ordering_then}
use Rattle.std.specs.declared.cmp.Ordering.{Ordering}
use Rattle.std.specs.declared.cmp.Ordering.TheVariants.{Less, Equal, Greater}
use Rattle.std.proofs.Math.Seq.{take-length}
use Rattle.std.proofs.lemmas.List.{take-append-le}
use Rattle.std.proofs.lemmas.Bool.{and_from, cases_order, eq-eqb, le-leb, lt-ltb}
use Rattle.std.proofs.lemmas.Bool.Decides.{nat_tests}
use Rattle.std.proofs.lemmas.Fn.{always_returns_same}
use Rattle.std.proofs.lemmas.List.Sorted.{All-permutation, Contains-permutation, IsPermutation-map, IsPermutation-sym}
use Rattle.sblock.specs.Lists.{Rises}
use Rattle.rmap_recs.specs.Rmap.{is_first, is_key_before, key_of}
use Rattle.rmap_recs.specs.Runs.{AreRuns, tuple_at}
use Rattle.rmap_recs.specs.Words.{key_word}
use Rattle.rmap_recs.specs.declared.records.Key.{Key}
use Rattle.rmap_recs.specs.declared.records.RmapRec.{RmapRec}
use Rattle.rmap_recs.specs.declared.tuples.Tuple.{Tuple}
use Rattle.rmap_recs.proofs.RisingLemmas.{at_place, same_default}
use Rattle.rmap_recs.proofs.WordLemmas.{key_word_twice}
use Rattle.run_edits.specs.EditLaws.{IsOf}
use Rattle.run_edits.specs.Edits.{HasRoom, is_before}
use Rattle.run_edits.specs.Pieces.{ArePieces, AreTuplesOf, joined_pieces}
use Rattle.run_edits.proofs.ChainLemmas.{first_is}
use Rattle.run_edits.proofs.PieceLemmas.{piece_some, pieces_exact}
use Rattle.unit_plan.specs.declared.piece.Piece.{Piece}
use Rattle.unit_plan.specs.Joined.{ClaimOnce, StandInRow, has_key, how_many, key_in_order}
use Rattle.unit_plan.specs.Lost.{of_piece}
use Rattle.unit_plan.proofs.Counting.{many, permuted}
use Rattle.unit_plan.proofs.JoinLemmas.{map_long, mapped_at, nothing}
use Rattle.unit_plan.proofs.RowLemmas.{pieces_row, row_rises}
use denote.Ref.{Bor}

-- a list in front of another, as far as it is long
pub whole_taken : (n : ℕ) (xs ys : List Piece) → length xs ≡ n → take n (xs ++ ys) ≡ xs
whole_taken n xs ys long = ap (λ (k : ℕ). take k (xs ++ ys)) (sym long) ∙ (take-append-le (length xs) xs ys (omega arith) ∙ take-length xs)

-- ---- what the sort gives

abbrev pub key_cmp : ℕ × ℕ × ℕ → ℕ × ℕ × ℕ → Ordering
key_cmp x y = ordering_then (ordering_then (nat_cmp x.0 y.0) (nat_cmp x.1 y.1)) (nat_cmp x.2 y.2)

keys_compare : (l e m n o q : Bool) → is_lt (ordering_then (ordering_then (cond l Less (cond e Equal Greater)) (cond m Less (cond n Equal Greater))) (cond o Less (cond q Equal Greater))) ≡ (l || (e && (m || (n && o))))
keys_compare true e m n o q = refl
keys_compare false true true n o q = refl
keys_compare false true false true true q = refl
keys_compare false true false true false true = refl
keys_compare false true false true false false = refl
keys_compare false true false false o q = refl
keys_compare false false m n o q = refl

lt_is_before : (p q : Piece) → is_lt (key_cmp (key_in_order p) (key_in_order q)) ≡ is_before (of_piece p) (of_piece q)
unfolding is_key_before
lt_is_before p q =
    keys_compare (nat_lt p.run.start q.run.start) (eqb p.run.start q.run.start) (nat_lt p.owner q.owner) (eqb p.owner q.owner) (nat_lt (key_word p.word) (key_word q.word)) (eqb (key_word p.word) (key_word q.word))
    ∙ λ i. is_first p.run.start q.run.start (is_first p.owner q.owner (nat_lt (sym (key_word_twice p.word) i) (sym (key_word_twice q.word) i)))

-- no piece comes before the one in front of it
abbrev pub NoneBefore : List Piece → Type 0
NoneBefore ps = (k : ℕ) (d : Piece) → k + 1 < length ps → is_before (of_piece (get_or ps (k + 1) d)) (of_piece (get_or ps k d)) ≡ false

pub sorted_by_key : {F : Type 0} {g : Mut F (Bor Piece × Unit {0}) (ℕ × ℕ × ℕ)} {f : F} (ps : List Piece)
    → ((key : Piece → ℕ × ℕ × ℕ) → ComputesKey g key f → IsSortedByKey key key_cmp ps)
    → ((a : Bor Piece × Unit {0}) (r : ℕ × ℕ × ℕ) (f' : F) → Called g f a r f' → (r ≡ key_in_order a.0.now) × (f' ≡ f)) → NoneBefore ps
sorted_by_key {g = g} {f = f} ps up h k d lt =
    sym (lt_is_before (get_or ps (k + 1) d) (get_or ps k d)) ∙ up key_in_order (always_returns_same g (λ a r. r ≡ key_in_order a.0.now) f h) k d (omega arith) lt

-- ---- who has a key

abbrev pub key_for : Tuple → Key
key_for t = record { start = t.block; owner = t.owner; word = key_word t.word }

has_at : (r : RmapRec) (i : ℕ) → i < r.count → has_key (key_for (tuple_at r i)) r ≡ true
has_at r i lt =
    let back : (r.start + i) - r.start ≡ i = omega arith in
    and_from (nat_le r.start (r.start + i) && nat_lt (r.start + i) (r.start + r.count)) ((r.owner == r.owner) && (key_word (tuple_at r ((r.start + i) - r.start)).word == key_word (tuple_at r i).word))
    (and_from (nat_le r.start (r.start + i)) (nat_lt (r.start + i) (r.start + r.count)) (le-leb r.start (r.start + i) (omega arith)) (lt-ltb (r.start + i) (r.start + r.count) (omega (arith, lt))))
    (and_from (r.owner == r.owner) (key_word (tuple_at r ((r.start + i) - r.start)).word == key_word (tuple_at r i).word) (eq-eqb r.owner r.owner refl)
    (eq-eqb (key_word (tuple_at r ((r.start + i) - r.start)).word) (key_word (tuple_at r i).word) (ap (λ (n : ℕ). key_word (tuple_at r n).word) back)))

pub has_of : (r : RmapRec) (t : Tuple) → IsOf r t → has_key (key_for t) r ≡ true
has_of r t h = subst (λ (u : Tuple). has_key (key_for u) r ≡ true) h.2 (has_at r h.0 h.1)

has_own : (r : RmapRec) → 0 < r.count → has_key (key_of r) r ≡ true
has_own r some = ap (λ (t : Tuple). has_key (key_for t) r) (sym (first_is r)) ∙ has_at r 0 some

one_found : (t : RmapRec → Bool) (xs : List RmapRec) (j : ℕ) (d : RmapRec) → j < length xs → t (get_or xs j d) ≡ true → 1 ≤ how_many t xs
one_found t [] j d lt h = absurd (omega (arith, lt))
one_found t (x ∷ xs) zero d lt h = let e = ap (λ (b : Bool). cond b (1 + how_many t xs) (how_many t xs)) h in omega (arith, e)
one_found t (x ∷ xs) (suc j) d lt h = let rest = one_found t xs j d (omega (arith, lt)) h in more (t x) (how_many t xs) rest
  where
    more : (b : Bool) (n : ℕ) → 1 ≤ n → 1 ≤ cond b (1 + n) n
    more true n le = omega arith
    more false n le = le

pub two_found : (t : RmapRec → Bool) (xs : List RmapRec) (i j : ℕ) (d : RmapRec) → i < j → j < length xs → t (get_or xs i d) ≡ true → t (get_or xs j d) ≡ true → 2 ≤ how_many t xs
two_found t [] i j d lt room h k = absurd (omega (arith, room))
two_found t (x ∷ xs) i zero d lt room h k = absurd (omega (arith, lt))
two_found t (x ∷ xs) zero (suc j) d lt room h k =
    let one = one_found t xs j d (omega (arith, room)) k in
    let e = ap (λ (b : Bool). cond b (1 + how_many t xs) (how_many t xs)) h in
    omega (arith, one, e)
two_found t (x ∷ xs) (suc i) (suc j) d lt room h k = let rest = two_found t xs i j d (omega (arith, lt)) (omega (arith, room)) h k in more (t x) (how_many t xs) rest
  where
    more : (b : Bool) (n : ℕ) → 2 ≤ n → 2 ≤ cond b (1 + n) n
    more true n le = omega (arith, le)
    more false n le = le

many_is : (t : RmapRec → Bool) (xs : List RmapRec) → how_many t xs ≡ many t xs
many_is t [] = refl
many_is t (x ∷ xs) = ap (λ (n : ℕ). cond (t x) (1 + n) n) (many_is t xs)

-- ---- in order

after_numbers : (a b c x y z : ℕ) → is_first x a (is_first y b (nat_lt z c)) ≡ false → (a ≡ x → b ≡ y → c ≡ z → ⊥) → is_first a x (is_first b y (nat_lt c z)) ≡ true
after_numbers a b c x y z h ne = grind (arith, nat_tests)

before_next : (r s : RmapRec) → is_before s r ≡ false → (key_of r ≡ key_of s → ⊥) → is_before r s ≡ true
unfolding is_key_before
before_next r s h ne =
    after_numbers r.start r.owner (key_word (key_word r.word)) s.start s.owner (key_word (key_word s.word)) h
    (λ a b c. ne (λ i. record { start = a i; owner = b i; word = (sym (key_word_twice r.word) ∙ (c ∙ key_word_twice s.word)) i }))

next_rises : (xs : List RmapRec) → ((k : ℕ) (d : RmapRec) → k + 1 < length xs → is_before (get_or xs k d) (get_or xs (k + 1) d) ≡ true) → Rises is_before xs
next_rises [] up = tt
next_rises (x ∷ []) up = (tt, tt)
next_rises (x ∷ y ∷ xs) up = (up 0 x (omega arith), next_rises (y ∷ xs) (λ k d lt. let e : suc k + 1 ≡ suc (k + 1) = omega arith in subst (λ (n : ℕ). is_before (get_or (x ∷ y ∷ xs) (suc k) d) (get_or (x ∷ y ∷ xs) n d) ≡ true) e (up (suc k) d (omega (arith, lt)))))

-- pieces with blocks, as records
pub kept : (ps : List Piece) → map of_piece (filter (λ p. nat_lt 0 p.run.count) ps) ≡ filter (λ r. nat_lt 0 r.count) (map of_piece ps)
kept [] = refl
kept (p ∷ ps) = elim (nat_lt 0 p.run.count) as (λ t. map of_piece (if t then p ∷ filter (λ q. nat_lt 0 q.run.count) ps else filter (λ q. nat_lt 0 q.run.count) ps) ≡ (if t then of_piece p ∷ filter (λ r. nat_lt 0 r.count) (map of_piece ps) else filter (λ r. nat_lt 0 r.count) (map of_piece ps))) [
  | true ↦ ap (λ (rs : List RmapRec). of_piece p ∷ rs) (kept ps)
  | false ↦ kept ps
]

module _ (old new : List Piece) (same : IsPermutation old new) (claims : ClaimOnce old) where
  once : (k : Key) → how_many (has_key k) (map of_piece new) ≤ 1
  once k =
      let e : how_many (has_key k) (map of_piece new) ≡ how_many (has_key k) (map of_piece old) =
      many_is (has_key k) (map of_piece new) ∙ (sym (permuted (map of_piece old) (map of_piece new) (IsPermutation-map of_piece old new same) (has_key k)) ∙ sym (many_is (has_key k) (map of_piece old))) in
      let le = claims.once k in
      omega (arith, e, le)

  rooms : All HasRoom (map of_piece new)
  rooms = All-permutation HasRoom (map of_piece old) (map of_piece new) (IsPermutation-map of_piece old new same) claims.rooms

  some : (k : ℕ) (d : RmapRec) → k < length (map of_piece new) → 0 < (get_or (map of_piece new) k d).count
  some k d lt = piece_some (map of_piece new) rooms (get_or (map of_piece new) k d) (at_place (map of_piece new) k d lt)

  -- two pieces in two places have no common key
  apart_keys : (i j : ℕ) (d : RmapRec) (k : Key) → i < j → j < length (map of_piece new) → has_key k (get_or (map of_piece new) i d) ≡ true → has_key k (get_or (map of_piece new) j d) ≡ true → ⊥
  apart_keys i j d k lt room h l = let two = two_found (has_key k) (map of_piece new) i j d lt room h l in let one = once k in omega (arith, two, one)

  rising : NoneBefore new → Rises is_before (map of_piece new)
  rising sorted = next_rises (map of_piece new) (λ k d lt.
      let long = map_long new in
      let here : get_or (map of_piece new) k d ≡ of_piece (get_or new k nothing) = mapped_at new k nothing d (omega (arith, lt, long)) in
      let next : get_or (map of_piece new) (k + 1) d ≡ of_piece (get_or new (k + 1) nothing) = mapped_at new (k + 1) nothing d (omega (arith, lt, long)) in
      let not_before : is_before (get_or (map of_piece new) (k + 1) d) (get_or (map of_piece new) k d) ≡ false = (λ i. is_before (next i) (here i)) ∙ sorted k nothing (omega (arith, lt, long)) in
      before_next (get_or (map of_piece new) k d) (get_or (map of_piece new) (k + 1) d) not_before (λ e.
      apart_keys k (k + 1) d (key_of (get_or (map of_piece new) k d)) (omega arith) lt (has_own (get_or (map of_piece new) k d) (some k d (omega (arith, lt))))
      (ap (λ (x : Key). has_key x (get_or (map of_piece new) (k + 1) d)) e ∙ has_own (get_or (map of_piece new) (k + 1) d) (some (k + 1) d lt))))

  pieces_are : Rises is_before (map of_piece new) → ArePieces (map of_piece new)
  pieces_are up = record { rising = up; rooms = rooms; apart = apart }
    where
      apart : (p q : RmapRec) → Contains (map of_piece new) p → Contains (map of_piece new) q → (t : Tuple) → IsOf p t → IsOf q t → p ≡ q
      apart p q c e t h k =
          let at_q : get_or (map of_piece new) e.0 p ≡ q = same_default (map of_piece new) e.0 p q e.1 ∙ e.2 in
          let hp : has_key (key_for t) (get_or (map of_piece new) c.0 p) ≡ true = ap (has_key (key_for t)) c.2 ∙ has_of p t h in
          let hq : has_key (key_for t) (get_or (map of_piece new) e.0 p) ≡ true = ap (has_key (key_for t)) at_q ∙ has_of q t k in
          elim (cases_order c.0 e.0) [
            | inl is ↦ sym c.2 ∙ (ap (λ (n : ℕ). get_or (map of_piece new) n p) is ∙ at_q)
            | inr (inl below) ↦ absurd (apart_keys c.0 e.0 p (key_for t) below e.1 hp hq)
            | inr (inr above) ↦ absurd (apart_keys e.0 c.0 p (key_for t) above c.1 hq hp)
          ]

  tuples_are : (ts : List Tuple) → AreTuplesOf ts (map of_piece old) → AreTuplesOf ts (map of_piece new)
  tuples_are ts are =
      let moved = IsPermutation-map of_piece old new same in
      record {
        has = λ p c t h. are.has p (Contains-permutation (map of_piece new) (map of_piece old) p (IsPermutation-sym (map of_piece old) (map of_piece new) moved) c) t h;
        only = λ t c. (let of = are.only t c in (of.0, Contains-permutation (map of_piece old) (map of_piece new) of.0 moved of.1, of.2));
      }

  -- what is left of the joined pieces are the runs
  pub runs_are : (left : List RmapRec) → StandInRow (map of_piece new) → (ArePieces (map of_piece new) → left ≡ joined_pieces (map of_piece new)) → (ts : List Tuple) → AreTuplesOf ts (map of_piece old) → AreRuns ts left
  runs_are left row is ts tuples =
      let pieces = pieces_are (row_rises (map of_piece new) row) in
      subst (AreRuns ts) (sym (is pieces)) (pieces_exact ts (map of_piece new) pieces (tuples_are ts tuples))

  -- and they stand in a row before
  pub in_row : NoneBefore new → StandInRow (map of_piece new)
  in_row sorted = pieces_row (map of_piece new) (rising sorted) rooms
