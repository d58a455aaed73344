-- As many pieces end a run as begin one: each piece that goes on from another does so from one alone.
use Rattle.std.proofs.Common.{◌≡◌, ◌<◌, ◌≤◌, ◌+◌, ◌-◌, ℕ, zero, suc, Bool, true, false, not, cond, ◌||◌, List, [], ◌∷◌, ◌++◌, get_or, take, length, map, Contains, filter, refl, sym, ap, ◌∙◌, arith}
use Rattle.std.specs.Prelude.{if◌then◌else◌}
use Rattle.std.specs.List.{list_any}
use Rattle.std.proofs.lemmas.List.{append-nil, length-append, length-map}
use Rattle.std.proofs.lemmas.List.Elements.{filter_more}
use Rattle.sblock.specs.Lists.{Rises}
use Rattle.rmap_recs.specs.Rmap.{can_join, key_of}
use Rattle.rmap_recs.specs.Runs.{goes_on, tuple_at}
use Rattle.rmap_recs.specs.declared.records.RmapRec.{RmapRec}
use Rattle.rmap_recs.proofs.RisingLemmas.{any_here, before_rest, false_by, in_front, in_rest}
use Rattle.run_edits.specs.Edits.{is_before}
use Rattle.run_edits.specs.Pieces.{ArePieces, is_followed, is_last, joined_pieces, run_of}
use Rattle.run_edits.proofs.ChainLemmas.{in_row, join_is, only_ahead}
use Rattle.run_edits.proofs.FitLemmas.{has_room_at}
use Rattle.run_edits.proofs.GiveLemmas.{last_of}
use Rattle.run_edits.proofs.PieceLemmas.{along, never, one_joins, piece_some}

-- ---- sums

abbrev tally : {X : Type 0} → (X → ℕ) → List X → ℕ
tally f [] = 0
tally f (x ∷ xs) = f x + tally f xs

abbrev one : Bool → ℕ
one b = if b then 1 else 0

tally_none : {X : Type 0} (xs : List X) → tally (λ (x : X). 0) xs ≡ 0
tally_none [] = refl
tally_none (x ∷ xs) = let h = tally_none xs in omega (arith, h)

tally_plus : {X : Type 0} (f g : X → ℕ) (xs : List X) → tally (λ x. f x + g x) xs ≡ tally f xs + tally g xs
tally_plus f g [] = omega arith
tally_plus f g (x ∷ xs) = let h = tally_plus f g xs in omega (arith, h)

swap : {X Y : Type 0} (f : X → Y → ℕ) (xs : List X) (ys : List Y) → tally (λ x. tally (λ y. f x y) ys) xs ≡ tally (λ y. tally (λ x. f x y) xs) ys
swap f [] ys = sym (tally_none ys)
swap f (x ∷ xs) ys = ap (λ (n : ℕ). tally (λ y. f x y) ys + n) (swap f xs ys) ∙ sym (tally_plus (λ y. f x y) (λ y. tally (λ x. f x y) xs) ys)

tally_same : {X : Type 0} (f g : X → ℕ) (xs : List X) → ((x : X) → Contains xs x → f x ≡ g x) → tally f xs ≡ tally g xs
tally_same f g [] same = refl
tally_same f g (x ∷ xs) same =
    let first : f x ≡ g x = same x (in_front x xs) in
    let rest : tally f xs ≡ tally g xs = tally_same f g xs (λ y c. same y (in_rest x xs y c)) in
    omega (arith, first, rest)

-- ---- at most one passes

none_pass : (t : RmapRec → Bool) (xs : List RmapRec) → ((x : RmapRec) → Contains xs x → t x ≡ false) → tally (λ x. one (t x)) xs ≡ 0
none_pass t [] fails = refl
none_pass t (x ∷ xs) fails =
    let first : one (t x) ≡ 0 = ap one (fails x (in_front x xs)) in
    let rest : tally (λ y. one (t y)) xs ≡ 0 = none_pass t xs (λ y c. fails y (in_rest x xs y c)) in
    omega (arith, first, rest)

one_passes : (t : RmapRec → Bool) (xs : List RmapRec) → Rises is_before xs → ((a b : RmapRec) → Contains xs a → Contains xs b → t a ≡ true → t b ≡ true → a ≡ b) → tally (λ x. one (t x)) xs ≡ one (list_any t xs)
one_passes t [] rises only = refl
one_passes t (x ∷ xs) rises only = (elim (t x) as (λ b. t x ≡ b → one b + tally (λ y. one (t y)) xs ≡ one (b || list_any t xs)) [
  | true ↦ λ h.
      let rest : tally (λ y. one (t y)) xs ≡ 0 = none_pass t xs (λ y c. false_by (t y) (λ k. never x y (ap key_of (only x y (in_front x xs) (in_rest x xs y c) h k)) (before_rest is_before along x xs rises y c))) in
      omega (arith, rest)
  | false ↦ λ h.
      let rest : tally (λ y. one (t y)) xs ≡ one (list_any t xs) = one_passes t xs rises.1 (λ a b c d. only a b (in_rest x xs a c) (in_rest x xs b d)) in
      omega (arith, rest)
]) refl

-- ---- ends and beginnings

module _ (pieces : List RmapRec) (are : ArePieces pieces) where
  last_within : (p : RmapRec) → Contains pieces p → 0 < p.count
  last_within p c = piece_some pieces are.rooms p c

  ends_at : (p q : RmapRec) → Contains pieces p → can_join p q ≡ true → goes_on (last_of p) (tuple_at q 0) ≡ true
  ends_at p q c h = sym (join_is p q (in_row p (has_room_at pieces are.rooms p c).0) (last_within p c)) ∙ h

  one_before : (q p s : RmapRec) → Contains pieces p → Contains pieces s → can_join p q ≡ true → can_join s q ≡ true → p ≡ s
  one_before q p s c d h k =
      let same : last_of p ≡ last_of s = only_ahead (last_of p) (last_of s) (tuple_at q 0) (ends_at p q c h) (ends_at s q d k) in
      let some = last_within p c in
      let more = last_within s d in
      are.apart p s c d (last_of p) (p.count - 1, omega (arith, some), refl) (s.count - 1, omega (arith, more), sym same)

  followers : (p : RmapRec) → tally (λ q. one (can_join p q)) pieces ≡ one (list_any (can_join p) pieces)
  followers p = one_passes (can_join p) pieces are.rising (λ a b c d h k. one_joins pieces are.rising p a b c d h k)

  followed : (q : RmapRec) → tally (λ p. one (can_join p q)) pieces ≡ one (is_followed pieces q)
  followed q = one_passes (λ p. can_join p q) pieces are.rising (λ a b c d h k. one_before q a b c d h k)

  as_many : tally (λ p. one (list_any (can_join p) pieces)) pieces ≡ tally (λ q. one (is_followed pieces q)) pieces
  as_many =
      sym (tally_same (λ p. tally (λ q. one (can_join p q)) pieces) (λ p. one (list_any (can_join p) pieces)) pieces (λ p c. followers p))
      ∙ swap (λ p q. one (can_join p q)) pieces pieces
      ∙ tally_same (λ q. tally (λ p. one (can_join p q)) pieces) (λ q. one (is_followed pieces q)) pieces (λ q c. followed q)

  others : (t : RmapRec → Bool) (xs : List RmapRec) → length (filter (λ x. not (t x)) xs) + tally (λ x. one (t x)) xs ≡ length xs
  others t [] = omega arith
  others t (x ∷ xs) = elim (t x) as (λ b. length (cond (not b) (x ∷ filter (λ y. not (t y)) xs) (filter (λ y. not (t y)) xs)) + (one b + tally (λ y. one (t y)) xs) ≡ length (x ∷ xs)) [
    | true ↦ let h = others t xs in omega (arith, h)
    | false ↦ let h = others t xs in omega (arith, h)
  ]

  pub ends_are_runs : length (filter (is_last pieces) pieces) ≡ length (joined_pieces pieces)
  unfolding joined_pieces
  ends_are_runs =
      let ends = others (λ p. list_any (can_join p) pieces) pieces in
      let begins = others (is_followed pieces) pieces in
      let same = as_many in
      let mapped : length (map (run_of pieces) (filter (λ q. not (is_followed pieces q)) pieces)) ≡ length (filter (λ q. not (is_followed pieces q)) pieces) = length-map (filter (λ q. not (is_followed pieces q)) pieces) (run_of pieces) in
      omega (arith, ends, begins, same, mapped)

-- ---- what the code does

any_none : (t : RmapRec → Bool) (xs : List RmapRec) → ((x : RmapRec) → Contains xs x → t x ≡ false) → list_any t xs ≡ false
any_none t [] fails = refl
any_none t (x ∷ xs) fails =
    let first : t x ≡ false = fails x (in_front x xs) in
    let rest : list_any t xs ≡ false = any_none t xs (λ y c. fails y (in_rest x xs y c)) in
    rw (first, rest) refl

pub last_by : (pieces : List RmapRec) (p : RmapRec) → ((q : RmapRec) → Contains pieces q → can_join p q ≡ false) → true ≡ is_last pieces p
last_by pieces p none = sym (ap not (any_none (can_join p) pieces none))

pub not_last : (pieces : List RmapRec) (p q : RmapRec) → Contains pieces q → can_join p q ≡ true → false ≡ is_last pieces p
not_last pieces p q c h = sym (ap not (any_here (can_join p) pieces q c h))

pub count_more : (t : RmapRec → Bool) (xs : List RmapRec) (i : ℕ) (d : RmapRec) (n : ℕ) → i < length xs → t (get_or xs i d) ≡ true → n ≡ length (filter t (take i xs)) → n + 1 ≡ length (filter t (take (i + 1) xs))
count_more t xs i d n within passes is =
    let x = get_or xs i d in
    let more : filter t (take (i + 1) xs) ≡ filter t (take i xs) ++ x ∷ [] = filter_more t xs i d within ∙ ap (λ (b : Bool). filter t (take i xs) ++ cond b (x ∷ []) []) passes in
    let longer : length (filter t (take (i + 1) xs)) ≡ length (filter t (take i xs)) + 1 = ap (λ (ys : List RmapRec). length ys) more ∙ length-append (filter t (take i xs)) (x ∷ []) in
    omega (arith, is, longer)

pub count_on : (t : RmapRec → Bool) (xs : List RmapRec) (i : ℕ) (d : RmapRec) (n : ℕ) → i < length xs → t (get_or xs i d) ≡ false → n ≡ length (filter t (take i xs)) → n ≡ length (filter t (take (i + 1) xs))
count_on t xs i d n within fails is =
    let x = get_or xs i d in
    let more : filter t (take (i + 1) xs) ≡ filter t (take i xs) = filter_more t xs i d within ∙ ap (λ (b : Bool). filter t (take i xs) ++ cond b (x ∷ []) []) fails ∙ append-nil (filter t (take i xs)) in
    is ∙ sym (ap (λ (ys : List RmapRec). length ys) more)

-- no more than were looked at
pub kept_few : (t : RmapRec → Bool) (xs : List RmapRec) (i n : ℕ) → n ≡ length (filter t (take i xs)) → n ≤ i
kept_few t xs zero n is = omega (arith, is)
kept_few t [] (suc i) n is = omega (arith, is)
kept_few t (x ∷ xs) (suc i) n is =
    let rest : length (filter t (take i xs)) ≤ i = kept_few t xs i (length (filter t (take i xs))) refl in
    let first : length (cond (t x) (x ∷ filter t (take i xs)) (filter t (take i xs))) ≤ 1 + length (filter t (take i xs)) = elim (t x) as (λ b. length (cond b (x ∷ filter t (take i xs)) (filter t (take i xs))) ≤ 1 + length (filter t (take i xs))) [ true ↦ omega arith | false ↦ omega arith ] in
    omega (arith, is, rest, first)
