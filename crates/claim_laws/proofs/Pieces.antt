-- The blocks of pieces, as claims and as tuples.
use Rattle.std.proofs.Common.{◌≡◌, ◌<◌, ◌≤◌, ◌+◌, ℕ, zero, suc, Bool, true, false, not, ◌&&◌, List, [], ◌∷◌, ◌++◌, get_or, map, Contains, refl, ap, sym, subst, ◌∙◌, inl, inr, arith}
use Rattle.std.specs.Prelude.{◌⊎◌, ⊤, nat_lt, if◌then◌else◌}
use Rattle.std.specs.List.Sorted.{IsPermutation}
use Rattle.std.proofs.lemmas.Bool.{cases_eq, cases_order}
use Rattle.std.proofs.lemmas.Bool.Decides.{nat_tests}
use Rattle.std.proofs.lemmas.Grind.{flat_map-append}
use Rattle.std.proofs.lemmas.List.{map-append}
use Rattle.std.proofs.lemmas.List.Elements.{All-contains, Contains-append_cases, Contains-append_left, Contains-append_right}
use Rattle.std.proofs.lemmas.List.Sorted.{Contains-permutation, IsPermutation-map, IsPermutation-sym}
use Rattle.fs_state.specs.Claims.{Claimed, mapped_blocks}
use Rattle.fs_state.specs.Contradiction.{is_data, is_written_data}
use Rattle.fs_state.specs.Lists.{numbers}
use Rattle.fs_state.specs.Own.{tuple_of}
use Rattle.fs_model.specs.declared.claim.Claim.{Claim}
use Rattle.rmap_recs.proofs.RisingLemmas.{at_place, in_either, in_front, in_rest, nothing_in, same_default}
use Rattle.rmap_recs.specs.Rmap.{is_first, is_key_before}
use Rattle.rmap_recs.specs.Runs.{HaveNext, is_tuple_before, tuple_at}
use Rattle.rmap_recs.specs.Words.{is_fork_data, is_unwritten, key_word}
use Rattle.rmap_recs.specs.declared.records.Key.{Key}
use Rattle.rmap_recs.specs.declared.records.RmapRec.{RmapRec}
use Rattle.rmap_recs.specs.declared.tuples.Tuple.{Tuple}
use Rattle.run_edits.specs.EditLaws.{AreUntied, IsOf}
use Rattle.run_edits.specs.Edits.{HasRoom}
use Rattle.run_edits.specs.Pieces.{AreTuplesOf}
use Rattle.unit_plan.proofs.InOrder.{has_of, key_for, two_found}
use Rattle.unit_plan.specs.Group.{claimed_at, claims_of}
use Rattle.unit_plan.specs.Joined.{ClaimOnce, has_key}
use Rattle.unit_plan.specs.Laws.{seen}
use Rattle.unit_plan.specs.Lost.{of_piece}
use Rattle.unit_plan.specs.Pieces.{blocks_of, claimed}
use Rattle.unit_plan.specs.declared.piece.Piece.{Piece}
use Rattle.claim_laws.proofs.Words.{flag_again}

pub claims_both : (ps qs : List Piece) → claims_of (ps ++ qs) ≡ claims_of ps ++ claims_of qs
claims_both ps qs = flat_map-append (λ p. map (claimed_at p) (numbers 0 p.run.count)) ps qs

-- blocks of a piece whose offsets count up with them
pub row : (p : Piece) → is_fork_data p.owner p.word ≡ true → (i n b w : ℕ) → b ≡ p.run.start + i → w ≡ p.word + i → map (claimed_at p) (numbers i n) ≡ mapped_blocks p.claim p.owner b w n
row p fd i zero b w eb ew = refl
row p fd i (suc n) b w eb ew =
    let word : (tuple_at (of_piece p) i).word ≡ w = ap (λ (t : Bool). if t then p.word + i else p.word) fd ∙ sym ew in
    let rest = row p fd (i + 1) n (b + 1) (w + 1) (omega (arith, eb)) (omega (arith, ew)) in
    λ j. record { block = sym eb j; claim = p.claim; owner = p.owner; word = word j } ∷ rest j

-- ---- what an overlap asks of the blocks

abbrev pub said : List Piece → List (ℕ × (Claim × Bool))
said ps = map seen (blocks_of ps)

-- each block is written as the piece is
abbrev pub Steady : Piece → Type 0
Steady p = (i : ℕ) → i < p.run.count → is_written_data (claimed_at p i) ≡ is_written_data (claimed p (p.run.start + i))

abbrev pub AllSteady : List Piece → Type 0
AllSteady [] = ⊤
AllSteady (p ∷ ps) = Steady p × AllSteady ps

pub steady_both : (ps qs : List Piece) → AllSteady ps → AllSteady qs → AllSteady (ps ++ qs)
steady_both [] qs h k = k
steady_both (p ∷ ps) qs h k = (h.0, steady_both ps qs h.1 k)

by_word : (c d : Claimed) → c.claim ≡ d.claim → is_unwritten c.word ≡ is_unwritten d.word → is_written_data c ≡ is_written_data d
unfolding is_written_data
by_word c d e u = λ i. is_data (e i) && not (u i)

not_data : (c : Claimed) → is_data c.claim ≡ false → is_written_data c ≡ false
unfolding is_written_data
not_data c h = ap (λ (b : Bool). b && not (is_unwritten c.word)) h

pub steady_other : (p : Piece) → is_data p.claim ≡ false → Steady p
steady_other p h = λ i lt. not_data (claimed_at p i) h ∙ sym (not_data (claimed p (p.run.start + i)) h)

pub steady_data : (p : Piece) → ((i : ℕ) → i < p.run.count → is_unwritten (tuple_at (of_piece p) i).word ≡ is_unwritten p.word) → Steady p
steady_data p h = λ i lt. by_word (claimed_at p i) (claimed p (p.run.start + i)) refl (h i lt ∙ sym (flag_again (is_unwritten p.word)))

each_said : (p : Piece) → Steady p → (i n b : ℕ) → b ≡ p.run.start + i → i + n ≤ p.run.count → map seen (map (claimed p) (numbers b n)) ≡ map seen (map (claimed_at p) (numbers i n))
each_said p steady i zero b e le = refl
each_said p steady i (suc n) b e le =
    let w : is_written_data (claimed p b) ≡ is_written_data (claimed_at p i) = ap (λ (x : ℕ). is_written_data (claimed p x)) e ∙ sym (steady i (omega (arith, le))) in
    let rest = each_said p steady (i + 1) n (b + 1) (omega (arith, e)) (omega (arith, le)) in
    λ j. (e j, (p.claim, w j)) ∷ rest j

pub all_said : (ps : List Piece) → AllSteady ps → said ps ≡ map seen (claims_of ps)
all_said [] h = refl
all_said (p ∷ ps) h =
    map-append seen (map (claimed p) (numbers p.run.start p.run.count)) (blocks_of ps)
    ∙ ((λ j. each_said p h.0 0 p.run.count p.run.start (omega arith) (omega arith) j ++ all_said ps h.1 j)
    ∙ sym (map-append seen (map (claimed_at p) (numbers 0 p.run.count)) (claims_of ps)))

-- ---- tuples

row_has : (p : Piece) (i n j : ℕ) → i ≤ j → j < i + n → Contains (map tuple_of (map (claimed_at p) (numbers i n))) (tuple_at (of_piece p) j)
row_has p i zero j low high = absurd (omega (arith, low, high))
row_has p i (suc n) j low high = elim (cases_eq i j) [
  | inl is ↦ subst (λ (k : ℕ). Contains (map tuple_of (map (claimed_at p) (numbers i (suc n)))) (tuple_at (of_piece p) k)) is (in_front (tuple_at (of_piece p) i) (map tuple_of (map (claimed_at p) (numbers (i + 1) n))))
  | inr ne ↦ in_rest (tuple_at (of_piece p) i) (map tuple_of (map (claimed_at p) (numbers (i + 1) n))) (tuple_at (of_piece p) j) (row_has p (i + 1) n j (omega (arith, low, ne)) (omega (arith, high)))
]

row_only : (p : Piece) (i n : ℕ) (t : Tuple) → Contains (map tuple_of (map (claimed_at p) (numbers i n))) t → (j : ℕ) × (j < i + n) × (tuple_at (of_piece p) j ≡ t)
row_only p i zero t c = absurd (nothing_in t c)
row_only p i (suc n) t c = elim (in_either (tuple_at (of_piece p) i) (map tuple_of (map (claimed_at p) (numbers (i + 1) n))) t c) [
  | inl is ↦ (i, omega arith, is)
  | inr d ↦ let r = row_only p (i + 1) n t d in let l = r.1 in (r.0, omega (arith, l), r.2)
]

abbrev tuples_in : Piece → List Tuple
tuples_in p = map tuple_of (map (claimed_at p) (numbers 0 p.run.count))

parts : (p : Piece) (ps : List Piece) → map tuple_of (claims_of (p ∷ ps)) ≡ tuples_in p ++ map tuple_of (claims_of ps)
parts p ps = map-append tuple_of (map (claimed_at p) (numbers 0 p.run.count)) (claims_of ps)

tuples_have : (ps : List Piece) (r : RmapRec) → Contains (map of_piece ps) r → (t : Tuple) → IsOf r t → Contains (map tuple_of (claims_of ps)) t
tuples_have [] r c t h = absurd (nothing_in r c)
tuples_have (p ∷ ps) r c t h = subst (λ (ts : List Tuple). Contains ts t) (sym (parts p ps)) (elim (in_either (of_piece p) (map of_piece ps) r c) [
  | inl is ↦
      let q : IsOf (of_piece p) t = subst (λ (x : RmapRec). IsOf x t) (sym is) h in
      let l = q.1 in
      Contains-append_left (tuples_in p) (map tuple_of (claims_of ps)) t (subst (Contains (tuples_in p)) q.2 (row_has p 0 p.run.count q.0 (omega arith) (omega (arith, l))))
  | inr d ↦ Contains-append_right (tuples_in p) (map tuple_of (claims_of ps)) t (tuples_have ps r d t h)
])

tuples_only : (ps : List Piece) (t : Tuple) → Contains (map tuple_of (claims_of ps)) t → (r : RmapRec) × Contains (map of_piece ps) r × IsOf r t
tuples_only [] t c = absurd (nothing_in t c)
tuples_only (p ∷ ps) t c = elim (Contains-append_cases (tuples_in p) (map tuple_of (claims_of ps)) t (subst (λ (ts : List Tuple). Contains ts t) (parts p ps) c)) [
  | inl d ↦ (let r = row_only p 0 p.run.count t d in let l = r.1 in (of_piece p, in_front (of_piece p) (map of_piece ps), (r.0, omega (arith, l), r.2)))
  | inr d ↦ let r = tuples_only ps t d in (r.0, in_rest (of_piece p) (map of_piece ps) r.0 r.1, r.2)
]

pub tuples_are : (ps : List Piece) → AreTuplesOf (map tuple_of (claims_of ps)) (map of_piece ps)
tuples_are ps = record { has = tuples_have ps; only = tuples_only ps }

pub tuples_move : (ts : List Tuple) (ps qs : List Piece) → IsPermutation ps qs → AreTuplesOf ts (map of_piece qs) → AreTuplesOf ts (map of_piece ps)
tuples_move ts ps qs same are =
    let moved = IsPermutation-map of_piece ps qs same in
    record {
      has = λ r c t h. are.has r (Contains-permutation (map of_piece ps) (map of_piece qs) r moved c) t h;
      only = λ t c. (let of = are.only t c in (of.0, Contains-permutation (map of_piece qs) (map of_piece ps) of.0 (IsPermutation-sym (map of_piece ps) (map of_piece qs) moved) of.1, of.2));
    }

-- ---- no two tuples tie

same_start : (a b c x y z : ℕ) → is_first a x (is_first b y (nat_lt c z)) ≡ false → is_first x a (is_first y b (nat_lt z c)) ≡ false → a ≡ x
same_start a b c x y z h k = grind (arith, nat_tests)

same_owner : (a b c x y z : ℕ) → a ≡ x → is_first a x (is_first b y (nat_lt c z)) ≡ false → is_first x a (is_first y b (nat_lt z c)) ≡ false → b ≡ y
same_owner a b c x y z e h k = grind (arith, nat_tests)

same_word : (a b c x y z : ℕ) → a ≡ x → b ≡ y → is_first a x (is_first b y (nat_lt c z)) ≡ false → is_first x a (is_first y b (nat_lt z c)) ≡ false → c ≡ z
same_word a b c x y z e f h k = grind (arith, nat_tests)

same_keys : (t u : Tuple) → is_tuple_before t u ≡ false → is_tuple_before u t ≡ false → key_for t ≡ key_for u
unfolding is_key_before
same_keys t u h k =
    let a = same_start t.block t.owner (key_word t.word) u.block u.owner (key_word u.word) h k in
    let b = same_owner t.block t.owner (key_word t.word) u.block u.owner (key_word u.word) a h k in
    let c = same_word t.block t.owner (key_word t.word) u.block u.owner (key_word u.word) a b h k in
    λ i. record { start = a i; owner = b i; word = c i }

module _ (ps : List Piece) (ts : List Tuple) (once : ClaimOnce ps) (are : AreTuplesOf ts (map of_piece ps)) where
  one_place : (p q : RmapRec) (k : Key) → Contains (map of_piece ps) p → Contains (map of_piece ps) q → has_key k p ≡ true → has_key k q ≡ true → p ≡ q
  one_place p q k c e hp hq =
      let at_q : get_or (map of_piece ps) e.0 p ≡ q = same_default (map of_piece ps) e.0 p q e.1 ∙ e.2 in
      let at_one : has_key k (get_or (map of_piece ps) c.0 p) ≡ true = ap (has_key k) c.2 ∙ hp in
      let at_other : has_key k (get_or (map of_piece ps) e.0 p) ≡ true = ap (has_key k) at_q ∙ hq in
      let le = once.once k in
      elim (cases_order c.0 e.0) [
        | inl is ↦ sym c.2 ∙ (ap (λ (n : ℕ). get_or (map of_piece ps) n p) is ∙ at_q)
        | inr (inl below) ↦ absurd (let two = two_found (has_key k) (map of_piece ps) c.0 e.0 p below e.1 at_one at_other in omega (arith, two, le))
        | inr (inr above) ↦ absurd (let two = two_found (has_key k) (map of_piece ps) e.0 c.0 p above c.1 at_other at_one in omega (arith, two, le))
      ]

  one_tuple : (t u : Tuple) → Contains ts t → Contains ts u → key_for t ≡ key_for u → t ≡ u
  one_tuple t u c e same =
      let p = are.only t c in
      let q = are.only u e in
      let one : p.0 ≡ q.0 = one_place p.0 q.0 (key_for t) p.1 q.1 (has_of p.0 t p.2) (ap (λ (k : Key). has_key k q.0) same ∙ has_of q.0 u q.2) in
      let i = p.2 in
      let j = q.2 in
      let left : p.0.start + i.0 ≡ t.block = ap (λ (x : Tuple). x.block) i.2 in
      let right : q.0.start + j.0 ≡ u.block = ap (λ (x : Tuple). x.block) j.2 in
      let blocks : t.block ≡ u.block = ap (λ (k : Key). k.start) same in
      let starts : p.0.start ≡ q.0.start = ap (λ (r : RmapRec). r.start) one in
      let places : i.0 ≡ j.0 = omega (arith, left, right, blocks, starts) in
      sym i.2 ∙ ((λ n. tuple_at (one n) (places n)) ∙ j.2)

  pub untied : AreUntied ts
  untied t u c e = (elim (is_tuple_before t u) as (λ b. is_tuple_before t u ≡ b → (t ≡ u) ⊎ ((is_tuple_before t u ≡ true) ⊎ (is_tuple_before u t ≡ true))) [
    | true ↦ λ h. inr (inl h)
    | false ↦ λ h. (elim (is_tuple_before u t) as (λ b. is_tuple_before u t ≡ b → (t ≡ u) ⊎ ((is_tuple_before t u ≡ true) ⊎ (is_tuple_before u t ≡ true))) [
      | true ↦ λ k. inr (inr k)
      | false ↦ λ k. inl (one_tuple t u c e (same_keys t u h k))
    ]) refl
  ]) refl

  pub next : HaveNext ts
  next k d lt =
      let p = are.only (get_or ts k d) (at_place ts k d lt) in
      let i = p.2 in
      let within = i.1 in
      let room = (All-contains HasRoom (map of_piece ps) p.0 once.rooms p.1).1 in
      let at : p.0.start + i.0 ≡ (get_or ts k d).block = ap (λ (x : Tuple). x.block) i.2 in
      omega (arith, within, room, at)
