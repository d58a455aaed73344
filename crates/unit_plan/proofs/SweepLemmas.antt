-- A sweep along pieces that rise by their first block meets the lowest block on which two can't stand together.
use Rattle.std.proofs.Common.{◌≡◌, ℕ, suc, ◌+◌, ◌<◌, ◌≤◌, ◌⊎◌, Bool, true, false, cond, List, [], ◌∷◌, length, get_or, max, Option, Some, None, refl, sym, ◌∙◌, inl, inr, arith}
use Rattle.std.specs.Prelude.{◌&&◌, nat_lt, nat_le, if◌then◌else◌}
use Rattle.std.specs.List.Sorted.{IsNonDecreasingBy}
use Rattle.std.proofs.lemmas.Bool.{and_parts, and_cases, and_left, and_right, and_from, leb-true, leb-false, ltb-true, ltb-false, le-leb, lt-ltb, lt-leb, le-ltb, cond-false, false≢true, cases_lt}
use Rattle.run_sets.specs.Runs.{is_within}
use Rattle.unit_plan.specs.declared.piece.Among.{Among}
use Rattle.unit_plan.specs.declared.piece.Piece.{Piece}
use Rattle.unit_plan.specs.Pieces.{has_block, is_hard, is_looked_at}
use Rattle.unit_plan.specs.Sweep.{swept}
use Rattle.unit_plan.proofs.Counting.{many, many_both}

-- ---- pieces in the order of their first blocks

abbrev pub BeginFrom : ℕ → List Piece → Type 0
BeginFrom s [] = Unit {0}
BeginFrom s (p ∷ ps) = (s ≤ p.run.start) × BeginFrom s ps

abbrev pub Rising : List Piece → Type 0
Rising [] = Unit {0}
Rising (p ∷ ps) = BeginFrom p.run.start ps × Rising ps

begin_from : (s : ℕ) (ps : List Piece) → ((j : ℕ) (d : Piece) → j < length ps → s ≤ (get_or ps j d).run.start) → BeginFrom s ps
begin_from s [] h = tt
begin_from s (q ∷ qs) h = (h 0 q (omega arith), begin_from s qs (λ j d lt. h (suc j) d (omega (arith, lt))))

pub rising : (ps : List Piece) → IsNonDecreasingBy (λ p. p.run.start) ps → Rising ps
rising [] up = tt
rising (p ∷ ps) up = (
  begin_from p.run.start ps (λ j d lt. up 0 (suc j) d (omega arith) (omega (arith, lt))),
  rising ps (λ i j d le lt. up (suc i) (suc j) d (omega (arith, le)) (omega (arith, lt))),
)

-- ---- how many of the pieces have a block, and how many of these stand beside no other

abbrev pub there : Among → List Piece → ℕ → ℕ
there among ps b = many (has_block among b) ps

abbrev pub hard_there : Among → List Piece → ℕ → ℕ
hard_there among ps b = many (λ p. has_block among b p && is_hard p) ps

pub fewer : (among : Among) (ps : List Piece) (b : ℕ) → hard_there among ps b ≤ there among ps b
fewer among ps b = many_both (has_block among b) is_hard ps

has_true : (among : Among) (b : ℕ) (p : Piece) → has_block among b p ≡ true → (p.run.start ≤ b) × (b < p.run.start + p.run.count)
has_true among b p h =
    let within = and_parts (is_looked_at among p.claim) (is_within b p.run) h in
    let ends = and_parts (nat_le p.run.start b) (nat_lt b (p.run.start + p.run.count)) within.1 in
    (leb-true p.run.start b ends.0, ltb-true b (p.run.start + p.run.count) ends.1)

has_false : (among : Among) (b : ℕ) (p : Piece) → is_looked_at among p.claim ≡ true → has_block among b p ≡ false → (b < p.run.start) ⊎ (p.run.start + p.run.count ≤ b)
has_false among b p looked h = elim (and_cases (is_looked_at among p.claim) (is_within b p.run) h) [
  | inl absent ↦ absurd (false≢true (sym absent ∙ looked))
  | inr out ↦ elim (and_cases (nat_le p.run.start b) (nat_lt b (p.run.start + p.run.count)) out) [
    | inl front ↦ inl (leb-false p.run.start b front)
    | inr back ↦ inr (ltb-false b (p.run.start + p.run.count) back)
  ]
]

in_front : (among : Among) (b : ℕ) (p : Piece) → b < p.run.start → has_block among b p ≡ false
in_front among b p lt =
    and_right (is_looked_at among p.claim) (is_within b p.run) (and_left (nat_le p.run.start b) (nat_lt b (p.run.start + p.run.count)) (lt-leb p.run.start b lt))

none_in_front : (among : Among) (s : ℕ) (ps : List Piece) (b : ℕ) → BeginFrom s ps → b < s → there among ps b ≡ 0
none_in_front among s [] b from lt = refl
none_in_front among s (p ∷ ps) b from lt =
    let ge = from.0 in
    cond-false (has_block among b p) (1 + there among ps b) (there among ps b) (in_front among b p (omega (arith, lt, ge))) ∙ none_in_front among s ps b from.1 lt

not_looked : (among : Among) (b : ℕ) (p : Piece) → (is_looked_at among p.claim && nat_lt 0 p.run.count) ≡ false → has_block among b p ≡ false
not_looked among b p h = elim (and_cases (is_looked_at among p.claim) (nat_lt 0 p.run.count) h) [
  | inl absent ↦ and_left (is_looked_at among p.claim) (is_within b p.run) absent
  | inr none ↦ and_right (is_looked_at among p.claim) (is_within b p.run) (empty b p.run.start p.run.count (ltb-false 0 p.run.count none))
]
  where
    empty : (b s n : ℕ) → n ≤ 0 → (nat_le s b && nat_lt b (s + n)) ≡ false
    empty b s n none = elim (cases_lt b s) [
      | inl front ↦ and_left (nat_le s b) (nat_lt b (s + n)) (lt-leb s b front)
      | inr on ↦ and_right (nat_le s b) (nat_lt b (s + n)) (le-ltb b (s + n) (omega (arith, on, none)))
    ]

-- ---- one block, where some pieces were passed of which all end below one number, and the hard ones below another

-- no two can't stand together: of a pieces left h are hard
abbrev pub ClearAt : ℕ → ℕ → ℕ → ℕ → ℕ → Type 0
ClearAt b end hard a h = (0 < h → a ≤ 1) × (b < end → h ≡ 0) × (b < hard → a ≡ 0)

abbrev pub HitAt : ℕ → ℕ → ℕ → ℕ → ℕ → Type 0
HitAt b end hard a h = ((1 < a) × (0 < h)) ⊎ (((b < end) × (0 < h)) ⊎ ((b < hard) × (0 < a)))

abbrev more_hard : Bool → ℕ → ℕ → ℕ
more_hard t hard e = if t then max hard e else hard

abbrev reach_of : Bool → ℕ → ℕ → ℕ
reach_of t end hard = if t then end else hard

clear_on : (t : Bool) (b s e end hard m n a h : ℕ) → hard ≤ end → n ≤ m → reach_of t end hard ≤ s → s ≤ b → b < e → a ≡ 1 + m → h ≡ cond t (1 + n) n → ClearAt b (max end e) (more_hard t hard e) m n → ClearAt b end hard a h
clear_on true b s e end hard m n a h le few met on in_it ea eh c =
    let none : m ≡ 0 = c.2 (omega (arith, in_it)) in
    ((λ some. omega (arith, none, ea)), (λ lt. absurd (omega (arith, lt, met, on))), (λ lt. absurd (omega (arith, lt, le, met, on))))
clear_on false b s e end hard m n a h le few met on in_it ea eh c =
    let none : n ≡ 0 = c.1 (omega (arith, in_it)) in
    ((λ some. absurd (omega (arith, none, eh, some))), (λ lt. omega (arith, none, eh)), (λ lt. absurd (omega (arith, lt, met, on))))

clear_past : (t : Bool) (b e end hard m n a h : ℕ) → a ≡ m → h ≡ n → ClearAt b (max end e) (more_hard t hard e) m n → ClearAt b end hard a h
clear_past true b e end hard m n a h ea eh c = (
  (λ some. let k = c.0 (omega (arith, some, eh)) in omega (arith, k, ea)),
  (λ lt. let k = c.1 (omega (arith, lt)) in omega (arith, k, eh)),
  (λ lt. let k = c.2 (omega (arith, lt)) in omega (arith, k, ea)),
)
clear_past false b e end hard m n a h ea eh c = (
  (λ some. let k = c.0 (omega (arith, some, eh)) in omega (arith, k, ea)),
  (λ lt. let k = c.1 (omega (arith, lt)) in omega (arith, k, eh)),
  (λ lt. let k = c.2 lt in omega (arith, k, ea)),
)

clear_empty : (b end hard a h : ℕ) → a ≡ 0 → h ≤ a → ClearAt b end hard a h
clear_empty b end hard a h ea few = ((λ some. omega (arith, ea)), (λ lt. omega (arith, ea, few)), (λ lt. ea))

hit_on : (t : Bool) (b e end hard m n a h : ℕ) → n ≤ m → a ≡ 1 + m → h ≡ cond t (1 + n) n → HitAt b (max end e) (more_hard t hard e) m n → HitAt b end hard a h
hit_on true b e end hard m n a h few ea eh (inl p) = let x = p.0 in inl (omega (arith, x, ea), omega (arith, eh))
hit_on true b e end hard m n a h few ea eh (inr (inl p)) = let x = p.1 in inl (omega (arith, x, few, ea), omega (arith, eh))
hit_on true b e end hard m n a h few ea eh (inr (inr p)) = let x = p.1 in inl (omega (arith, x, ea), omega (arith, eh))
hit_on false b e end hard m n a h few ea eh (inl p) = let x = p.0 in let y = p.1 in inl (omega (arith, x, ea), omega (arith, y, eh))
hit_on false b e end hard m n a h few ea eh (inr (inl p)) = let x = p.1 in inl (omega (arith, x, few, ea), omega (arith, x, eh))
hit_on false b e end hard m n a h few ea eh (inr (inr p)) = inr (inr (p.0, omega (arith, ea)))

hit_past : (t : Bool) (b e end hard m n a h : ℕ) → e ≤ b → a ≡ m → h ≡ n → HitAt b (max end e) (more_hard t hard e) m n → HitAt b end hard a h
hit_past t b e end hard m n a h out ea eh (inl p) = let x = p.0 in let y = p.1 in inl (omega (arith, x, ea), omega (arith, y, eh))
hit_past t b e end hard m n a h out ea eh (inr (inl p)) = let x = p.0 in let y = p.1 in inr (inl (omega (arith, x, out), omega (arith, y, eh)))
hit_past true b e end hard m n a h out ea eh (inr (inr p)) = let x = p.0 in let y = p.1 in inr (inr (omega (arith, x, out), omega (arith, y, ea)))
hit_past false b e end hard m n a h out ea eh (inr (inr p)) = let y = p.1 in inr (inr (p.0, omega (arith, y, ea)))

none_hit : (b end hard m n : ℕ) → m ≡ 0 → n ≤ m → HitAt b end hard m n → ⊥
none_hit b end hard m n em few (inl p) = let x = p.0 in omega (arith, x, em)
none_hit b end hard m n em few (inr (inl p)) = let x = p.1 in omega (arith, x, em, few)
none_hit b end hard m n em few (inr (inr p)) = let x = p.1 in omega (arith, x, em)

-- ---- one piece more in front

off_count : (has t : Bool) (m n : ℕ) → has ≡ false → (cond has (1 + m) m ≡ m) × (cond (has && t) (1 + n) n ≡ n)
off_count true t m n h = absurd (false≢true (sym h))
off_count false t m n h = (refl, refl)

on_count : (has t : Bool) (m n : ℕ) → has ≡ true → (cond has (1 + m) m ≡ 1 + m) × (cond (has && t) (1 + n) n ≡ cond t (1 + n) n)
on_count true t m n h = (refl, refl)
on_count false t m n h = absurd (false≢true h)

module _ (among : Among) (p : Piece) (ps : List Piece) (from : BeginFrom p.run.start ps) where
  abbrev end_of : ℕ
  end_of = p.run.start + p.run.count

  abbrev Now : (ℕ → ℕ → ℕ → ℕ → ℕ → Type 0) → ℕ → ℕ → ℕ → Type 0
  Now At end hard b = At b end hard (there among (p ∷ ps) b) (hard_there among (p ∷ ps) b)

  abbrev Rest : (ℕ → ℕ → ℕ → ℕ → ℕ → Type 0) → ℕ → ℕ → ℕ → Type 0
  Rest At end hard b = At b end hard (there among ps b) (hard_there among ps b)

  front_clear : (end hard b : ℕ) → b < p.run.start → Now ClearAt end hard b
  front_clear end hard b lt =
      let off = off_count (has_block among b p) (is_hard p) (there among ps b) (hard_there among ps b) (in_front among b p lt) in
      clear_empty b end hard (there among (p ∷ ps) b) (hard_there among (p ∷ ps) b) (off.0 ∙ none_in_front among p.run.start ps b from lt) (fewer among (p ∷ ps) b)

  past_clear : (end hard b : ℕ) → has_block among b p ≡ false → Rest ClearAt (max end end_of) (more_hard (is_hard p) hard end_of) b → Now ClearAt end hard b
  past_clear end hard b absent c =
      let off = off_count (has_block among b p) (is_hard p) (there among ps b) (hard_there among ps b) absent in
      clear_past (is_hard p) b end_of end hard (there among ps b) (hard_there among ps b) (there among (p ∷ ps) b) (hard_there among (p ∷ ps) b) off.0 off.1 c

  on_clear : (end hard b : ℕ) → hard ≤ end → reach_of (is_hard p) end hard ≤ p.run.start → has_block among b p ≡ true → Rest ClearAt (max end end_of) (more_hard (is_hard p) hard end_of) b → Now ClearAt end hard b
  on_clear end hard b le met stands c =
      let on = on_count (has_block among b p) (is_hard p) (there among ps b) (hard_there among ps b) stands in
      let ends = has_true among b p stands in
      clear_on (is_hard p) b p.run.start end_of end hard (there among ps b) (hard_there among ps b) (there among (p ∷ ps) b) (hard_there among (p ∷ ps) b) le (fewer among ps b) met ends.0 ends.1 on.0 on.1 c

  pub clear_more : (end hard b : ℕ) → hard ≤ end → reach_of (is_hard p) end hard ≤ p.run.start → Rest ClearAt (max end end_of) (more_hard (is_hard p) hard end_of) b → Now ClearAt end hard b
  clear_more end hard b le met c = (elim (has_block among b p) as (λ t. has_block among b p ≡ t → Now ClearAt end hard b) [
    | true ↦ λ stands. on_clear end hard b le met stands c
    | false ↦ λ absent. past_clear end hard b absent c
  ]) refl

  pub hit_more : (end hard b : ℕ) → is_looked_at among p.claim ≡ true → Rest HitAt (max end end_of) (more_hard (is_hard p) hard end_of) b → Now HitAt end hard b
  hit_more end hard b looked c = (elim (has_block among b p) as (λ t. has_block among b p ≡ t → Now HitAt end hard b) [
    | true ↦ λ stands.
        let on = on_count (has_block among b p) (is_hard p) (there among ps b) (hard_there among ps b) stands in
        hit_on (is_hard p) b end_of end hard (there among ps b) (hard_there among ps b) (there among (p ∷ ps) b) (hard_there among (p ∷ ps) b) (fewer among ps b) on.0 on.1 c
    | false ↦ λ absent.
        let off = off_count (has_block among b p) (is_hard p) (there among ps b) (hard_there among ps b) absent in
        elim (has_false among b p looked absent) [
          | inl front ↦ absurd (none_hit b (max end end_of) (more_hard (is_hard p) hard end_of) (there among ps b) (hard_there among ps b) (none_in_front among p.run.start ps b from front) (fewer among ps b) c)
          | inr out ↦ hit_past (is_hard p) b end_of end hard (there among ps b) (hard_there among ps b) (there among (p ∷ ps) b) (hard_there among (p ∷ ps) b) out off.0 off.1 c
        ]
  ]) refl

  -- what was passed reaches the first block of the piece
  pub hit_here : (end hard : ℕ) → has_block among p.run.start p ≡ true → p.run.start < reach_of (is_hard p) end hard → Now HitAt end hard p.run.start
  hit_here end hard stands lt =
      let on = on_count (has_block among p.run.start p) (is_hard p) (there among ps p.run.start) (hard_there among ps p.run.start) stands in
      met (is_hard p) p.run.start end hard (there among ps p.run.start) (hard_there among ps p.run.start) (there among (p ∷ ps) p.run.start) (hard_there among (p ∷ ps) p.run.start) lt on.0 on.1
    where
      met : (t : Bool) (s end hard m n a h : ℕ) → s < reach_of t end hard → a ≡ 1 + m → h ≡ cond t (1 + n) n → HitAt s end hard a h
      met true s end hard m n a h lt ea eh = inr (inl (lt, omega (arith, eh)))
      met false s end hard m n a h lt ea eh = inr (inr (lt, omega (arith, ea)))

  -- a piece that isn't looked at, or has no block
  same_clear : (end hard b : ℕ) → has_block among b p ≡ false → Rest ClearAt end hard b → Now ClearAt end hard b
  same_clear end hard b absent c =
      let off = off_count (has_block among b p) (is_hard p) (there among ps b) (hard_there among ps b) absent in
      let e = off.0 in
      let f = off.1 in
      ((λ some. let k = c.0 (omega (arith, some, f)) in omega (arith, k, e)), (λ lt. f ∙ c.1 lt), (λ lt. e ∙ c.2 lt))

  same_hit : (end hard b : ℕ) → has_block among b p ≡ false → Rest HitAt end hard b → Now HitAt end hard b
  same_hit end hard b absent c =
      let off = off_count (has_block among b p) (is_hard p) (there among ps b) (hard_there among ps b) absent in
      kept b end hard (there among ps b) (hard_there among ps b) (there among (p ∷ ps) b) (hard_there among (p ∷ ps) b) off.0 off.1 c
    where
      kept : (b end hard m n a h : ℕ) → a ≡ m → h ≡ n → HitAt b end hard m n → HitAt b end hard a h
      kept b end hard m n a h e f (inl q) = let x = q.0 in let y = q.1 in inl (omega (arith, x, e), omega (arith, y, f))
      kept b end hard m n a h e f (inr (inl q)) = let y = q.1 in inr (inl (q.0, omega (arith, y, f)))
      kept b end hard m n a h e f (inr (inr q)) = let y = q.1 in inr (inr (q.0, omega (arith, y, e)))

-- ---- the whole sweep

-- nothing was met, or this is the lowest block of all where something is
abbrev pub Found : Among → ℕ → ℕ → List Piece → Option ℕ → Type 0
Found among end hard ps None = (b : ℕ) → ClearAt b end hard (there among ps b) (hard_there among ps b)
Found among end hard ps (Some s) = HitAt s end hard (there among ps s) (hard_there among ps s) × ((b : ℕ) → b < s → ClearAt b end hard (there among ps b) (hard_there among ps b))

lift : (among : Among) (end hard next next_hard : ℕ) (p : Piece) (ps : List Piece)
    → ((b : ℕ) → ClearAt b next next_hard (there among ps b) (hard_there among ps b) → ClearAt b end hard (there among (p ∷ ps) b) (hard_there among (p ∷ ps) b))
    → ((b : ℕ) → HitAt b next next_hard (there among ps b) (hard_there among ps b) → HitAt b end hard (there among (p ∷ ps) b) (hard_there among (p ∷ ps) b))
    → (o : Option ℕ) → Found among next next_hard ps o → Found among end hard (p ∷ ps) o
lift among end hard next next_hard p ps clear hit None f = λ b. clear b (f b)
lift among end hard next next_hard p ps clear hit (Some s) f = (hit s f.0, λ b lt. clear b (f.1 b lt))

stays_less : (t : Bool) (end hard e : ℕ) → hard ≤ end → more_hard t hard e ≤ max end e
stays_less true end hard e le = omega (arith, le)
stays_less false end hard e le = omega (arith, le)

begins : (among : Among) (p : Piece) → (is_looked_at among p.claim && nat_lt 0 p.run.count) ≡ true → has_block among p.run.start p ≡ true
begins among p h =
    let both = and_parts (is_looked_at among p.claim) (nat_lt 0 p.run.count) h in
    let some = ltb-true 0 p.run.count both.1 in
    and_from (is_looked_at among p.claim) (is_within p.run.start p.run) both.0
    (and_from (nat_le p.run.start p.run.start) (nat_lt p.run.start (p.run.start + p.run.count)) (le-leb p.run.start p.run.start (omega arith)) (lt-ltb p.run.start (p.run.start + p.run.count) (omega (arith, some))))

pub swept_is : (among : Among) (ps : List Piece) (end hard : ℕ) → hard ≤ end → Rising ps → Found among end hard ps (swept among end hard ps)
swept_is among [] end hard le up = λ b. ((λ some. omega arith), (λ lt. refl), (λ lt. refl))
swept_is among (p ∷ ps) end hard le up =
    let e : ℕ = p.run.start + p.run.count in
    let next : ℕ = max end (p.run.start + p.run.count) in
    let next_hard : ℕ = more_hard (is_hard p) hard (p.run.start + p.run.count) in
    let looked : Bool = is_looked_at among p.claim && nat_lt 0 p.run.count in
    let meets : Bool = nat_lt p.run.start (reach_of (is_hard p) end hard) in
    (elim looked as (λ t. looked ≡ t → Found among end hard (p ∷ ps) (if t then (if meets then Some p.run.start else swept among next next_hard ps) else swept among end hard ps)) [
      | true ↦ λ stands. (elim meets as (λ t. meets ≡ t → Found among end hard (p ∷ ps) (if t then Some p.run.start else swept among next next_hard ps)) [
        | true ↦ λ met. (hit_here among p ps up.0 end hard (begins among p stands) (ltb-true p.run.start (reach_of (is_hard p) end hard) met), λ b lt. front_clear among p ps up.0 end hard b lt)
        | false ↦ λ not_met.
            lift among end hard next next_hard p ps
            (λ b c. clear_more among p ps up.0 end hard b le (ltb-false p.run.start (reach_of (is_hard p) end hard) not_met) c)
            (λ b c. hit_more among p ps up.0 end hard b (and_parts (is_looked_at among p.claim) (nat_lt 0 p.run.count) stands).0 c)
            (swept among next next_hard ps) (swept_is among ps next next_hard (stays_less (is_hard p) end hard e le) up.1)
      ]) refl
      | false ↦ λ absent.
          lift among end hard end hard p ps
          (λ b c. same_clear among p ps up.0 end hard b (not_looked among b p absent) c)
          (λ b c. same_hit among p ps up.0 end hard b (not_looked among b p absent) c)
          (swept among end hard ps) (swept_is among ps end hard le up.1)
    ]) refl
