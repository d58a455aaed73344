-- The first allocated inode of chunks in order is the least.
use Rattle.std.proofs.Common.{◌≡◌, ℕ, zero, suc, ◌+◌, ◌%◌, ◌<◌, ◌≤◌, Bool, true, false, not, ◌&&◌, ◌==◌, ◌⊎◌, List, [], ◌∷◌, length, get_or, Contains, Option, Some, None, refl, sym, ◌∙◌, subst, inl, inr, arith, eqb-true}
use Rattle.std.specs.Prelude.{nat_le, nat_lt, cond, MatchOption}
use Rattle.std.proofs.lemmas.Bool.{false≢true, cases_lt}
use Rattle.std.proofs.lemmas.Bool.Decides.{nat_tests}
use Rattle.ino_recs.specs.Chunks.{ino_form, is_ino_in_range}
use Rattle.ino_recs.specs.ChunkLaws.{lawful_ino}
use Rattle.ino_recs.specs.declared.chunk.InoRec.{InoRec}
use Rattle.sblock.specs.Blocks.{IsRising, AllInside}
use Rattle.sblock.specs.declared.block.Bounds.{Bounds}
use Rattle.sblock.specs.Lists.{Each, IsAhead, Rises}
use Rattle.inode_scan.specs.Chunk.{or_else, is_free, is_sought, first_slot, first_of, first_in}
use Rattle.inode_scan.specs.Least.{IsLeast, IsNone, FirstIsLeast}
use Rattle.inode_scan.proofs.ChunkLemmas.{sought_in}

-- ---- the elements of a list

module _ {A : Type 0} where
  pub nothing_in : (x : A) → Contains [] x → ⊥
  nothing_in x c = let within = c.1 in omega arith

  pub in_front : (x : A) (xs : List A) → Contains (x ∷ xs) x
  in_front x xs = (0, omega arith, refl)

  pub in_rest : (y : A) (xs : List A) (x : A) → Contains xs x → Contains (y ∷ xs) x
  in_rest y xs x c = let within = c.1 in (suc c.0, omega arith, c.2)

  place_in : (y : A) (xs : List A) (x : A) (k : ℕ) → k < length (y ∷ xs) → get_or (y ∷ xs) k x ≡ x → (y ≡ x) ⊎ Contains xs x
  place_in y xs x zero within here = inl here
  place_in y xs x (suc k) within here = inr (k, omega arith, here)

  pub in_either : (y : A) (xs : List A) (x : A) → Contains (y ∷ xs) x → (y ≡ x) ⊎ Contains xs x
  in_either y xs x c = place_in y xs x c.0 c.1 c.2

  module _ (before : A → A → Bool) (along : (a b c : A) → before a b ≡ true → before b c ≡ true → before a c ≡ true) where
    ahead_of : (a b : A) (xs : List A) → before a b ≡ true → IsAhead before b xs → IsAhead before a xs
    ahead_of a b [] h ahead = tt
    ahead_of a b (x ∷ xs) h ahead = along a b x h ahead

    pub before_rest : (a : A) (xs : List A) → Rises before (a ∷ xs) → (x : A) → Contains xs x → before a x ≡ true
    before_rest a [] rises x c = absurd (nothing_in x c)
    before_rest a (y ∷ xs) rises x c = elim (in_either y xs x c) [
      | inl same ↦ subst (λ (z : A). before a z ≡ true) same rises.0
      | inr later ↦ before_rest a xs (ahead_of a y xs rises.0 rises.1.0, rises.1.1) x later
    ]

-- ---- the inodes of a chunk

module _ (from end : ℕ) (r : InoRec) where
  sought_by : (s : ℕ) → from ≤ r.startino + s → r.startino + s < end → is_free r s ≡ false → is_sought from end r s ≡ true
  unfolding is_sought
  sought_by s low high free =
      let a : nat_le from (r.startino + s) ≡ true = grind (arith, nat_tests) in
      let b : nat_lt (r.startino + s) end ≡ true = grind (arith, nat_tests) in
      rw (a, b, free) refl

  not_free : (s : ℕ) → is_sought from end r s ≡ true → is_free r s ≡ false
  unfolding is_sought
  not_free s h = by_last (nat_le from (r.startino + s)) (nat_lt (r.startino + s) end) (is_free r s) h
    where
      by_last : (a b c : Bool) → (a && b && not c) ≡ true → c ≡ false
      by_last true true true h = absurd (false≢true h)
      by_last true false true h = absurd (false≢true h)
      by_last false b true h = absurd (false≢true h)
      by_last a b false h = refl

  record Slot (n s x : ℕ) : Type 0 where
    at : ℕ
    above : s ≤ at
    within : at < s + n
    sought : is_sought from end r at ≡ true
    is : r.startino + at ≡ x
    sooner : (u : ℕ) → s ≤ u → u < at → is_sought from end r u ≡ false

  slot_some : (n s x : ℕ) → first_slot from end r n s ≡ Some x → Slot n s x
  unfolding first_slot
  slot_some zero s x h = cc
  slot_some (suc n) s x h = (elim (is_sought from end r s) as (λ b. is_sought from end r s ≡ b → cond b (Some (r.startino + s)) (first_slot from end r n (s + 1)) ≡ Some x → Slot (suc n) s x) [
    | true ↦ λ here is. record { at = s; above = omega arith; within = omega arith; sought = here; is = cc; sooner = λ u low high. absurd (omega (arith, low, high)) }
    | false ↦ λ other is.
        let on = slot_some n (s + 1) x is in
        let above = on.above in
        let within = on.within in
        record {
          at = on.at;
          above = omega (arith, above);
          within = omega (arith, within);
          sought = on.sought;
          is = on.is;
          sooner = λ u low high. elim (cases_lt s u) [
            | inl later ↦ on.sooner u (omega (arith, later)) high
            | inr same ↦ let e : s ≡ u = omega (arith, low, same) in subst (λ (v : ℕ). is_sought from end r v ≡ false) e other
          ];
        }
  ]) refl h

  slot_none : (n s : ℕ) → first_slot from end r n s ≡ None → (u : ℕ) → s ≤ u → u < s + n → is_sought from end r u ≡ false
  unfolding first_slot
  slot_none zero s h u low high = absurd (omega (arith, low, high))
  slot_none (suc n) s h u low high = (elim (is_sought from end r s) as (λ b. is_sought from end r s ≡ b → cond b (Some (r.startino + s)) (first_slot from end r n (s + 1)) ≡ None → is_sought from end r u ≡ false) [
    | true ↦ λ here is. cc
    | false ↦ λ other is. elim (cases_lt s u) [
      | inl later ↦ slot_none n (s + 1) is u (omega (arith, later)) (omega (arith, high))
      | inr same ↦ let e : s ≡ u = omega (arith, low, same) in subst (λ (v : ℕ). is_sought from end r v ≡ false) e other
    ]
  ]) refl h

first_part : (a b c d e : Bool) → (a && b && c && d && e) ≡ true → a ≡ true
first_part true b c d e h = refl
first_part false b c d e h = absurd (false≢true h)

aligned : (bounds : Bounds) (r : InoRec) → is_ino_in_range bounds r ≡ true → r.startino % 64 ≡ 0
unfolding is_ino_in_range
aligned bounds r h = eqb-true (r.startino % 64) 0 (first_part (r.startino % 64 == 0) _ _ _ _ h)

each_at : {A : Type 0} (test : A → Bool) (xs : List A) (x : A) → Each test xs → Contains xs x → test x ≡ true
each_at test [] x each c = absurd (nothing_in x c)
each_at test (y ∷ ys) x each c = elim (in_either y ys x c) [
  | inl same ↦ subst (λ z. test z ≡ true) same each.0
  | inr later ↦ each_at test ys x each.1 later
]

next_chunk : (a b : ℕ) → a % 64 ≡ 0 → b % 64 ≡ 0 → nat_lt a b ≡ true → a + 64 ≤ b
next_chunk a b x y h = let lt : a < b = grind (arith, nat_tests) in omega (arith, x, y, lt)

module _ (bounds : Bounds) (from end : ℕ) where
  abbrev Found : List InoRec → Option ℕ → Type 0
  Found rs o = MatchOption o (IsNone from end rs) (λ n. IsLeast from end rs n)

  module _ (r : InoRec) (rest : List InoRec) (rising : IsRising ino_form (r ∷ rest)) (inside : AllInside ino_form bounds (r ∷ rest)) where
    behind : (q : InoRec) → Contains rest q → r.startino + 64 ≤ q.startino
    behind q c =
        next_chunk r.startino q.startino (aligned bounds r inside.0) (aligned bounds q (each_at (is_ino_in_range bounds) rest q inside.1 c))
        (before_rest (λ a b. nat_lt a.startino b.startino) (λ a b x h i. lawful_ino.along (record { startino = a.startino }) (record { startino = b.startino }) (record { startino = x.startino }) h i) r rest rising q c)

    here_first : (x : ℕ) → first_of from end r ≡ Some x → IsLeast from end (r ∷ rest) x
    unfolding first_of
    here_first x h =
        let slot = slot_some from end r 64 0 x h in
        let range = sought_in from end r slot.at slot.sought in
        let is = slot.is in
        let within = slot.within in
        record {
          there = (r, slot.at, in_front r rest, omega (arith, within), not_free from end r slot.at slot.sought, is);
          low = (let low = range.0 in omega (arith, low, is));
          high = (let high = range.1 in omega (arith, high, is));
          least = λ k (q, u, c, lt, free, at) low high. elim (in_either r rest q c) [
            | inl same ↦
                let own : r.startino + u ≡ k = subst (λ (p : InoRec). p.startino + u ≡ k) (sym same) at in
                let mine : is_free r u ≡ false = subst (λ (p : InoRec). is_free p u ≡ false) (sym same) free in
                elim (cases_lt u slot.at) [
                  | inl sooner ↦ absurd (false≢true (sym (slot.sooner u (omega arith) sooner) ∙ sought_by from end r u (omega (arith, own, low)) (omega (arith, own, high)) mine))
                  | inr later ↦ omega (arith, own, is, later)
                ]
            | inr later ↦ let far = behind q later in omega (arith, far, at, is, within)
          ];
        }

    none_here : first_of from end r ≡ None → (k u : ℕ) → u < 64 → is_free r u ≡ false → r.startino + u ≡ k → from ≤ k → k < end → ⊥
    unfolding first_of
    none_here h k u lt free at low high = false≢true (sym (slot_none from end r 64 0 h u (omega arith) (omega (arith, lt))) ∙ sought_by from end r u (omega (arith, at, low)) (omega (arith, at, high)) free)

    own_of : (q : InoRec) (k u : ℕ) → r ≡ q → is_free q u ≡ false → q.startino + u ≡ k → (is_free r u ≡ false) × (r.startino + u ≡ k)
    own_of q k u same free at = (subst (λ (p : InoRec). is_free p u ≡ false) (sym same) free, subst (λ (p : InoRec). p.startino + u ≡ k) (sym same) at)

    later_found : first_of from end r ≡ None → (o : Option ℕ) → Found rest o → Found (r ∷ rest) o
    later_found none None found = λ k (q, u, c, lt, free, at) low high. elim (in_either r rest q c) [
      | inl same ↦ let own = own_of q k u same free at in none_here none k u lt own.0 own.1 low high
      | inr later ↦ found k (q, u, later, lt, free, at) low high
    ]
    later_found none (Some n) found = record {
      there = (let (q, u, c, lt, free, at) = found.there in (q, u, in_rest r rest q c, lt, free, at));
      low = found.low;
      high = found.high;
      least = λ k (q, u, c, lt, free, at) low high. elim (in_either r rest q c) [
        | inl same ↦ let own = own_of q k u same free at in absurd (none_here none k u lt own.0 own.1 low high)
        | inr later ↦ found.least k (q, u, later, lt, free, at) low high
      ];
    }

    by_first : (f o : Option ℕ) → first_of from end r ≡ f → Found rest o → Found (r ∷ rest) (or_else f o)
    by_first (Some x) o h found = here_first x h
    by_first None o h found = later_found h o found

  least : (rs : List InoRec) → IsRising ino_form rs → AllInside ino_form bounds rs → Found rs (first_in from end rs)
  unfolding first_in
  least [] rising inside = λ k (q, u, c, lt, free, at) low high. nothing_in q c
  least (r ∷ rest) rising inside = by_first r rest rising inside (first_of from end r) (first_in from end rest) refl (least rest rising.1 inside.1)

pub first_is_least : FirstIsLeast
first_is_least bounds from end rs rising inside = least bounds from end rs rising inside
