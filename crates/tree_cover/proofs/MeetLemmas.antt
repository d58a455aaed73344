-- Which records are the answer of some that stand one behind the other.
use Rattle.std.proofs.Common.{◌≡◌, ℕ, ◌+◌, ◌^◌, ◌<◌, ◌≤◌, Bool, true, false, List, [], ◌∷◌, ◌++◌, Option, Some, None, refl, sym, ◌∙◌, inl, inr, arith}
use Rattle.std.specs.Prelude.{nat_lt, ◌&&◌, ◌||◌, if◌then◌else◌, IfSome}
use Rattle.std.proofs.lemmas.Bool.{false≢true}
use Rattle.std.proofs.lemmas.Bool.Decides.{nat_tests}
use Rattle.run_sets.specs.declared.run.Run.{Run}
use Rattle.sblock.specs.Form.{Form, IsLawful}
use Rattle.sblock.specs.Kinds.{has_high_keys_of}
use Rattle.sblock.specs.Lists.{Each}
use Rattle.sblock.specs.declared.block.Bounds.{Bounds}
use Rattle.tree_cover.specs.Covers.{CoversBlocks, ends_behind, start_of, meets, is_above, begins_behind, is_looked_at, is_first_met, first_met, IsSought}
use Rattle.span_recs.specs.Refcounts.{is_shared}
use Rattle.tree_cover.specs.Answers.{StagingMeetsNone}
use Rattle.tree_cover.proofs.ListFacts.{AllOf, SomeOf, all_map, all_left, all_right, either, IsBefore, Ordered, starts_later}

first_fails : (a b c : Bool) → a ≡ false → (a && b && c) ≡ false
first_fails a b c h = rw h refl

second_fails : (a b c : Bool) → b ≡ false → (a && b && c) ≡ false
second_fails true b c h = rw h refl
second_fails false b c h = refl

pub third_fails : (a b c : Bool) → c ≡ false → (a && b && c) ≡ false
third_fails true true c h = h
third_fails true false c h = refl
third_fails false b c h = refl

both_false : (a : Bool) → (a && false) ≡ false
both_false true = refl
both_false false = refl

pub not_less : (a b : ℕ) → b ≤ a → nat_lt a b ≡ false
not_less a b h = grind (arith, nat_tests)

pub is_less : (a b : ℕ) → a < b → nat_lt a b ≡ true
is_less a b h = grind (arith, nat_tests)

pub at_least : (a b : ℕ) → nat_lt a b ≡ false → b ≤ a
at_least a b h = grind (arith, nat_tests)

pub less : (a b : ℕ) → nat_lt a b ≡ true → a < b
less a b h = grind (arith, nat_tests)

pub ends_later : (run : Run) (b c : ℕ) → b ≤ c → ends_behind run b ≡ false → ends_behind run c ≡ false
unfolding ends_behind
ends_later run b c h e = grind (arith, nat_tests)

pub chosen_true : {A : Type 0} (b : Bool) (x y : A) → b ≡ true → (if b then x else y) ≡ x
chosen_true true x y h = refl
chosen_true false x y h = cc

pub chosen_false : {A : Type 0} (b : Bool) (x y : A) → b ≡ false → (if b then x else y) ≡ y
chosen_false true x y h = cc
chosen_false false x y h = refl

-- the first of two answers
abbrev pub or_met : {R : Type 0} → Option R → Option R → Option R
or_met None b = b
or_met (Some a) b = Some a

same_choice : {R : Type 0} (b : Bool) (r : R) (x y other : Option R) → x ≡ or_met y other → (if b then Some r else x) ≡ or_met (if b then Some r else y) other
same_choice true r x y other h = refl
same_choice false r x y other h = h

-- a record that isn't the answer, and one that may be
none_first : {R : Type 0} (b : Bool) (r : R) (x : Option R) → (if b then Some r else x) ≡ None → (b ≡ false) × (x ≡ None)
none_first true r x h = cc
none_first false r x h = (refl, h)

module _ {R K : Type 0} (form : Form R K) (run : Run) (after : Option K) where
  -- whatever stands behind it, the record isn't the answer
  abbrev pub IsMissed : R → Type 0
  IsMissed r = (rs : List R) → is_first_met form run after r rs ≡ false

  pub too_low : (r : R) → is_above form after (form.key_of r) ≡ false → IsMissed r
  unfolding is_first_met
  too_low r h = λ rs. first_fails _ _ _ h

  pub apart : (r : R) → meets form run r ≡ false → IsMissed r
  unfolding is_first_met
  apart r h = λ rs. second_fails _ _ _ h

  pub unseen : (r : R) (rs : List R) → is_looked_at form run rs ≡ false → is_first_met form run after r rs ≡ false
  unfolding is_first_met
  unseen r rs h = third_fails (is_above form after (form.key_of r)) (meets form run r) (is_looked_at form run rs) h

  pub begins_late : (r : R) → ends_behind run (start_of form r) ≡ false → IsMissed r
  unfolding meets
  begins_late r h = apart r (first_fails _ _ _ h)

  pub ends_early : (r : R) → start_of form r + form.length_of r ≤ run.start → IsMissed r
  unfolding meets
  ends_early r h = apart r (third_fails (ends_behind run (start_of form r)) (nat_lt 0 (form.length_of r)) (nat_lt run.start (start_of form r + form.length_of r)) (not_less run.start (start_of form r + form.length_of r) h))

  pub all_missed : (xs ys : List R) → AllOf IsMissed xs → first_met form run after (xs ++ ys) ≡ first_met form run after ys
  unfolding first_met
  all_missed [] ys h = refl
  all_missed (x ∷ xs) ys h = chosen_false _ _ _ (h.0 (xs ++ ys)) ∙ all_missed xs ys h.1

  pub none_met : (xs : List R) → AllOf IsMissed xs → first_met form run after xs ≡ None
  unfolding first_met
  none_met [] h = refl
  none_met (x ∷ xs) h = chosen_false _ _ _ (h.0 xs) ∙ none_met xs h.1

  -- the next record begins at the run's first block or before it, and there are no high keys
  seen_not : (r : R) (rs : List R) → has_high_keys_of form.kind ≡ false → start_of form r ≤ run.start → is_looked_at form run (r ∷ rs) ≡ false
  unfolding is_looked_at begins_behind
  seen_not r rs low h = rw low (not_less run.start (start_of form r) h)

  -- so all records before one of those are passed over
  pub all_unseen : (xs : List R) (y : R) (ys : List R) → has_high_keys_of form.kind ≡ false → AllOf (λ x. start_of form x ≤ run.start) xs → start_of form y ≤ run.start → first_met form run after (xs ++ (y ∷ ys)) ≡ first_met form run after (y ∷ ys)
  unfolding first_met
  all_unseen [] y ys low h k = refl
  all_unseen (x ∷ []) y ys low h k = chosen_false _ _ _ (unseen x (y ∷ ys) (seen_not y ys low k))
  all_unseen (x ∷ z ∷ zs) y ys low h k = chosen_false _ _ _ (unseen x (z ∷ (zs ++ (y ∷ ys))) (seen_not z (zs ++ (y ∷ ys)) low h.1.0)) ∙ all_unseen (z ∷ zs) y ys low h.1 k

  last_same : (more : List R) → is_looked_at form run more ≡ true → (r : R) → is_first_met form run after r more ≡ is_first_met form run after r []
  unfolding is_first_met is_looked_at begins_behind
  last_same more h r = rw h (elim (has_high_keys_of form.kind) as (λ b. (is_above form after (form.key_of r) && meets form run r && true) ≡ (is_above form after (form.key_of r) && meets form run r && (b || true))) [ true ↦ refl | false ↦ refl ])

  next_same : (r s : R) (xs ys : List R) → is_first_met form run after r (s ∷ (xs ++ ys)) ≡ is_first_met form run after r (s ∷ xs)
  unfolding is_first_met is_looked_at begins_behind
  next_same r s xs ys = refl

  -- of records in two parts, where the second begins behind the run's first block
  pub met_append : (xs more : List R) → is_looked_at form run more ≡ true → first_met form run after (xs ++ more) ≡ or_met (first_met form run after xs) (first_met form run after more)
  unfolding first_met
  met_append [] more h = refl
  met_append (x ∷ []) more h = rw (last_same more h x) (same_choice (is_first_met form run after x []) x (first_met form run after more) None (first_met form run after more) refl)
  met_append (x ∷ s ∷ xs) more h = rw (next_same x s xs more) (same_choice (is_first_met form run after x (s ∷ xs)) x (first_met form run after (s ∷ (xs ++ more))) (first_met form run after (s ∷ xs)) (first_met form run after more) (met_append (s ∷ xs) more h))

  -- A record that is above the key, and begins behind the run's first block where there are no high
  -- keys; and one that ends behind that block.
  pub record Behind (r : R) : Type 0 where
    pub above : is_above form after (form.key_of r) ≡ true
    pub later : has_high_keys_of form.kind ≡ false → run.start < start_of form r

  abbrev pub Reaches : R → Type 0
  Reaches r = run.start < start_of form r + form.length_of r

  -- what is known of each record of a readable tree
  pub record Fit (r : R) : Type 0 where
    pub some : 0 < form.length_of r
    pub end : has_high_keys_of form.kind ≡ true → form.block_of (form.high_key_of r) + 1 ≡ start_of form r + form.length_of r

both_hold : (a b : Bool) → a ≡ true → b ≡ true → (a && b) ≡ true
both_hold a b h k = rw (h, k) refl

module _ {R K : Type 0} (form : Form R K) (law : IsLawful form) (covers : CoversBlocks form) (run : Run) (after : Option K) where
  starts_behind : (r : R) (rs : List R) → run.start < start_of form r → AllOf (IsBefore form r) rs → begins_behind form run rs ≡ true
  unfolding begins_behind
  starts_behind r [] lt h = refl
  starts_behind r (s ∷ rs) lt h = let le = starts_later form law covers r s h.0 in is_less run.start (start_of form s) (omega (arith, lt, le))

  looked_at : (r : R) (rs : List R) → Behind form run after r → AllOf (IsBefore form r) rs → is_looked_at form run rs ≡ true
  unfolding is_looked_at
  looked_at r rs b h = elim (either (has_high_keys_of form.kind)) [
    | inl high ↦ rw high refl
    | inr low ↦ rw (low, starts_behind r rs (b.later low) h) refl
  ]

  -- such a record is the answer if it begins before the run's end
  met_if_in_time : (r : R) (rs : List R) → Fit form run after r → Behind form run after r → Reaches form run after r → AllOf (IsBefore form r) rs → ends_behind run (start_of form r) ≡ true → is_first_met form run after r rs ≡ true
  unfolding is_first_met meets
  met_if_in_time r rs fit b reach h e =
      both_hold (is_above form after (form.key_of r) && (ends_behind run (start_of form r) && nat_lt 0 (form.length_of r) && nat_lt run.start (start_of form r + form.length_of r))) (is_looked_at form run rs)
      (both_hold _ (ends_behind run (start_of form r) && nat_lt 0 (form.length_of r) && nat_lt run.start (start_of form r + form.length_of r)) (b.above) (rw (e, is_less 0 (form.length_of r) fit.some, is_less run.start (start_of form r + form.length_of r) reach) refl))
      (looked_at r rs b h)

  -- where it isn't, nothing behind it is
  late_all : (r : R) (ys : List R) → ends_behind run (start_of form r) ≡ false → AllOf (IsBefore form r) ys → AllOf (IsMissed form run after) ys
  late_all r ys e h = all_map (IsBefore form r) (IsMissed form run after) ys (λ a k. begins_late form run after a (ends_later run (start_of form r) (start_of form a) (starts_later form law covers r a k) e)) h

  pub dead : (xs more : List R) → AllOf (Fit form run after) xs → AllOf (Behind form run after) xs → SomeOf (Reaches form run after) xs → Ordered form (xs ++ more) → first_met form run after xs ≡ None → first_met form run after more ≡ None
  unfolding first_met
  dead [] more fit b reach o h = absurd reach
  dead (x ∷ xs) more fit b reach o h =
      let n = none_first (is_first_met form run after x xs) x (first_met form run after xs) h in
      elim reach [
        | inl here ↦ elim (either (ends_behind run (start_of form x))) [
          | inl in_time ↦ absurd (false≢true (sym n.0 ∙ met_if_in_time x xs fit.0 b.0 here (all_left (IsBefore form x) xs more o.0) in_time))
          | inr late ↦ none_met form run after more (late_all x more late (all_right (IsBefore form x) xs more o.0))
        ]
        | inr there ↦ dead xs more fit.1 b.1 there o.1 n.1
      ]

asked_parts : (a b c : Bool) → (a && b && c) ≡ true → (a ≡ true) × (b ≡ true)
asked_parts true true c h = (refl, refl)
asked_parts true false c h = cc
asked_parts false b c h = cc

sought_if : {R : Type 0} (b : Bool) (r : R) (x : Option R) (P : R → Type 0) → (b ≡ true → P r) → IfSome x P → IfSome (if b then Some r else x) P
sought_if true r x P h k = h refl
sought_if false r x P h k = k

module _ {R K : Type 0} (form : Form R K) (bounds : Bounds) (run : Run) (after : Option K) where
  sought_one : (r : R) (rs : List R) → form.is_in_range bounds r ≡ true → form.is_supported r ≡ true → is_first_met form run after r rs ≡ true → IsSought form bounds run after r
  unfolding is_first_met
  sought_one r rs inside supported h = let parts = asked_parts (is_above form after (form.key_of r)) (meets form run r) (is_looked_at form run rs) h in record { above = parts.0; met = parts.1; inside = inside; supported = supported }

  -- of records of supported forms that are in range, the one that is found is too
  pub sought : (rs : List R) → Each (form.is_in_range bounds) rs → Each form.is_supported rs → IfSome (first_met form run after rs) (IsSought form bounds run after)
  unfolding first_met
  sought [] h k = tt
  sought (r ∷ rs) h k = sought_if (is_first_met form run after r rs) r (first_met form run after rs) (IsSought form bounds run after) (λ met. sought_one r rs h.0 k.0 met) (sought rs h.1 k.1)

-- a record of copy-on-write staging begins at 2^31 or behind it
pub staging_meets_none_lem : StagingMeetsNone
unfolding meets ends_behind is_shared
staging_meets_none_lem run r short staging =
    let e : nat_lt r.start (run.start + run.count) ≡ false = not_less r.start (run.start + run.count) (omega (arith, short, at_least r.start (2 ^ 31) staging)) in
    first_fails (nat_lt 0 run.count && nat_lt r.start (run.start + run.count)) _ _ (rw e (both_false (nat_lt 0 run.count)))
