-- Which entries may be passed over, and what is known of those that may not.
use Rattle.std.proofs.Common.{◌≡◌, ◌<◌, ◌≤◌, true, false, List, [], ◌∷◌, ◌++◌, Option, Some, None, refl, sym, ◌∙◌, inl, inr, ap, subst, arith}
use Rattle.std.specs.Prelude.{nat_lt, nat_le, ◌&&◌, ◌||◌}
use Rattle.std.proofs.lemmas.Bool.{false≢true, and_parts}
use Rattle.run_sets.specs.declared.run.Run.{Run}
use Rattle.sblock.specs.Form.{Form, IsLawful}
use Rattle.sblock.specs.Kinds.{has_high_keys_of}
use Rattle.tree_defs.specs.Tree.{Entry}
use Rattle.tree_cover.specs.Covers.{CoversBlocks, ends_behind, start_of, is_above, begins_behind, is_looked_at, first_met}
use Rattle.tree_cover.specs.Covering.{next_begins_behind, is_next_above, may_reach, may_hold}
use Rattle.tree_cover.proofs.ListFacts.{AllOf, SomeOf, all_map, all_both, some_and_all, either, IsBefore, Ordered, ordered_left, ordered_across, above_same, starts_later}
use Rattle.tree_cover.proofs.MeetLemmas.{chosen_true, chosen_false, IsMissed, Behind, Reaches, Fit, too_low, begins_late, ends_early, all_missed, all_unseen, ends_later, at_least, less}
use Rattle.tree_cover.proofs.PartLemmas.{Begins, Part, Next, one_fails, below_end, in_reach}

module _ {R K : Type 0} (form : Form R K) (law : IsLawful form) (covers : CoversBlocks form) (run : Run) (after : Option K) where
  -- records that stand behind the first one begin there or later
  later_than : (y : R) (rest : List R) → Ordered form (y ∷ rest) → AllOf (λ r. start_of form y ≤ start_of form r) (y ∷ rest)
  later_than y rest o = (omega arith, all_map (IsBefore form y) (λ r. start_of form y ≤ start_of form r) rest (λ a k. starts_later form law covers y a k) o.0)

  all_late : (e : Entry K) (xs : List R) → ends_behind run (form.block_of e.low) ≡ false → Begins form e xs → Ordered form xs → AllOf (IsMissed form run after) xs
  all_late e xs h b o =
      let late : ends_behind run (start_of form b.first) ≡ false = ap (ends_behind run) (sym b.block) ∙ h in
      let ordered : Ordered form (b.first ∷ b.rest) = let P : List R → Type 0 = λ v. Ordered form v in subst P b.is o in
      let all = all_map (λ r. start_of form b.first ≤ start_of form r) (IsMissed form run after) (b.first ∷ b.rest) (λ a k. begins_late form run after a (ends_later run (start_of form b.first) (start_of form a) k late)) (later_than b.first b.rest ordered) in
      let P : List R → Type 0 = λ v. AllOf (IsMissed form run after) v in subst P (sym b.is) all

  all_early : (e : Entry K) (xs : List R) → has_high_keys_of form.kind ≡ true → form.block_of e.high < run.start → Part form e xs → AllOf (Fit form run after) xs → AllOf (IsMissed form run after) xs
  all_early e xs high lt part fit =
      all_map (λ r. (form.block_of (form.high_key_of r) ≤ form.block_of e.high) × Fit form run after r) (IsMissed form run after) xs
      (λ a k. let end = k.1.end high in let le = k.0 in ends_early form run after a (omega (arith, le, lt, end)))
      (all_both (λ r. form.block_of (form.high_key_of r) ≤ form.block_of e.high) (Fit form run after) xs (part.high_all high) fit)

  -- the records before one that begins at the run's first block or before it
  before_early : (xs : List R) (y : R) (ys : List R) → start_of form y ≤ run.start → Ordered form (xs ++ (y ∷ ys)) → AllOf (λ x. start_of form x ≤ run.start) xs
  before_early xs y ys le o = all_map (λ x. AllOf (IsBefore form x) (y ∷ ys)) (λ x. start_of form x ≤ run.start) xs (λ x k. let s = starts_later form law covers x y k.0 in omega (arith, s, le)) (ordered_across form xs (y ∷ ys) o)

  pass_unseen : (e : Entry K) (xs ys : List R) → has_high_keys_of form.kind ≡ false → form.block_of e.low ≤ run.start → Begins form e ys → Ordered form (xs ++ ys) → first_met form run after (xs ++ ys) ≡ first_met form run after ys
  pass_unseen e xs ys low le b o =
      let ordered : Ordered form (xs ++ (b.first ∷ b.rest)) = let P : List R → Type 0 = λ v. Ordered form (xs ++ v) in subst P b.is o in
      let block = b.block in
      let early : start_of form b.first ≤ run.start = omega (arith, block, le) in
      let P : List R → Type 0 = λ v. first_met form run after (xs ++ v) ≡ first_met form run after v in
      subst P (sym b.is) (all_unseen form run after xs b.first b.rest low (before_early xs b.first b.rest early ordered) early)

  -- the records before one that isn't above the key
  low_key : (a : Option K) (e : Entry K) (y x : R) → is_above form a e.low ≡ false → form.is_before e.low (form.key_of y) ≡ false → IsBefore form x y → is_above form a (form.key_of x) ≡ false
  unfolding is_above
  low_key None e y x h k b = h
  low_key (Some a) e y x h k b = elim (either (form.is_before a (form.key_of x))) [
    | inl t ↦ absurd (false≢true (sym h ∙ above_same form law a (form.key_of y) e.low k (law.along a (form.key_of x) (form.key_of y) t b)))
    | inr f ↦ f
  ]

  all_low : (e : Entry K) (xs ys : List R) → is_above form after e.low ≡ false → Begins form e ys → Ordered form (xs ++ ys) → AllOf (IsMissed form run after) xs
  all_low e xs ys h b o =
      let ordered : Ordered form (xs ++ (b.first ∷ b.rest)) = let P : List R → Type 0 = λ v. Ordered form (xs ++ v) in subst P b.is o in
      all_map (λ x. AllOf (IsBefore form x) (b.first ∷ b.rest)) (IsMissed form run after) xs (λ x k. too_low form run after x (low_key after e b.first x h b.not_sooner k.0)) (ordered_across form xs (b.first ∷ b.rest) ordered)

  pass_by_next : (es : List (Entry K)) (xs ys : List R) → has_high_keys_of form.kind ≡ false → next_begins_behind form run es ≡ false → Next form es ys → Ordered form (xs ++ ys) → first_met form run after (xs ++ ys) ≡ first_met form run after ys
  unfolding next_begins_behind
  pass_by_next [] xs ys low h n o = absurd (false≢true (sym h))
  pass_by_next (e ∷ es) xs ys low h n o = pass_unseen e xs ys low (at_least run.start (form.block_of e.low) h) n o

  pass_by_key : (es : List (Entry K)) (xs ys : List R) → is_next_above form after es ≡ false → Next form es ys → Ordered form (xs ++ ys) → first_met form run after (xs ++ ys) ≡ first_met form run after ys
  unfolding is_next_above
  pass_by_key [] xs ys h n o = absurd (false≢true (sym h))
  pass_by_key (e ∷ es) xs ys h n o = all_missed form run after xs ys (all_low e xs ys h n o)

  pass_by_reach : (e : Entry K) (es : List (Entry K)) (xs ys : List R) → may_reach form run e es ≡ false → Part form e xs → AllOf (Fit form run after) xs → Next form es ys → Ordered form (xs ++ ys) → first_met form run after (xs ++ ys) ≡ first_met form run after ys
  unfolding may_reach
  pass_by_reach e es xs ys h part fit n o = elim (either (has_high_keys_of form.kind)) [
    | inl high ↦ all_missed form run after xs ys (all_early e xs high (below_end run.start (form.block_of e.high) (sym (chosen_true (has_high_keys_of form.kind) (nat_le run.start (form.block_of e.high)) (next_begins_behind form run es) high) ∙ h)) part fit)
    | inr low ↦ pass_by_next es xs ys low (sym (chosen_false (has_high_keys_of form.kind) (nat_le run.start (form.block_of e.high)) (next_begins_behind form run es) low) ∙ h) n o
  ]

  -- below an entry that may not hold the record, it isn't
  pub passed_over : (e : Entry K) (es : List (Entry K)) (xs ys : List R) → may_hold form run after e es ≡ false → Part form e xs → AllOf (Fit form run after) xs → Next form es ys → Ordered form (xs ++ ys) → first_met form run after (xs ++ ys) ≡ first_met form run after ys
  unfolding may_hold
  passed_over e es xs ys h part fit n o =
      elim (one_fails (ends_behind run (form.block_of e.low)) (may_reach form run e es) (is_next_above form after es) h) [
        | inl late ↦ all_missed form run after xs ys (all_late e xs late part.begins (ordered_left form xs ys o))
        | inr more ↦ elim more [ inl reach ↦ pass_by_reach e es xs ys reach part fit n o | inr key ↦ pass_by_key es xs ys key n o ]
      ]

  -- what an entry that may hold the record says
  pub record Holds (e : Entry K) (es : List (Entry K)) : Type 0 where
    pub high : has_high_keys_of form.kind ≡ true → run.start ≤ form.block_of e.high
    pub next : has_high_keys_of form.kind ≡ false → next_begins_behind form run es ≡ true
    pub above : is_next_above form after es ≡ true

  pub holds : (e : Entry K) (es : List (Entry K)) → may_hold form run after e es ≡ true → Holds e es
  unfolding may_hold may_reach
  holds e es h =
      let a = and_parts (ends_behind run (form.block_of e.low) && may_reach form run e es) (is_next_above form after es) h in
      let b = and_parts (ends_behind run (form.block_of e.low)) (may_reach form run e es) a.0 in
      record {
        high = λ high. in_reach run.start (form.block_of e.high) (sym (chosen_true (has_high_keys_of form.kind) (nat_le run.start (form.block_of e.high)) (next_begins_behind form run es) high) ∙ b.1);
        next = λ low. sym (chosen_false (has_high_keys_of form.kind) (nat_le run.start (form.block_of e.high)) (next_begins_behind form run es) low) ∙ b.1;
        above = a.1;
      }

  first_reaches : (xs : List R) (y : R) (rest : List R) → xs ≡ y ∷ rest → has_high_keys_of form.kind ≡ false → AllOf (Behind form run after) xs → SomeOf (Reaches form run after) xs
  first_reaches xs y rest is low b =
      let all : AllOf (Behind form run after) (y ∷ rest) = let P : List R → Type 0 = λ v. AllOf (Behind form run after) v in subst P is b in
      let lt = all.0.later low in
      let P : List R → Type 0 = λ v. SomeOf (Reaches form run after) v in subst P (sym is) (inl (omega (arith, lt)))

  -- some record below ends behind the run's first block
  pub reaching : (e : Entry K) (es : List (Entry K)) (xs : List R) → Holds e es → Part form e xs → AllOf (Fit form run after) xs → AllOf (Behind form run after) xs → SomeOf (Reaches form run after) xs
  reaching e es xs h part fit b = elim (either (has_high_keys_of form.kind)) [
    | inl high ↦ (
        let le = h.high high in
        some_and_all (Fit form run after) (λ r. form.block_of e.high ≤ form.block_of (form.high_key_of r)) (Reaches form run after) xs (λ a f k. let end = f.end high in omega (arith, end, k, le)) fit (part.high_some high))
    | inr low ↦ first_reaches xs part.begins.first part.begins.rest part.begins.is low b
  ]

  first_seen : (f : Entry K) (es : List (Entry K)) (ys : List R) → (has_high_keys_of form.kind ≡ false → next_begins_behind form run (f ∷ es) ≡ true) → Begins form f ys → is_looked_at form run ys ≡ true
  unfolding is_looked_at begins_behind next_begins_behind
  first_seen f es ys h b = elim (either (has_high_keys_of form.kind)) [
    | inl high ↦ rw high refl
    | inr low ↦ (
        let lt : nat_lt run.start (start_of form b.first) ≡ true = ap (nat_lt run.start) (sym b.block) ∙ h low in
        let P : List R → Type 0 = λ v. (has_high_keys_of form.kind || begins_behind form run v) ≡ true in
        subst P (sym b.is) (rw (low, lt) refl))
  ]

  -- what follows begins behind the run's first block
  pub seen_behind : (e : Entry K) (es : List (Entry K)) (ys : List R) → Holds e es → Next form es ys → (es ≡ [] → is_looked_at form run ys ≡ true) → is_looked_at form run ys ≡ true
  seen_behind e [] ys h n end = end refl
  seen_behind e (f ∷ es) ys h n end = first_seen f es ys h.next n

  above_all : (a : Option K) (f : Entry K) (y : R) → is_above form a f.low ≡ true → form.is_before (form.key_of y) f.low ≡ false → is_above form a (form.key_of y) ≡ true
  unfolding is_above
  above_all None f y h k = refl
  above_all (Some a) f y h k = above_same form law a f.low (form.key_of y) k h

  further_above : (a : Option K) (y x : R) → is_above form a (form.key_of y) ≡ true → IsBefore form y x → is_above form a (form.key_of x) ≡ true
  unfolding is_above
  further_above None y x h b = refl
  further_above (Some a) y x h b = law.along a (form.key_of y) (form.key_of x) h b

  all_behind : (y : R) (rest : List R) → Ordered form (y ∷ rest) → Behind form run after y → AllOf (Behind form run after) (y ∷ rest)
  all_behind y rest o b = (b, all_map (IsBefore form y) (Behind form run after) rest (λ x k. record { above = further_above after y x b.above k; later = λ low. let lt = b.later low in let le = starts_later form law covers y x k in omega (arith, lt, le) }) o.0)

  behind_from : (f : Entry K) (es : List (Entry K)) (ys : List R) → (has_high_keys_of form.kind ≡ false → next_begins_behind form run (f ∷ es) ≡ true) → is_next_above form after (f ∷ es) ≡ true → Begins form f ys → Ordered form ys → AllOf (Behind form run after) ys
  unfolding next_begins_behind is_next_above
  behind_from f es ys next above b o =
      let ordered : Ordered form (b.first ∷ b.rest) = let P : List R → Type 0 = λ v. Ordered form v in subst P b.is o in
      let first : Behind form run after b.first = record { above = above_all after f b.first above b.not_later; later = λ low. let lt = less run.start (form.block_of f.low) (next low) in let block = b.block in omega (arith, lt, block) } in
      let P : List R → Type 0 = λ v. AllOf (Behind form run after) v in subst P (sym b.is) (all_behind b.first b.rest ordered first)

  -- the records behind an entry that may hold the record
  pub behind_rest : (e : Entry K) (es : List (Entry K)) (ys : List R) → Holds e es → Next form es ys → (es ≡ [] → ys ≡ []) → Ordered form ys → AllOf (Behind form run after) ys
  behind_rest e [] ys h n end o = let P : List R → Type 0 = λ v. AllOf (Behind form run after) v in subst P (sym (end refl)) tt
  behind_rest e (f ∷ es) ys h n end o = behind_from f es ys h.next h.above n o
