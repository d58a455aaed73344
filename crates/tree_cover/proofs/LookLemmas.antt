-- Where all records are looked at that could be the answer.
use Rattle.std.proofs.Common.{◌≡◌, ℕ, ◌+◌, ◌<◌, ◌≤◌, Bool, true, false, List, [], ◌∷◌, Option, Some, refl, inl, inr, arith}
use Rattle.std.specs.Prelude.{nat_lt, nat_le, ◌&&◌, ◌||◌, if◌then◌else◌}
use Rattle.std.proofs.lemmas.Bool.Decides.{nat_tests}
use Rattle.run_sets.specs.Runs.{is_within}
use Rattle.run_sets.specs.declared.run.Run.{Run}
use Rattle.sblock.specs.Form.{Form}
use Rattle.sblock.specs.Kinds.{has_high_keys_of}
use Rattle.sblock.specs.Lists.{IsAhead}
use Rattle.tree_cover.proofs.ListFacts.{either}
use Rattle.tree_cover.proofs.MeetLemmas.{third_fails}
use Rattle.tree_cover.specs.Answers.{first_meeting, LooksAtAll, MeetsByBlock}
use Rattle.tree_cover.specs.Covers.{ends_behind, start_of, meets, is_above, begins_behind, is_looked_at, is_first_met, first_met, AreApart}

with_true : (b c : Bool) → c ≡ true → (b && c) ≡ b
with_true true c h = h
with_true false c h = refl

with_false : (a b c : Bool) → b ≡ false → (a && b && c) ≡ (a && b)
with_false true b c h = rw h refl
with_false false b c h = refl

past : (run end start : ℕ) → nat_le end start ≡ true → nat_lt run start ≡ false → nat_lt run end ≡ false
past run end start h k = grind (arith, nat_tests)

same_if : {R : Type 0} (b c : Bool) (r : R) (x y : Option R) → b ≡ c → x ≡ y → (if b then Some r else x) ≡ (if c then Some r else y)
same_if b c r x y h k = rw (h, k) refl

module _ {R K : Type 0} (form : Form R K) (run : Run) (after : Option K) where
  seen_test : (r : R) (rs : List R) → is_looked_at form run rs ≡ true → is_first_met form run after r rs ≡ (is_above form after (form.key_of r) && meets form run r)
  unfolding is_first_met
  seen_test r rs h = with_true (is_above form after (form.key_of r) && meets form run r) (is_looked_at form run rs) h

  -- a record that ends before the next one begins, which begins at the run's first block or before
  missed : (r s : R) → nat_le (start_of form r + form.length_of r) (start_of form s) ≡ true → nat_lt run.start (start_of form s) ≡ false → meets form run r ≡ false
  unfolding meets
  missed r s h k = third_fails (ends_behind run (start_of form r)) (nat_lt 0 (form.length_of r)) (nat_lt run.start (start_of form r + form.length_of r)) (past run.start (start_of form r + form.length_of r) (start_of form s) h k)

  unseen_test : (r : R) (rs : List R) → meets form run r ≡ false → is_first_met form run after r rs ≡ (is_above form after (form.key_of r) && meets form run r)
  unfolding is_first_met
  unseen_test r rs h = with_false (is_above form after (form.key_of r)) (meets form run r) (is_looked_at form run rs) h

  all_seen : has_high_keys_of form.kind ≡ true → (rs : List R) → is_looked_at form run rs ≡ true
  unfolding is_looked_at
  all_seen high rs = rw high refl

  behind_seen : (rs : List R) → begins_behind form run rs ≡ true → is_looked_at form run rs ≡ true
  unfolding is_looked_at
  behind_seen rs h = rw h (elim (has_high_keys_of form.kind) as (λ b. (b || true) ≡ true) [ true ↦ refl | false ↦ refl ])

  by_high : has_high_keys_of form.kind ≡ true → (recs : List R) → first_met form run after recs ≡ first_meeting form run after recs
  unfolding first_met
  by_high high [] = refl
  by_high high (r ∷ rs) = same_if (is_first_met form run after r rs) (is_above form after (form.key_of r) && meets form run r) r (first_met form run after rs) (first_meeting form run after rs) (seen_test r rs (all_seen high rs)) (by_high high rs)

  apart_test : (r : R) (rs : List R) → IsAhead (λ a b. nat_le (start_of form a + form.length_of a) (start_of form b)) r rs → is_first_met form run after r rs ≡ (is_above form after (form.key_of r) && meets form run r)
  unfolding begins_behind
  apart_test r [] h = seen_test r [] (behind_seen [] refl)
  apart_test r (s ∷ rs) h = elim (either (nat_lt run.start (start_of form s))) [
    | inl lt ↦ seen_test r (s ∷ rs) (behind_seen (s ∷ rs) lt)
    | inr le ↦ unseen_test r (s ∷ rs) (missed r s h le)
  ]

  by_apart : (recs : List R) → AreApart form recs → first_met form run after recs ≡ first_meeting form run after recs
  unfolding first_met
  by_apart [] h = refl
  by_apart (r ∷ rs) h = same_if (is_first_met form run after r rs) (is_above form after (form.key_of r) && meets form run r) r (first_met form run after rs) (first_meeting form run after rs) (apart_test r rs h.0) (by_apart rs h.1)

pub looks_at_all_lem : {R K : Type 0} (form : Form R K) → LooksAtAll form
looks_at_all_lem form run after recs h = elim h [ inl high ↦ by_high form run after high recs | inr apart ↦ by_apart form run after recs apart ]

module _ {R K : Type 0} (form : Form R K) (run : Run) (r : R) where
  common : meets form run r ≡ true → (b : ℕ) × (is_within b run ≡ true) × (start_of form r ≤ b) × (b < start_of form r + form.length_of r)
  unfolding meets ends_behind
  common h = elim (either (nat_lt run.start (start_of form r))) [
    | inl lt ↦ (start_of form r, grind (arith, nat_tests), omega arith, grind (arith, nat_tests))
    | inr le ↦ (run.start, grind (arith, nat_tests), grind (arith, nat_tests), grind (arith, nat_tests))
  ]

  in_common : (b : ℕ) → is_within b run ≡ true → start_of form r ≤ b → b < start_of form r + form.length_of r → meets form run r ≡ true
  unfolding meets ends_behind
  in_common b h low high = grind (arith, nat_tests)

pub meets_by_block_lem : {R K : Type 0} (form : Form R K) → MeetsByBlock form
meets_by_block_lem form run r = (common form run r, λ (b, within, low, high). in_common form run r b within low high)
