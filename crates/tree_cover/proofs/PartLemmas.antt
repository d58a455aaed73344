-- What an entry's keys say of the records below it.
use Rattle.std.proofs.Common.{◌≡◌, ℕ, ◌<◌, ◌≤◌, Bool, true, false, List, [], ◌∷◌, ◌++◌, Option, Some, None, refl, sym, ◌∙◌, inl, inr, ap, subst, arith}
use Rattle.std.specs.Prelude.{◌⊎◌, nat_le, not, ◌&&◌, ◌||◌}
use Rattle.std.proofs.lemmas.Bool.{false≢true, and_parts}
use Rattle.std.proofs.lemmas.Bool.Decides.{nat_tests}
use Rattle.sblock.specs.Form.{Form, IsLawful, same_key}
use Rattle.sblock.specs.Kinds.{has_high_keys_of}
use Rattle.sblock.specs.Spans.{later_key, join, span_of}
use Rattle.tree_defs.specs.Tree.{Entry, agrees}
use Rattle.sblock.specs.declared.spans.Span.{Span}
use Rattle.tree_cover.specs.Covers.{CoversBlocks, start_of}
use Rattle.tree_cover.proofs.ListFacts.{AllOf, SomeOf, all_map, some_and_all, either, not_back}
use Rattle.tree_cover.proofs.MeetLemmas.{chosen_true, chosen_false}

not_true : (b : Bool) → not b ≡ true → b ≡ false
not_true true h = cc
not_true false h = refl

same_some : {A : Type 0} (a b : A) → Some a ≡ Some b → a ≡ b
same_some a b h = cc

pub below_end : (a b : ℕ) → nat_le a b ≡ false → b < a
below_end a b h = grind (arith, nat_tests)

pub in_reach : (a b : ℕ) → nat_le a b ≡ true → a ≤ b
in_reach a b h = grind (arith, nat_tests)

-- one of three tests fails
pub one_fails : (a b c : Bool) → (a && b && c) ≡ false → (a ≡ false) ⊎ ((b ≡ false) ⊎ (c ≡ false))
one_fails true true c h = inr (inr h)
one_fails true false c h = inr (inl refl)
one_fails false b c h = inl refl

-- where there are high keys, they agree too
high_agrees : (high b : Bool) → (not high || b) ≡ true → high ≡ true → b ≡ true
high_agrees true b h e = h
high_agrees false b h e = cc

all_units : {A : Type 0} (xs : List A) → AllOf (λ a. Unit {0}) xs
all_units [] = tt
all_units (x ∷ xs) = (tt, all_units xs)

module _ {R K : Type 0} (form : Form R K) where
  -- the records begin with the one at the entry's low key
  pub record Begins (e : Entry K) (xs : List R) : Type 0 where
    pub first : R
    pub rest : List R
    pub is : xs ≡ first ∷ rest
    pub block : form.block_of e.low ≡ start_of form first
    pub not_later : form.is_before (form.key_of first) e.low ≡ false
    pub not_sooner : form.is_before e.low (form.key_of first) ≡ false

  -- they are those below the entry
  pub record Part (e : Entry K) (xs : List R) : Type 0 where
    pub begins : Begins e xs
    pub high_all : has_high_keys_of form.kind ≡ true → AllOf (λ r. form.block_of (form.high_key_of r) ≤ form.block_of e.high) xs
    pub high_some : has_high_keys_of form.kind ≡ true → SomeOf (λ r. form.block_of e.high ≤ form.block_of (form.high_key_of r)) xs

  -- the records go on with those of the next entry, if there is one
  abbrev pub Next : List (Entry K) → List R → Type 0
  Next [] ys = Unit {0}
  Next (e ∷ es) ys = Begins e ys

  pub begins_more : (e : Entry K) (xs zs : List R) → Begins e xs → Begins e (xs ++ zs)
  begins_more e xs zs b = record {
    first = b.first;
    rest = b.rest ++ zs;
    is = ap (λ (v : List R). v ++ zs) b.is;
    block = b.block;
    not_later = b.not_later;
    not_sooner = b.not_sooner;
  }

  module _ (law : IsLawful form) (covers : CoversBlocks form) where
    lower : (a b : K) → form.is_before a b ≡ false → form.block_of b ≤ form.block_of a
    lower a b h = law.starts covers.by_block a b h

    record Spans (s : Span K) (xs : List R) : Type 0 where
      first : R
      rest : List R
      is : xs ≡ first ∷ rest
      low : s.low ≡ form.key_of first
      high_all : AllOf (λ r. form.block_of (form.high_key_of r) ≤ form.block_of s.high) xs
      high_some : SomeOf (λ r. form.block_of s.high ≤ form.block_of (form.high_key_of r)) xs

    spans_one : (r : R) (s : Span K) → record { low = form.key_of r; high = form.high_key_of r } ≡ s → Spans s (r ∷ [])
    spans_one r s h = record {
      first = r;
      rest = [];
      is = refl;
      low = ap (λ (v : Span K). v.low) (sym h);
      high_all = let e : form.high_key_of r ≡ s.high = ap (λ (v : Span K). v.high) h in (rw e (omega arith), tt);
      high_some = let e : form.high_key_of r ≡ s.high = ap (λ (v : Span K). v.high) h in inl (rw e (omega arith));
    }

    spans_more : (r : R) (rs : List R) (t s : Span K) → Spans t rs → record { low = form.key_of r; high = later_key form (form.high_key_of r) t.high } ≡ s → Spans s (r ∷ rs)
    spans_more r rs t s below h =
        let high : later_key form (form.high_key_of r) t.high ≡ s.high = ap (λ (v : Span K). v.high) h in
        elim (either (form.is_before (form.high_key_of r) t.high)) [
          | inl before ↦ (
              let e : t.high ≡ s.high = sym (chosen_true (form.is_before (form.high_key_of r) t.high) t.high (form.high_key_of r) before) ∙ high in
              record {
                first = r;
                rest = rs;
                is = refl;
                low = ap (λ (v : Span K). v.low) (sym h);
                high_all = let P : K → Type 0 = λ v. AllOf (λ q. form.block_of (form.high_key_of q) ≤ form.block_of v) (r ∷ rs) in subst P e (lower t.high (form.high_key_of r) (not_back form law (form.high_key_of r) t.high before), below.high_all);
                high_some = let P : K → Type 0 = λ v. SomeOf (λ q. form.block_of v ≤ form.block_of (form.high_key_of q)) (r ∷ rs) in subst P e (inr below.high_some);
              })
          | inr behind ↦ (
              let e : form.high_key_of r ≡ s.high = sym (chosen_false (form.is_before (form.high_key_of r) t.high) t.high (form.high_key_of r) behind) ∙ high in
              let le = lower (form.high_key_of r) t.high behind in
              record {
                first = r;
                rest = rs;
                is = refl;
                low = ap (λ (v : Span K). v.low) (sym h);
                high_all = let P : K → Type 0 = λ v. AllOf (λ q. form.block_of (form.high_key_of q) ≤ form.block_of v) (r ∷ rs) in subst P e (omega arith, all_map (λ q. form.block_of (form.high_key_of q) ≤ form.block_of t.high) (λ q. form.block_of (form.high_key_of q) ≤ form.block_of (form.high_key_of r)) rs (λ a k. omega (arith, k, le)) below.high_all);
                high_some = let P : K → Type 0 = λ v. SomeOf (λ q. form.block_of v ≤ form.block_of (form.high_key_of q)) (r ∷ rs) in subst P e (inl (omega arith));
              })
        ]

    some_span : (r : R) (rs : List R) → span_of form (r ∷ rs) ≡ None → ⊥
    unfolding span_of
    some_span r rs h = elim (span_of form rs) as (λ o. join form (Some (record { low = form.key_of r; high = form.high_key_of r })) o ≡ None → ⊥) [ None ↦ λ k. cc | Some t ↦ λ k. cc ] h

    spans_from : (r : R) (rs : List R) (s : Span K) → ((t : Span K) → span_of form rs ≡ Some t → Spans t rs) → (o : Option (Span K)) → span_of form rs ≡ o → join form (Some (record { low = form.key_of r; high = form.high_key_of r })) o ≡ Some s → Spans s (r ∷ rs)
    spans_from r [] s below None e h = spans_one r s (same_some _ _ h)
    spans_from r (q ∷ qs) s below None e h = absurd (some_span q qs e)
    spans_from r rs s below (Some t) e h = spans_more r rs t s (below t e) (same_some _ _ h)

    spans : (xs : List R) (s : Span K) → span_of form xs ≡ Some s → Spans s xs
    unfolding span_of
    spans [] s h = cc
    spans (r ∷ rs) s h = spans_from r rs s (λ t k. spans rs t k) (span_of form rs) refl h

    part_from : (e : Entry K) (xs : List R) (o : Option (Span K)) → span_of form xs ≡ o → agrees form e o ≡ true → Part e xs
    part_from e xs None h a = absurd (false≢true a)
    part_from e xs (Some s) h a =
        let sp = spans xs s h in
        let parts = and_parts (same_key form e.low s.low) (not (has_high_keys_of form.kind) || same_key form e.high s.high) a in
        let low = and_parts (not (form.is_before e.low s.low)) (not (form.is_before s.low e.low)) parts.0 in
        let sooner = not_true (form.is_before e.low s.low) low.0 in
        let later = not_true (form.is_before s.low e.low) low.1 in
        let up = lower e.low s.low sooner in
        let down = lower s.low e.low later in
        let first_block : form.block_of s.low ≡ start_of form sp.first = ap (λ (k : K). form.block_of k) sp.low in
        record {
          begins = record {
            first = sp.first;
            rest = sp.rest;
            is = sp.is;
            block = omega (arith, up, down, first_block);
            not_later = rw (← sp.low) later;
            not_sooner = rw (← sp.low) sooner;
          };
          high_all = λ high. let two = high_agrees (has_high_keys_of form.kind) (same_key form e.high s.high) parts.1 high in let le = lower e.high s.high (not_true (form.is_before e.high s.high) (and_parts (not (form.is_before e.high s.high)) (not (form.is_before s.high e.high)) two).0) in all_map (λ r. form.block_of (form.high_key_of r) ≤ form.block_of s.high) (λ r. form.block_of (form.high_key_of r) ≤ form.block_of e.high) xs (λ b k. omega (arith, k, le)) sp.high_all;
          high_some = λ high. let two = high_agrees (has_high_keys_of form.kind) (same_key form e.high s.high) parts.1 high in let le = lower s.high e.high (not_true (form.is_before s.high e.high) (and_parts (not (form.is_before e.high s.high)) (not (form.is_before s.high e.high)) two).1) in some_and_all (λ r. Unit {0}) (λ r. form.block_of s.high ≤ form.block_of (form.high_key_of r)) (λ r. form.block_of e.high ≤ form.block_of (form.high_key_of r)) xs (λ b u k. omega (arith, k, le)) (all_units xs) sp.high_some;
        }

    -- an entry whose keys are its subtree's
    pub part_of : (e : Entry K) (xs : List R) → agrees form e (span_of form xs) ≡ true → Part e xs
    part_of e xs h = part_from e xs (span_of form xs) refl h
