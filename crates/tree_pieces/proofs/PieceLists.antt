-- Rising records in parts, and what of them lies above a key.
use Rattle.std.proofs.Common.{◌≡◌, ℕ, Bool, true, false, List, [], ◌∷◌, ◌++◌, Option, Some, None, refl, sym, subst, ◌∙◌, ap, inl, inr, append_assoc}
use Rattle.std.specs.Prelude.{not, filter}
use Rattle.std.proofs.lemmas.Bool.{and_parts, and_from}
use Rattle.sblock.specs.Blocks.{IsRising}
use Rattle.sblock.specs.Form.{Form, IsLawful}
use Rattle.sblock.specs.Lists.{Each}
use Rattle.tree_find.specs.Next.{is_above, records_above}
use Rattle.tree_pieces.specs.Pieces.{met_with, key_behind, are_above}
use Rattle.tree_find.proofs.Facts.{is_either}
use Rattle.tree_find.proofs.Parting.{rising_rest, all_above, all_passed, passed_not_above}

pub each_left : {A : Type 0} (test : A → Bool) (xs ys : List A) → Each test (xs ++ ys) → Each test xs
each_left test [] ys h = tt
each_left test (x ∷ xs) ys h = (h.0, each_left test xs ys h.1)

pub each_right : {A : Type 0} (test : A → Bool) (xs ys : List A) → Each test (xs ++ ys) → Each test ys
each_right test [] ys h = h
each_right test (x ∷ xs) ys h = each_right test xs ys h.1

pub filter_kept : {A : Type 0} (test : A → Bool) (xs : List A) → Each test xs → filter test xs ≡ xs
filter_kept test [] h = refl
filter_kept test (x ∷ xs) h = rw (h.0) (ap (λ rest. x ∷ rest) (filter_kept test xs h.1))

abbrev pub Fails : {A : Type 0} → (A → Bool) → List A → Type 0
Fails test xs = Each (λ x. not (test x)) xs

pub each_filtered : {A : Type 0} (test : A → Bool) (xs : List A) → Each test (filter test xs)
each_filtered test [] = tt
each_filtered test (x ∷ xs) =
    elim (is_either (test x)) [
      | inl t ↦ rw t (t, each_filtered test xs)
      | inr f ↦ rw f (each_filtered test xs)
    ]

is_not : (b : Bool) → not b ≡ true → b ≡ false
is_not true h = sym h
is_not false h = refl

pub filter_dropped : {A : Type 0} (test : A → Bool) (xs ys : List A) → Fails test xs → filter test (xs ++ ys) ≡ filter test ys
filter_dropped test [] ys h = refl
filter_dropped test (x ∷ xs) ys h = rw (is_not (test x) h.0) (filter_dropped test xs ys h.1)

not_of : (b : Bool) → b ≡ false → not b ≡ true
not_of b h = rw h refl

pub fails_from : {A : Type 0} (passed test : A → Bool) (xs : List A) → ((x : A) → passed x ≡ true → test x ≡ false) → Each passed xs → Fails test xs
fails_from passed test [] h all = tt
fails_from passed test (x ∷ xs) h all = (not_of (test x) (h x all.0), fails_from passed test xs h all.1)

pub met_assoc : (b : Bool) (p : ℕ) (met bs : List ℕ) → met_with b p met ++ bs ≡ met ++ (met_with b p [] ++ bs)
met_assoc true p met bs = append_assoc met (p ∷ []) bs
met_assoc false p met bs = refl

module _ {R K : Type 0} (form : Form R K) where
  pub are_yes : (after : Option K) (rs : List R) → Each (is_above form after) rs → are_above form after rs ≡ true
  are_yes after [] h = refl
  are_yes after (r ∷ rs) h = and_from (is_above form after r) (are_above form after rs) h.0 (are_yes after rs h.1)

  pub yes_each : (after : Option K) (rs : List R) → are_above form after rs ≡ true → Each (is_above form after) rs
  yes_each after [] h = tt
  yes_each after (r ∷ rs) h = let p = and_parts (is_above form after r) (are_above form after rs) h in (p.0, yes_each after rs p.1)

  -- of some that fail, and others beside, not all are above
  pub are_no : (after : Option K) (xs ys zs : List R) → (ys ≡ [] → ⊥) → Fails (is_above form after) ys → are_above form after (xs ++ (ys ++ zs)) ≡ false
  are_no after [] [] zs some h = absurd (some refl)
  are_no after [] (y ∷ ys) zs some h = rw (is_not (is_above form after y) h.0) refl
  are_no after (x ∷ xs) ys zs some h =
      elim (is_either (is_above form after x)) [
        | inl t ↦ rw t (are_no after xs ys zs some h)
        | inr f ↦ rw f refl
      ]

  pub are_no_one : (after : Option K) (ys : List R) → (ys ≡ [] → ⊥) → Fails (is_above form after) ys → are_above form after ys ≡ false
  are_no_one after [] some h = absurd (some refl)
  are_no_one after (y ∷ ys) some h = rw (is_not (is_above form after y) h.0) refl

  pub above_none : (rs : List R) → Each (is_above form None) rs
  above_none [] = tt
  above_none (r ∷ rs) = (refl, above_none rs)

  -- the key behind some records doesn't depend on the one before
  same_behind : (before after : Option K) (rs : List R) → (rs ≡ [] → ⊥) → key_behind form before rs ≡ key_behind form after rs
  same_behind before after [] some = absurd (some refl)
  same_behind before after (r ∷ rs) some = refl

  module _ (law : IsLawful form) where
    -- where the first of rising records is above, all are
    pub above_each : (after : Option K) (r : R) (rs : List R) → IsRising form (r ∷ rs) → is_above form after r ≡ true → Each (is_above form after) (r ∷ rs)
    above_each None r rs rising h = above_none (r ∷ rs)
    above_each (Some key) r rs rising h = all_above form law key (r ∷ rs) rising h

    -- rising records are some that aren't above, and those that are
    pub record Parts (after : Option K) (recs : List R) : Type 0 where
      pub low : List R
      pub fails : Fails (is_above form after) low
      pub whole : recs ≡ low ++ records_above form after recs

    pub parts_of : (after : Option K) (recs : List R) → IsRising form recs → Parts after recs
    parts_of after [] rising = record { low = []; fails = tt; whole = refl }
    parts_of after (r ∷ rs) rising =
        elim (is_either (is_above form after r)) [
          | inl t ↦ (let e = filter_kept (is_above form after) (r ∷ rs) (above_each after r rs rising t) in
              record { low = []; fails = tt; whole = sym e })
          | inr f ↦ (let p = parts_of after rs rising.1 in
              record { low = r ∷ p.low; fails = (rw f refl, p.fails); whole = rw f (ap (λ v. r ∷ v) p.whole) })
        ]

    -- behind the last of some records in the middle
    pub record Behind (after : Option K) (xs rs ys : List R) : Type 0 where
      pub front : Fails (is_above form (key_behind form after rs)) xs
      pub part : Fails (is_above form (key_behind form after rs)) rs
      pub rest : Each (is_above form (key_behind form after rs)) ys

    fails_left : (key : Option K) (xs ys : List R) → Fails (is_above form key) (xs ++ ys) → Fails (is_above form key) xs
    fails_left key xs ys h = each_left (λ x. not (is_above form key x)) xs ys h

    fails_right : (key : Option K) (xs ys : List R) → Fails (is_above form key) (xs ++ ys) → Fails (is_above form key) ys
    fails_right key xs ys h = each_right (λ x. not (is_above form key x)) xs ys h

    rest_above : (r : R) (ys : List R) → IsRising form (r ∷ ys) → Each (is_above form (Some (form.key_of r))) ys
    rest_above r [] h = tt
    rest_above r (y ∷ ys) h = all_above form law (form.key_of r) (y ∷ ys) h.1 h.0

    last_one : (r : R) (xs ys : List R) → IsRising form (xs ++ r ∷ ys) → Behind None xs (r ∷ []) ys
    last_one r xs ys rising =
        let own = law.strict (form.key_of r) in
        record {
          front = fails_from (λ x. form.is_before (form.key_of x) (form.key_of r)) (is_above form (Some (form.key_of r))) xs (λ x h. passed_not_above form law (form.key_of r) x h) (all_passed form law (form.key_of r) xs (r ∷ []) ys rising own);
          part = (rw own refl, tt);
          rest = rest_above r ys (rising_rest form law xs (r ∷ ys) rising);
        }

    pub behind : (after : Option K) (xs rs ys : List R) → (rs ≡ [] → ⊥) → IsRising form (xs ++ (rs ++ ys)) → Behind after xs rs ys
    behind after xs [] ys some rising = absurd (some refl)
    behind after xs (r ∷ []) ys some rising = let b = last_one r xs ys rising in record { front = b.front; part = b.part; rest = b.rest }
    behind after xs (r ∷ s ∷ rs) ys some rising =
        let moved : IsRising form ((xs ++ r ∷ []) ++ ((s ∷ rs) ++ ys)) = let P : List R → Type 0 = λ v. IsRising form v in subst P (sym (append_assoc xs (r ∷ []) ((s ∷ rs) ++ ys))) rising in
        let b = behind (Some (form.key_of r)) (xs ++ r ∷ []) (s ∷ rs) ys (λ e. cc) moved in
        let key = key_behind form (Some (form.key_of r)) (s ∷ rs) in
        let f : Fails (is_above form key) (xs ++ r ∷ []) = b.front in
        record {
          front = fails_left key xs (r ∷ []) f;
          part = ((fails_right key xs (r ∷ []) f).0, b.part);
          rest = b.rest;
        }

    -- what is left behind the last of them
    pub left_behind : (after : Option K) (xs rs ys : List R) → Behind after xs rs ys → records_above form (key_behind form after rs) (xs ++ (rs ++ ys)) ≡ ys
    left_behind after xs rs ys b =
        filter_dropped (is_above form (key_behind form after rs)) xs (rs ++ ys) b.front
        ∙ filter_dropped (is_above form (key_behind form after rs)) rs ys b.part
        ∙ filter_kept (is_above form (key_behind form after rs)) ys b.rest
