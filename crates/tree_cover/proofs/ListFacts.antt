-- What holds of each or of some item of a list, and lists in the order of a kind.
use Rattle.std.proofs.Common.{◌≡◌, ◌≤◌, Bool, true, false, List, [], ◌∷◌, ◌++◌, refl, sym, ◌∙◌, inl, inr}
use Rattle.std.specs.Prelude.{◌⊎◌}
use Rattle.std.proofs.lemmas.Bool.{false≢true}
use Rattle.sblock.specs.Blocks.{IsRising}
use Rattle.sblock.specs.Form.{Form, IsLawful}
use Rattle.sblock.specs.Lists.{IsAhead, Each}
use Rattle.tree_cover.specs.Covers.{CoversBlocks, start_of}

abbrev pub AllOf : {A : Type 0} → (A → Type 0) → List A → Type 0
AllOf P [] = Unit {0}
AllOf P (a ∷ rest) = P a × AllOf P rest

abbrev pub SomeOf : {A : Type 0} → (A → Type 0) → List A → Type 0
SomeOf P [] = ⊥
SomeOf P (a ∷ rest) = P a ⊎ SomeOf P rest

pub all_map : {A : Type 0} (P Q : A → Type 0) (xs : List A) → ((a : A) → P a → Q a) → AllOf P xs → AllOf Q xs
all_map P Q [] f h = tt
all_map P Q (x ∷ xs) f h = (f x h.0, all_map P Q xs f h.1)

pub all_left : {A : Type 0} (P : A → Type 0) (xs ys : List A) → AllOf P (xs ++ ys) → AllOf P xs
all_left P [] ys h = tt
all_left P (x ∷ xs) ys h = (h.0, all_left P xs ys h.1)

pub all_right : {A : Type 0} (P : A → Type 0) (xs ys : List A) → AllOf P (xs ++ ys) → AllOf P ys
all_right P [] ys h = h
all_right P (x ∷ xs) ys h = all_right P xs ys h.1

pub all_append : {A : Type 0} (P : A → Type 0) (xs ys : List A) → AllOf P xs → AllOf P ys → AllOf P (xs ++ ys)
all_append P [] ys h k = k
all_append P (x ∷ xs) ys h k = (h.0, all_append P xs ys h.1 k)

pub all_both : {A : Type 0} (P Q : A → Type 0) (xs : List A) → AllOf P xs → AllOf Q xs → AllOf (λ a. P a × Q a) xs
all_both P Q [] h k = tt
all_both P Q (x ∷ xs) h k = ((h.0, k.0), all_both P Q xs h.1 k.1)

pub all_each : {A : Type 0} (test : A → Bool) (xs : List A) → Each test xs → AllOf (λ a. test a ≡ true) xs
all_each test [] h = tt
all_each test (x ∷ xs) h = (h.0, all_each test xs h.1)

-- one item that is there, of which both hold
pub some_and_all : {A : Type 0} (P Q S : A → Type 0) (xs : List A) → ((a : A) → P a → Q a → S a) → AllOf P xs → SomeOf Q xs → SomeOf S xs
some_and_all P Q S [] f h k = k
some_and_all P Q S (x ∷ xs) f h k = elim k [ inl here ↦ inl (f x h.0 here) | inr there ↦ inr (some_and_all P Q S xs f h.1 there) ]

pub either : (b : Bool) → (b ≡ true) ⊎ (b ≡ false)
either true = inl refl
either false = inr refl

module _ {R K : Type 0} (form : Form R K) where
  abbrev pub IsBefore : R → R → Type 0
  IsBefore r s = form.is_before (form.key_of r) (form.key_of s) ≡ true

  -- each record comes before all that stand behind it
  abbrev pub Ordered : List R → Type 0
  Ordered [] = Unit {0}
  Ordered (r ∷ rs) = AllOf (IsBefore r) rs × Ordered rs

  pub ordered_left : (xs ys : List R) → Ordered (xs ++ ys) → Ordered xs
  ordered_left [] ys h = tt
  ordered_left (x ∷ xs) ys h = (all_left (IsBefore x) xs ys h.0, ordered_left xs ys h.1)

  pub ordered_right : (xs ys : List R) → Ordered (xs ++ ys) → Ordered ys
  ordered_right [] ys h = h
  ordered_right (x ∷ xs) ys h = ordered_right xs ys h.1

  pub ordered_across : (xs ys : List R) → Ordered (xs ++ ys) → AllOf (λ x. AllOf (IsBefore x) ys) xs
  ordered_across [] ys h = tt
  ordered_across (x ∷ xs) ys h = (all_right (IsBefore x) xs ys h.0, ordered_across xs ys h.1)

  module _ (law : IsLawful form) where
    ahead_of_all : (r : R) (rs : List R) → IsAhead (λ a b. form.is_before (form.key_of a) (form.key_of b)) r rs → Ordered rs → AllOf (IsBefore r) rs
    ahead_of_all r [] h o = tt
    ahead_of_all r (s ∷ rs) h o = (h, all_map (IsBefore s) (IsBefore r) rs (λ a k. law.along (form.key_of r) (form.key_of s) (form.key_of a) h k) o.0)

    pub in_order : (rs : List R) → IsRising form rs → Ordered rs
    in_order [] h = tt
    in_order (r ∷ rs) h = let o = in_order rs h.1 in (ahead_of_all r rs h.0 o, o)

    -- a key isn't before one that it comes behind
    pub not_back : (a b : K) → form.is_before a b ≡ true → form.is_before b a ≡ false
    not_back a b h = elim (either (form.is_before b a)) [
      | inl k ↦ absurd (false≢true (sym (law.strict a) ∙ law.along a b a h k))
      | inr k ↦ k
    ]

    -- a key before one that isn't above another isn't above it either
    pub not_above : (a b c : K) → form.is_before a c ≡ false → form.is_before b c ≡ true → form.is_before a b ≡ false
    not_above a b c ac bc = elim (either (form.is_before a b)) [
      | inl ab ↦ absurd (false≢true (sym ac ∙ law.along a b c ab bc))
      | inr ab ↦ ab
    ]

    -- two keys that are the same have the same ones in front
    pub above_same : (a b c : K) → form.is_before c b ≡ false → form.is_before a b ≡ true → form.is_before a c ≡ true
    above_same a b c cb ab = elim (law.total a c b ab) [ inl h ↦ h | inr h ↦ absurd (false≢true (sym cb ∙ h)) ]

    module _ (covers : CoversBlocks form) where
      pub starts_later : (r s : R) → IsBefore r s → start_of form r ≤ start_of form s
      starts_later r s h = law.starts (covers.by_block) (form.key_of s) (form.key_of r) (not_back (form.key_of r) (form.key_of s) h)
