-- Lists, what they have, and those that rise in an order.
use Rattle.std.proofs.Common.{◌≡◌, ◌<◌, ◌⊎◌, ℕ, zero, suc, Bool, true, false, cond, ◌||◌, List, [], ◌∷◌, length, get_or, map, find, Contains, Some, None, refl, sym, ap, ◌∙◌, subst, inl, inr, arith}
use Rattle.std.specs.List.{list_any, filter}
use Rattle.std.proofs.lemmas.Bool.{false≢true}
use Rattle.sblock.specs.Lists.{IsAhead, Rises}

either_true : (a b : Bool) → (a || b) ≡ true → (a ≡ true) ⊎ (b ≡ true)
either_true true b h = inl refl
either_true false b h = inr h

second_true : (a b : Bool) → b ≡ true → (a || b) ≡ true
second_true true b h = refl
second_true false b h = h

module _ {A : Type 0} where
  pub nothing_in : (x : A) → Contains [] x → ⊥
  nothing_in x c = let within = c.1 in omega arith

  pub in_front : (x : A) (xs : List A) → Contains (x ∷ xs) x
  in_front x xs = (0, omega arith, refl)

  pub in_rest : (y : A) (xs : List A) (x : A) → Contains xs x → Contains (y ∷ xs) x
  in_rest y xs x c = let within = c.1 in (suc c.0, omega arith, c.2)

  place_in : (y : A) (xs : List A) (x : A) (k : ℕ) → k < length (y ∷ xs) → get_or (y ∷ xs) k x ≡ x → (y ≡ x) ⊎ Contains xs x
  place_in y xs x zero within here = inl here
  place_in y xs x (suc k) within here = inr (k, omega arith, here)

  pub in_either : (y : A) (xs : List A) (x : A) → Contains (y ∷ xs) x → (y ≡ x) ⊎ Contains xs x
  in_either y xs x c = place_in y xs x c.0 c.1 c.2

  -- an element that passes, where there is any
  pub any_found : (p : A → Bool) (xs : List A) → list_any p xs ≡ true → (x : A) × Contains xs x × (p x ≡ true)
  any_found p [] h = absurd (false≢true h)
  any_found p (y ∷ xs) h = elim (either_true (p y) (list_any p xs) h) [
    | inl here ↦ (y, in_front y xs, here)
    | inr later ↦ let on = any_found p xs later in (on.0, in_rest y xs on.0 on.1, on.2)
  ]

  pub any_here : (p : A → Bool) (xs : List A) (x : A) → Contains xs x → p x ≡ true → list_any p xs ≡ true
  any_here p [] x c h = absurd (nothing_in x c)
  any_here p (y ∷ xs) x c h = elim (in_either y xs x c) [
    | inl same ↦ rw (subst (λ (z : A). p z ≡ true) (sym same) h) refl
    | inr later ↦ second_true (p y) (list_any p xs) (any_here p xs x later h)
  ]

  -- an element of a filtered list passes, and is one of the list
  pub filtered : (p : A → Bool) (xs : List A) (x : A) → Contains (filter p xs) x → Contains xs x × (p x ≡ true)
  filtered p [] x c = absurd (nothing_in x c)
  filtered p (y ∷ xs) x c = (elim (p y) as (λ b. p y ≡ b → Contains (cond b (y ∷ filter p xs) (filter p xs)) x → Contains (y ∷ xs) x × (p x ≡ true)) [
    | true ↦ λ h d. elim (in_either y (filter p xs) x d) [
      | inl same ↦ (subst (Contains (y ∷ xs)) same (in_front y xs), subst (λ (z : A). p z ≡ true) same h)
      | inr later ↦ let on = filtered p xs x later in (in_rest y xs x on.0, on.1)
    ]
    | false ↦ λ h d. let on = filtered p xs x d in (in_rest y xs x on.0, on.1)
  ]) refl c

  pub kept_by_filter : (p : A → Bool) (xs : List A) (x : A) → Contains xs x → p x ≡ true → Contains (filter p xs) x
  kept_by_filter p [] x c h = absurd (nothing_in x c)
  kept_by_filter p (y ∷ xs) x c h = elim (in_either y xs x c) [
    | inl same ↦ rw (subst (λ (z : A). p z ≡ true) (sym same) h) (subst (Contains (y ∷ filter p xs)) same (in_front y (filter p xs)))
    | inr later ↦ (elim (p y) as (λ b. Contains (cond b (y ∷ filter p xs) (filter p xs)) x) [
      | true ↦ in_rest y (filter p xs) x (kept_by_filter p xs x later h)
      | false ↦ kept_by_filter p xs x later h
    ])
  ]

  pub at_place : (xs : List A) (k : ℕ) (d : A) → k < length xs → Contains xs (get_or xs k d)
  at_place [] k d within = absurd (omega arith)
  at_place (x ∷ xs) zero d within = in_front x xs
  at_place (x ∷ xs) (suc k) d within = in_rest x xs (get_or xs k d) (at_place xs k d (omega arith))

  module _ (before : A → A → Bool) (along : (a b c : A) → before a b ≡ true → before b c ≡ true → before a c ≡ true) where
    ahead_of : (a b : A) (xs : List A) → before a b ≡ true → IsAhead before b xs → IsAhead before a xs
    ahead_of a b [] h ahead = tt
    ahead_of a b (x ∷ xs) h ahead = along a b x h ahead

    -- the first one comes before each behind it
    pub before_rest : (a : A) (xs : List A) → Rises before (a ∷ xs) → (x : A) → Contains xs x → before a x ≡ true
    before_rest a [] rises x c = absurd (nothing_in x c)
    before_rest a (y ∷ xs) rises x c = elim (in_either y xs x c) [
      | inl same ↦ subst (λ (z : A). before a z ≡ true) same rises.0
      | inr later ↦ before_rest a xs (ahead_of a y xs rises.0 rises.1.0, rises.1.1) x later
    ]

    -- each comes before those at later places
    pub before_later : (xs : List A) → Rises before xs → (i j : ℕ) (d : A) → i < j → j < length xs → before (get_or xs i d) (get_or xs j d) ≡ true
    before_later [] rises i j d order within = absurd (omega arith)
    before_later (x ∷ xs) rises i zero d order within = absurd (omega arith)
    before_later (x ∷ xs) rises zero (suc j) d order within = before_rest x xs rises (get_or xs j d) (at_place xs j d (omega arith))
    before_later (x ∷ xs) rises (suc i) (suc j) d order within = before_later xs rises.1 i j d (omega arith) (omega arith)

    ahead_filter : (p : A → Bool) (a : A) (xs : List A) → Rises before (a ∷ xs) → IsAhead before a (filter p xs)
    ahead_filter p a [] rises = tt
    ahead_filter p a (x ∷ xs) rises = elim (p x) as (λ b. IsAhead before a (cond b (x ∷ filter p xs) (filter p xs))) [
      | true ↦ rises.0
      | false ↦ ahead_filter p a xs (ahead_of a x xs rises.0 rises.1.0, rises.1.1)
    ]

    -- what is left of a list that rises does so too
    pub filter_rises : (p : A → Bool) (xs : List A) → Rises before xs → Rises before (filter p xs)
    filter_rises p [] rises = tt
    filter_rises p (x ∷ xs) rises = elim (p x) as (λ b. Rises before (cond b (x ∷ filter p xs) (filter p xs))) [
      | true ↦ (ahead_filter p x xs rises, filter_rises p xs rises.1)
      | false ↦ filter_rises p xs rises.1
    ]

    module _ (strict : (a : A) → before a a ≡ false) where
      never : (a : A) → before a a ≡ true → ⊥
      never a h = false≢true (sym (strict a) ∙ h)

      first_same : (x : A) (xs : List A) (y : A) (ys : List A) → Rises before (x ∷ xs) → Rises before (y ∷ ys) → Contains (y ∷ ys) x → Contains (x ∷ xs) y → y ≡ x
      first_same x xs y ys rise_x rise_y has_x has_y = elim (in_either y ys x has_x) [
        | inl same ↦ same
        | inr later ↦ elim (in_either x xs y has_y) [
          | inl same ↦ sym same
          | inr behind ↦ absurd (never x (along x y x (before_rest x xs rise_x y behind) (before_rest y ys rise_y x later)))
        ]
      ]

      in_other_rest : (x : A) (xs : List A) (y : A) (ys : List A) → Rises before (x ∷ xs) → y ≡ x → ((z : A) → Contains (x ∷ xs) z → Contains (y ∷ ys) z) → (z : A) → Contains xs z → Contains ys z
      in_other_rest x xs y ys rise_x same each z c = elim (in_either y ys z (each z (in_rest x xs z c))) [
        | inl here ↦ absurd (never x (subst (λ (w : A). before x w ≡ true) (sym here ∙ same) (before_rest x xs rise_x z c)))
        | inr later ↦ later
      ]

      -- two lists that rise and have the same elements are one
      pub one_rising : (xs ys : List A) → Rises before xs → Rises before ys → ((z : A) → Contains xs z → Contains ys z) → ((z : A) → Contains ys z → Contains xs z) → xs ≡ ys
      one_rising [] [] rise_x rise_y to back = refl
      one_rising [] (y ∷ ys) rise_x rise_y to back = absurd (nothing_in y (back y (in_front y ys)))
      one_rising (x ∷ xs) [] rise_x rise_y to back = absurd (nothing_in x (to x (in_front x xs)))
      one_rising (x ∷ xs) (y ∷ ys) rise_x rise_y to back =
          let same : y ≡ x = first_same x xs y ys rise_x rise_y (to x (in_front x xs)) (back y (in_front y ys)) in
          let rest : xs ≡ ys = one_rising xs ys rise_x.1 rise_y.1 (in_other_rest x xs y ys rise_x same to) (in_other_rest y ys x xs rise_y (sym same) back) in
          λ i. sym same i ∷ rest i

pub Rises-map : {A B : Type 0} (before : A → A → Bool) (under : B → B → Bool) (f : A → B) → ((a b : A) → before a b ≡ true → under (f a) (f b) ≡ true) → (xs : List A) → Rises before xs → Rises under (map f xs)
Rises-map before under f keeps [] rises = tt
Rises-map before under f keeps (x ∷ []) rises = (tt, tt)
Rises-map before under f keeps (x ∷ y ∷ xs) rises = (keeps x y rises.0, Rises-map before under f keeps (y ∷ xs) rises.1)

pub mapped : {A B : Type 0} (f : A → B) (xs : List A) (y : B) → Contains (map f xs) y → (x : A) × Contains xs x × (f x ≡ y)
mapped f [] y c = absurd (nothing_in y c)
mapped f (x ∷ xs) y c = elim (in_either (f x) (map f xs) y c) [
  | inl same ↦ (x, in_front x xs, same)
  | inr later ↦ let on = mapped f xs y later in (on.0, in_rest x xs on.0 on.1, on.2)
]

pub kept_by_map : {A B : Type 0} (f : A → B) (xs : List A) (x : A) → Contains xs x → Contains (map f xs) (f x)
kept_by_map f [] x c = absurd (nothing_in x c)
kept_by_map f (y ∷ xs) x c = elim (in_either y xs x c) [
  | inl same ↦ (0, omega arith, ap f same)
  | inr later ↦ in_rest (f y) (map f xs) (f x) (kept_by_map f xs x later)
]

pub same_default : {A : Type 0} (xs : List A) (k : ℕ) (d e : A) → k < length xs → get_or xs k d ≡ get_or xs k e
same_default [] k d e within = absurd (omega arith)
same_default (x ∷ xs) zero d e within = refl
same_default (x ∷ xs) (suc k) d e within = same_default xs k d e (omega arith)

pub false_by : (b : Bool) → (b ≡ true → ⊥) → b ≡ false
false_by true h = absurd (h refl)
false_by false h = refl

pub found_by_find : {A : Type 0} (p : A → Bool) (xs : List A) (x : A) → find p xs ≡ Some x → Contains xs x × (p x ≡ true)
found_by_find p [] x h = cc
found_by_find {A = A} p (y ∷ xs) x h = (elim (p y) as (λ b. p y ≡ b → cond b (Some y) (find p xs) ≡ Some x → Contains (y ∷ xs) x × (p x ≡ true)) [
  | true ↦ λ passes found. let same : y ≡ x = cc in (subst (Contains (y ∷ xs)) same (in_front y xs), subst (λ (z : A). p z ≡ true) same passes)
  | false ↦ λ fails found. let on = found_by_find p xs x found in (in_rest y xs x on.0, on.1)
]) refl h

pub none_by_find : {A : Type 0} (p : A → Bool) (xs : List A) (x : A) → find p xs ≡ None → Contains xs x → p x ≡ false
none_by_find p [] x h c = absurd (nothing_in x c)
none_by_find {A = A} p (y ∷ xs) x h c = (elim (p y) as (λ b. p y ≡ b → cond b (Some y) (find p xs) ≡ None → p x ≡ false) [
  | true ↦ λ passes found. cc
  | false ↦ λ fails found. elim (in_either y xs x c) [
    | inl same ↦ subst (λ (z : A). p z ≡ false) same fails
    | inr later ↦ none_by_find p xs x found later
  ]
]) refl h

pub find_none_by : {A : Type 0} (p : A → Bool) (xs : List A) → ((x : A) → Contains xs x → p x ≡ false) → find p xs ≡ None
find_none_by p [] h = refl
find_none_by p (y ∷ xs) h = rw (h y (in_front y xs)) (find_none_by p xs (λ x c. h x (in_rest y xs x c)))

-- one element passes, and it is there
pub find_one_by : {A : Type 0} (p : A → Bool) (xs : List A) (x : A) → Contains xs x → p x ≡ true → ((y : A) → p y ≡ true → y ≡ x) → find p xs ≡ Some x
find_one_by p [] x c passes only = absurd (nothing_in x c)
find_one_by {A = A} p (y ∷ xs) x c passes only = (elim (p y) as (λ b. p y ≡ b → cond b (Some y) (find p xs) ≡ Some x) [
  | true ↦ λ here. ap Some (only y here)
  | false ↦ λ fails. elim (in_either y xs x c) [
    | inl same ↦ absurd (false≢true (sym fails ∙ subst (λ (z : A). p z ≡ true) (sym same) passes))
    | inr later ↦ find_one_by p xs x later passes only
  ]
]) refl
