-- The list of a tree's claims has the claimed blocks and no others, and rises.
use Rattle.std.proofs.Common.{◌≡◌, ℕ, zero, suc, ◌+◌, ◌-◌, ◌<◌, ◌≤◌, Bool, true, false, List, [], ◌∷◌, ◌++◌, refl, ap, sym, subst, ◌∙◌, inl, inr, arith}
use Rattle.std.specs.Prelude.{Option, Some, None, is_none, ◌⊎◌, ◌==◌, ◌&&◌, ◌||◌, nat_lt, nat_le, if◌then◌else◌}
use Rattle.std.proofs.lemmas.Bool.{and_parts, and_from, or_cases, or_left, or_right, ltb-true, leb-true, lt-ltb, le-leb, eqb-true, eq-eqb, cases_lt, false≢true}
use Rattle.std.proofs.lemmas.Bool.Decides.{nat_tests}
use Rattle.sblock.specs.Area.{area_of, child_of}
use Rattle.sblock.specs.Blocks.{numrecs}
use Rattle.sblock.specs.Form.{Form}
use Rattle.sblock.specs.Lists.{items_from, IsAhead, Rises}
use Rattle.tree_defs.specs.Claims.{is_named, lone_fault, opens, Leads, IsReached, IsClaimed, children_at, reached_at, reached_to, is_claimed, claims_of, ListsClaims, ClaimsAreListed}
use Rattle.tree_defs.specs.Lists.{In, is_in, spread, passing}
use Rattle.tree_defs.specs.Tree.{top_of}
use Rattle.tree_defs.specs.declared.site.Site.{Site}
use Rattle.tree_defs.proofs.LoneFacts.{child_inside}

-- ---- lists

in_cases : (p : ℕ) (xs ys : List ℕ) → In p (xs ++ ys) → In p xs ⊎ In p ys
in_cases p [] ys h = inr h
in_cases p (x ∷ xs) ys (inl e) = inl (inl e)
in_cases p (x ∷ xs) ys (inr h) = elim (in_cases p xs ys h) [ inl i ↦ inl (inr i) | inr i ↦ inr i ]

in_left : (p : ℕ) (xs ys : List ℕ) → In p xs → In p (xs ++ ys)
in_left p [] ys h = absurd h
in_left p (x ∷ xs) ys (inl e) = inl e
in_left p (x ∷ xs) ys (inr h) = inr (in_left p xs ys h)

in_right : (p : ℕ) (xs ys : List ℕ) → In p ys → In p (xs ++ ys)
in_right p [] ys h = h
in_right p (x ∷ xs) ys h = inr (in_right p xs ys h)

is_there : (p : ℕ) (xs : List ℕ) → is_in p xs ≡ true → In p xs
is_there p [] h = absurd (false≢true h)
is_there p (x ∷ xs) h = elim (or_cases (x == p) (is_in p xs) h) [ inl e ↦ inl (eqb-true x p e) | inr i ↦ inr (is_there p xs i) ]

there_is : (p : ℕ) (xs : List ℕ) → In p xs → is_in p xs ≡ true
there_is p [] h = absurd h
there_is p (x ∷ xs) (inl e) = or_left (x == p) (is_in p xs) (eq-eqb x p e)
there_is p (x ∷ xs) (inr h) = or_right (x == p) (is_in p xs) (there_is p xs h)

in_if : (p : ℕ) (b : Bool) (xs : List ℕ) → In p (if b then xs else []) → (b ≡ true) × In p xs
in_if p true xs h = (refl, h)
in_if p false xs h = absurd h

if_in : (p : ℕ) (b : Bool) (xs : List ℕ) → b ≡ true → In p xs → In p (if b then xs else [])
if_in p b xs on h = rw on h

from_items : (f : ℕ → ℕ) (p n i : ℕ) → In p (items_from f n i) → (j : ℕ) × (j < i + n) × (f j ≡ p)
from_items f p zero i h = absurd h
from_items f p (suc n) i (inl e) = (i, omega arith, e)
from_items f p (suc n) i (inr h) = let r = from_items f p n (i + 1) h in let l = r.1 in (r.0, omega (arith, l), r.2)

to_items : (f : ℕ → ℕ) (p n i j : ℕ) → i ≤ j → j < i + n → f j ≡ p → In p (items_from f n i)
to_items f p zero i j lo hi e = absurd (omega arith)
to_items f p (suc n) i j lo hi e =
    elim (cases_lt i j) [
      | inl lt ↦ inr (to_items f p n (i + 1) j (omega arith) (omega arith) e)
      | inr le ↦ let same : j ≡ i = omega arith in inl (sym (ap f same) ∙ e)
    ]

from_spread : (f : ℕ → List ℕ) (p : ℕ) (xs : List ℕ) → In p (spread f xs) → (q : ℕ) × In q xs × In p (f q)
from_spread f p [] h = absurd h
from_spread f p (x ∷ xs) h =
    elim (in_cases p (f x) (spread f xs) h) [
      | inl i ↦ (x, inl refl, i)
      | inr i ↦ let r = from_spread f p xs i in (r.0, inr r.1, r.2)
    ]

to_spread : (f : ℕ → List ℕ) (p q : ℕ) (xs : List ℕ) → In q xs → In p (f q) → In p (spread f xs)
to_spread f p q [] h i = absurd h
to_spread f p q (x ∷ xs) (inl e) i = in_left p (f x) (spread f xs) (subst (λ y. In p (f y)) (sym e) i)
to_spread f p q (x ∷ xs) (inr h) i = in_right p (f x) (spread f xs) (to_spread f p q xs h i)

pass_head : (b : Bool) (p q : ℕ) (xs : List ℕ) → In p (if b then q ∷ xs else xs) → ((b ≡ true) × (q ≡ p)) ⊎ In p xs
pass_head true p q xs (inl e) = inl (refl, e)
pass_head true p q xs (inr h) = inr h
pass_head false p q xs h = inr h

from_passing : (t : ℕ → Bool) (p : ℕ) (xs : List ℕ) → In p (passing t xs) → (t p ≡ true) × In p xs
from_passing t p [] h = absurd h
from_passing t p (x ∷ xs) h =
    elim (pass_head (t x) p x (passing t xs) h) [
      | inl e ↦ (sym (ap t e.1) ∙ e.0, inl e.1)
      | inr i ↦ let r = from_passing t p xs i in (r.0, inr r.1)
    ]

head_pass : (b : Bool) (p q : ℕ) (xs : List ℕ) → In p xs → In p (if b then q ∷ xs else xs)
head_pass true p q xs h = inr h
head_pass false p q xs h = h

to_passing : (t : ℕ → Bool) (p : ℕ) (xs : List ℕ) → t p ≡ true → In p xs → In p (passing t xs)
to_passing t p [] on h = absurd h
to_passing t p (x ∷ xs) on (inl e) = let on_x : t x ≡ true = ap t e ∙ on in rw on_x (inl e)
to_passing t p (x ∷ xs) on (inr h) = head_pass (t x) p x (passing t xs) (to_passing t p xs on h)

-- numbers that are counted off rise, also where some are left out
ahead_passing : (b : Bool) (p q : ℕ) (xs : List ℕ) → p < q → IsAhead nat_lt p xs → IsAhead nat_lt p (if b then q ∷ xs else xs)
ahead_passing true p q xs lt h = lt-ltb p q lt
ahead_passing false p q xs lt h = h

ahead_of : (t : ℕ → Bool) (p n i : ℕ) → p < i → IsAhead nat_lt p (passing t (items_from (λ x. x) n i))
ahead_of t p zero i lt = tt
ahead_of t p (suc n) i lt = ahead_passing (t i) p i (passing t (items_from (λ x. x) n (i + 1))) lt (ahead_of t p n (i + 1) (omega (arith, lt)))

rising_passing : (b : Bool) (q : ℕ) (xs : List ℕ) → IsAhead nat_lt q xs → Rises nat_lt xs → Rises nat_lt (if b then q ∷ xs else xs)
rising_passing true q xs ahead rises = (ahead, rises)
rising_passing false q xs ahead rises = rises

counted_rise : (t : ℕ → Bool) (n i : ℕ) → Rises nat_lt (passing t (items_from (λ x. x) n i))
counted_rise t zero i = tt
counted_rise t (suc n) i = rising_passing (t i) i (passing t (items_from (λ x. x) n (i + 1))) (ahead_of t i n (i + 1) (omega arith)) (counted_rise t n (i + 1))

-- ---- trees

top_small : (levels : ℕ) → top_of levels ≤ 9
top_small levels = grind (arith, nat_tests)

no_fault : {A : Type 0} (o : Option A) → is_none o ≡ true → o ≡ None
no_fault None h = refl
no_fault (Some a) h = absurd (false≢true h)

module _ {R K : Type 0} (form : Form R K) (site : Site) (m : ℕ → List ℕ) (root levels : ℕ) where
  leads : (level : ℕ) (top : Bool) (q p : ℕ) → In p (children_at form site m level top q) → Leads form site level top q (m q) p
  leads level top q p h =
      let x = in_if p (nat_lt 0 level && opens form site level top q (m q)) (items_from (child_of form.kind (area_of (m q))) (numrecs (m q)) 0) h in
      let y = and_parts (nat_lt 0 level) (opens form site level top q (m q)) x.0 in
      let z = from_items (child_of form.kind (area_of (m q))) p (numrecs (m q)) 0 x.1 in
      let l = z.1 in
      record { above = ltb-true 0 level y.0; passes = y.1; entry = z.0; within = omega (arith, l); child = z.2 }

  led : (level : ℕ) (top : Bool) (q p : ℕ) → Leads form site level top q (m q) p → In p (children_at form site m level top q)
  led level top q p h =
      let l = h.within in
      if_in p (nat_lt 0 level && opens form site level top q (m q)) (items_from (child_of form.kind (area_of (m q))) (numrecs (m q)) 0) (and_from (nat_lt 0 level) (opens form site level top q (m q)) (lt-ltb 0 level h.above) h.passes) (to_items (child_of form.kind (area_of (m q))) p (numrecs (m q)) 0 h.entry (omega arith) (omega (arith, l)) h.child)

  row_reached : (d p : ℕ) → In p (reached_at form site m root levels d) → IsReached form site m root levels d p
  row_reached zero p (inl e) = sym e
  row_reached zero p (inr h) = absurd h
  row_reached (suc d) p h =
      let x = from_spread (children_at form site m (top_of levels - d) (d == 0)) p (reached_at form site m root levels d) h in
      (x.0, row_reached d x.0 x.1, leads (top_of levels - d) (d == 0) x.0 p x.2)

  reached_row : (d p : ℕ) → IsReached form site m root levels d p → In p (reached_at form site m root levels d)
  reached_row zero p e = inl (sym e)
  reached_row (suc d) p h =
      to_spread (children_at form site m (top_of levels - d) (d == 0)) p h.0 (reached_at form site m root levels d) (reached_row d h.0 h.1) (led (top_of levels - d) (d == 0) h.0 p h.2)

  depth_small : (d p : ℕ) → IsReached form site m root levels d p → d < 10
  depth_small zero p h = omega arith
  depth_small (suc d) p h = let a = h.2.above in let t = top_small levels in omega (arith, a, t)

  from_rows : (n p : ℕ) → In p (reached_to form site m root levels n) → (d : ℕ) × In p (reached_at form site m root levels d)
  from_rows zero p h = absurd h
  from_rows (suc n) p h =
      elim (in_cases p (reached_to form site m root levels n) (reached_at form site m root levels n) h) [ inl i ↦ from_rows n p i | inr i ↦ (n, i) ]

  to_rows : (n d p : ℕ) → d < n → In p (reached_at form site m root levels d) → In p (reached_to form site m root levels n)
  to_rows zero d p lt h = absurd (omega (arith, lt))
  to_rows (suc n) d p lt h =
      elim (cases_lt d n) [
        | inl l ↦ in_left p (reached_to form site m root levels n) (reached_at form site m root levels n) (to_rows n d p l h)
        | inr g ↦
            let e : d ≡ n = omega (arith, lt, g) in
            in_right p (reached_to form site m root levels n) (reached_at form site m root levels n) (subst (λ x. In p (reached_at form site m root levels x)) e h)
      ]

  child_lies : (level : ℕ) (top : Bool) (q p : ℕ) → Leads form site level top q (m q) p → p < site.bounds.length
  unfolding opens
  child_lies level top q p l =
      let c = child_inside form site level top q (m q) (no_fault (lone_fault form site level top q (m q)) l.passes) l.above l.entry l.within in
      subst (λ x. x < site.bounds.length) l.child c

  reached_lies : root < site.bounds.length → (d p : ℕ) → IsReached form site m root levels d p → p < site.bounds.length
  reached_lies below zero p e = omega (arith, e, below)
  reached_lies below (suc d) p h = child_lies (top_of levels - d) (d == 0) h.0 p h.2

  test_claims : (p : ℕ) → is_claimed form site m root levels p ≡ true → IsClaimed form site m root levels p
  unfolding is_claimed
  test_claims p h =
      let x = and_parts (nat_le 1 root && nat_lt root site.bounds.length && is_in p (reached_to form site m root levels 10)) (is_named form.kind site p (m p)) h in
      let y = and_parts (nat_le 1 root && nat_lt root site.bounds.length) (is_in p (reached_to form site m root levels 10)) x.0 in
      let z = and_parts (nat_le 1 root) (nat_lt root site.bounds.length) y.0 in
      let w = from_rows 10 p (is_there p (reached_to form site m root levels 10) y.1) in
      record { some = leb-true 1 root z.0; inside = ltb-true root site.bounds.length z.1; depth = w.0; reached = row_reached w.0 p w.1; named = x.1 }

  claims_test : (p : ℕ) → IsClaimed form site m root levels p → is_claimed form site m root levels p ≡ true
  unfolding is_claimed
  claims_test p h =
      let inside = and_from (nat_le 1 root) (nat_lt root site.bounds.length) (le-leb 1 root h.some) (lt-ltb root site.bounds.length h.inside) in
      let there = there_is p (reached_to form site m root levels 10) (to_rows 10 h.depth p (depth_small h.depth p h.reached) (reached_row h.depth p h.reached)) in
      and_from (nat_le 1 root && nat_lt root site.bounds.length && is_in p (reached_to form site m root levels 10)) (is_named form.kind site p (m p)) (and_from (nat_le 1 root && nat_lt root site.bounds.length) (is_in p (reached_to form site m root levels 10)) inside there) h.named

  claims_from : (p : ℕ) → In p (claims_of form site m root levels) → IsClaimed form site m root levels p
  unfolding claims_of
  claims_from p h = test_claims p (from_passing (is_claimed form site m root levels) p (items_from (λ x. x) site.bounds.length 0) h).0

  claims_to : (p : ℕ) → IsClaimed form site m root levels p → In p (claims_of form site m root levels)
  unfolding claims_of
  claims_to p h =
      let lies = reached_lies h.inside h.depth p h.reached in
      to_passing (is_claimed form site m root levels) p (items_from (λ x. x) site.bounds.length 0) (claims_test p h) (to_items (λ x. x) p site.bounds.length 0 p (omega arith) (omega (arith, lies)) refl)

  claims_rise : Rises nat_lt (claims_of form site m root levels)
  unfolding claims_of
  claims_rise = counted_rise (is_claimed form site m root levels) site.bounds.length 0

pub claims_are_listed_lem : {R K : Type 0} (form : Form R K) → ClaimsAreListed form
claims_are_listed_lem form site m root levels =
    (λ p. ((claims_from form site m root levels p, claims_to form site m root levels p), (test_claims form site m root levels p, claims_test form site m root levels p)), claims_rise form site m root levels)
