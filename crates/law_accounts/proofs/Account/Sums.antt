-- Sums over the intents of all chains, and over the parts of a run.
use Rattle.std.specs.Prelude.{ℕ, zero, suc, Bool, true, false, List, [], ◌∷◌, flat_map, ◌≡◌, ◌==◌, ◌+◌, ◌<◌, ◌≤◌, ◌⊎◌, refl, if◌then◌else◌, sum_by}
use Rattle.std.proofs.Common.{sym, ap, inl, inr, ◌∙◌, arith}
use Rattle.std.proofs.lemmas.Bool.{eq-eqb, eqb-true, cases_order}
use Rattle.std.proofs.lemmas.List.Sums.{sum_by-append, sum_by-cons}
use Rattle.fs_change.specs.Chains.{most_chains}
use Rattle.fs_change.specs.Parts.{at_only}
use Rattle.fs_state.specs.Lists.{numbers}
use Rattle.fs_model.specs.declared.entry.Extent.{Extent}
use Rattle.fs_state.specs.declared.intent.Intent.{Intent}
use Rattle.law_accounts.specs.Account.Accounts.{at_span, chains_sum, due, hits, in_span}
use Rattle.law_accounts.proofs.Account.Spans.{no_true, span_case, span_in, span_not, span_out}

pub same : (k : ℕ) → (k == k) ≡ true
same k = eq-eqb k k refl

pub at_same : {X : Type 0} (k : ℕ) (x : X) (f : ℕ → X) → at_only k x f k ≡ x
at_same k x f = rw (same k) refl

differ : (k c : ℕ) → (k ≡ c → ⊥) → (k == c) ≡ false
differ k c f = no_true (k == c) (λ e. f (eqb-true k c e))

module _ (f : Intent → ℕ) (c : ℕ) (is : List Intent) (cs : ℕ → List Intent) where
  sum_cons : (ds : ℕ → List Intent) (k n : ℕ) → chains_sum f ds k (suc n) ≡ sum_by f (ds k) + chains_sum f ds (k + 1) n
  sum_cons ds k n = sum_by-append f (ds k) (flat_map ds (numbers (k + 1) n))

  behind : (k n : ℕ) → c < k → chains_sum f (at_only c is cs) k n ≡ chains_sum f cs k n
  behind k zero lt = refl
  behind k (suc n) lt =
      let o : (k == c) ≡ false = differ k c (λ e. omega (arith, e, lt)) in
      let e : at_only c is cs k ≡ cs k = rw o refl in
      sum_cons (at_only c is cs) k n ∙ ap (λ z. sum_by f z + chains_sum f (at_only c is cs) (k + 1) n) e ∙ ap (λ z. sum_by f (cs k) + z) (behind (k + 1) n (omega (arith, lt))) ∙ sym (sum_cons cs k n)

  swap : (o s t x y z w : ℕ) → o ≡ s + t → x ≡ z + t → o + z ≡ x + s
  swap o s t x y z w e g = omega (arith, e, g)

  changes : (k n : ℕ) → k ≤ c → c < k + n → chains_sum f (at_only c is cs) k n + sum_by f (cs c) ≡ chains_sum f cs k n + sum_by f is
  changes k zero le lt = absurd (omega (arith, le, lt))
  changes k (suc n) le lt = elim (cases_order k c) [
    | inl e ↦
        let o : at_only c is cs k ≡ is = ap (at_only c is cs) e ∙ at_same c is cs in
        let b : chains_sum f (at_only c is cs) (k + 1) n ≡ chains_sum f cs (k + 1) n = behind (k + 1) n (omega (arith, e)) in
        let h : chains_sum f (at_only c is cs) k (suc n) ≡ sum_by f is + chains_sum f cs (k + 1) n = sum_cons (at_only c is cs) k n ∙ ap (λ z. sum_by f z + chains_sum f (at_only c is cs) (k + 1) n) o ∙ ap (λ z. sum_by f is + z) b in
        let g : chains_sum f cs k (suc n) ≡ sum_by f (cs c) + chains_sum f cs (k + 1) n = sum_cons cs k n ∙ ap (λ z. sum_by f (cs z) + chains_sum f cs (k + 1) n) e in
        arrange (chains_sum f (at_only c is cs) k (suc n)) (sum_by f is) (chains_sum f cs (k + 1) n) (chains_sum f cs k (suc n)) (sum_by f (cs c)) h g
    | inr (inl less) ↦
        let q : (k == c) ≡ false = differ k c (λ e. omega (arith, e, less)) in
        let o : at_only c is cs k ≡ cs k = rw q refl in
        let i = changes (k + 1) n (omega (arith, less)) (omega (arith, lt)) in
        let h : chains_sum f (at_only c is cs) k (suc n) ≡ sum_by f (cs k) + chains_sum f (at_only c is cs) (k + 1) n = sum_cons (at_only c is cs) k n ∙ ap (λ z. sum_by f z + chains_sum f (at_only c is cs) (k + 1) n) o in
        further (chains_sum f (at_only c is cs) k (suc n)) (sum_by f (cs k)) (chains_sum f (at_only c is cs) (k + 1) n) (chains_sum f cs k (suc n)) (chains_sum f cs (k + 1) n) (sum_by f (cs c)) (sum_by f is) h (sum_cons cs k n) i
    | inr (inr more) ↦ absurd (omega (arith, more, le))
  ]
    where
      arrange : (o s t x y : ℕ) → o ≡ s + t → x ≡ y + t → o + y ≡ x + s
      arrange o s t x y h g = omega (arith, h, g)

      further : (o s t x u y v : ℕ) → o ≡ s + t → x ≡ s + u → t + y ≡ u + v → o + y ≡ x + v
      further o s t x u y v h g i = omega (arith, h, g, i)

-- one chain changes
pub due_changes : (f : Intent → ℕ) (c : ℕ) (is : List Intent) (cs : ℕ → List Intent) → c < most_chains → due f (at_only c is cs) + sum_by f (cs c) ≡ due f cs + sum_by f is
unfolding due
due_changes f c is cs lt = changes f c is cs 0 most_chains (omega arith) (omega (arith, lt))

-- ---- spans

pub at_split : (s m k n x : ℕ) → n ≡ m + k → at_span s n x ≡ at_span s m x + at_span (s + m) k x
at_split s m k n x e = by (in_span s m x) refl (in_span (s + m) k x) refl
  where
    by : (p : Bool) → in_span s m x ≡ p → (q : Bool) → in_span (s + m) k x ≡ q → at_span s n x ≡ (if p then 1 else 0) + (if q then 1 else 0)
    by true p true q = let o = span_out s m x p in let u = span_out (s + m) k x q in absurd (omega (arith, o.1, u.0))
    by true p false q = let o = span_out s m x p in let i : in_span s n x ≡ true = span_in s n x o.0 (omega (arith, o.1, e)) in rw i (omega arith)
    by false p true q = let o = span_out (s + m) k x q in let i : in_span s n x ≡ true = span_in s n x (omega (arith, o.0)) (omega (arith, o.1, e)) in rw i (omega arith)
    by false p false q =
        let i : in_span s n x ≡ false = span_not s n x (λ l u. inside l u (span_case s m x p) (span_case (s + m) k x q)) in rw i (omega arith)
      where
        inside : s ≤ x → x < s + n → (x < s) ⊎ (s + m ≤ x) → (x < s + m) ⊎ (s + m + k ≤ x) → ⊥
        inside l u (inl c) d = omega (arith, l, c)
        inside l u (inr c) (inl d) = omega (arith, c, d)
        inside l u (inr c) (inr d) = omega (arith, u, d, e)

-- ---- one chain that owed nothing, and one that loses its first intent

pub came : (f : Intent → ℕ) (cs : ℕ → List Intent) (c : ℕ) (x y : Intent) → c < most_chains → cs c ≡ [] → due f (at_only c (x ∷ y ∷ []) cs) ≡ due f cs + (f x + f y)
came f cs c x y lt e = sums (due f (at_only c (x ∷ y ∷ []) cs)) (sum_by f (cs c)) (due f cs) (sum_by f (x ∷ y ∷ [])) (f x) (f y) (due_changes f c (x ∷ y ∷ []) cs lt) (ap (sum_by f) e) (sum_by-cons f x (y ∷ []) ∙ ap (λ z. f x + z) (sum_by-cons f y []))
  where
    sums : (a s d r u v : ℕ) → a + s ≡ d + r → s ≡ 0 → r ≡ u + (v + 0) → a ≡ d + (u + v)
    sums a s d r u v e f g = omega (arith, e, f, g)

pub came_one : (f : Intent → ℕ) (cs : ℕ → List Intent) (c : ℕ) (x : Intent) → c < most_chains → cs c ≡ [] → due f (at_only c (x ∷ []) cs) ≡ due f cs + f x
came_one f cs c x lt e = sums (due f (at_only c (x ∷ []) cs)) (sum_by f (cs c)) (due f cs) (sum_by f (x ∷ [])) (f x) (due_changes f c (x ∷ []) cs lt) (ap (sum_by f) e) (sum_by-cons f x [])
  where
    sums : (a s d r u : ℕ) → a + s ≡ d + r → s ≡ 0 → r ≡ u + 0 → a ≡ d + u
    sums a s d r u e f g = omega (arith, e, f, g)

pub left_chain : (f : Intent → ℕ) (cs : ℕ → List Intent) (c : ℕ) (x : Intent) (js : List Intent) → c < most_chains → cs c ≡ x ∷ js → due f (at_only c js cs) + f x ≡ due f cs
left_chain f cs c x js lt e = sums (due f (at_only c js cs)) (sum_by f (cs c)) (due f cs) (sum_by f js) (f x) (due_changes f c js cs lt) (ap (sum_by f) e ∙ sum_by-cons f x js)
  where
    sums : (n s y r v : ℕ) → n + s ≡ y + r → s ≡ v + r → n + v ≡ y
    sums n s y r v e f = omega (arith, e, f)

-- 0 or 1
pub hit_bit : (g b : ℕ) (e : Extent) → (hits g b e ≡ 0) ⊎ (hits g b e ≡ 1)
hit_bit g b e = by (e.group == g) (in_span e.block e.count b)
  where
    as_bit : Bool → Bool → ℕ
    as_bit k m = if k then (if m then 1 else 0) else 0

    by : (k m : Bool) → (as_bit k m ≡ 0) ⊎ (as_bit k m ≡ 1)
    by true true = inr refl
    by true false = inl refl
    by false m = inl refl

pub hits_own : (b : ℕ) (e : Extent) → hits e.group b e ≡ at_span e.block e.count b
hits_own b e = rw (same e.group) refl
