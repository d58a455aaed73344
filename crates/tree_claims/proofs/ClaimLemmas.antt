-- Looks at a tree's levels, one below the other, reach what it claims.
use Rattle.std.proofs.Common.{◌≡◌, ℕ, zero, suc, ◌+◌, ◌-◌, ◌*◌, ◌<◌, ◌≤◌, ◌⊎◌, Bool, true, false, ◌&&◌, List, refl, sym, ◌∙◌, subst, inl, inr, arith}
use Rattle.std.specs.Prelude.{◌==◌, ◌↔◌, nat_le, if◌then◌else◌}
use Rattle.std.proofs.lemmas.Bool.{eqb-true, eq-eqb, and_parts, or_cases, or_left, or_right, eq-eqb, cases_lt, cases_Bool, leb-true, true≢false}
use Rattle.std.proofs.lemmas.Bool.Decides.{nat_tests}
use Rattle.sblock.specs.Form.{Form}
use Rattle.sblock.proofs.BlockLemmas.{has_level}
use Rattle.tree_defs.specs.Claims.{Leads, is_named, lone_fault, opens, IsReached, IsClaimed}
use Rattle.sblock.specs.Headers.{left_of}
use Rattle.tree_defs.specs.Tree.{top_of, want_of}
use Rattle.tree_defs.specs.declared.site.Site.{Site}
use Rattle.tree_claims.specs.Looks.{LieBelow, Looks}
use Rattle.tree_claims.proofs.LookLemmas.{opens_none}

-- how many levels lie from this one down
abbrev pub deep : ℕ → ℕ
deep top = if top == 9 then 1 else top + 1

pub deep_most : (top : ℕ) → top ≤ 9 → deep top ≤ 9
deep_most top le = elim (cases_eq_nine top) [
  | inl is ↦ let b : (top == 9) ≡ true = eq-eqb top 9 is in rw b (omega arith)
  | inr ne ↦ let b : (top == 9) ≡ false = grind (arith, nat_tests) in rw b (omega (arith, le, ne))
]
  where
    cases_eq_nine : (n : ℕ) → (n ≡ 9) ⊎ (n ≡ 9 → ⊥)
    cases_eq_nine n = elim (cases_lt n 9) [
      | inl lt ↦ inr (λ e. omega (arith, lt, e))
      | inr ge ↦ elim (cases_lt 9 n) [ inl gt ↦ inr (λ e. omega (arith, gt, e)) | inr le ↦ inl (omega (arith, ge, le)) ]
    ]

pub root_lies : (len root : ℕ) (p : ℕ → Bool) → root < len → ((b : ℕ) → p b ≡ (b == root)) → LieBelow len p
root_lies len root p below h b now = let is = eqb-true b root (sym (h b) ∙ now) in omega (arith, below, is)

pub none_lies : (len : ℕ) (p : ℕ → Bool) → ((b : ℕ) → p b ≡ false) → LieBelow len p
none_lies len p h b now = absurd (true≢false (sym now ∙ h b))

module _ {R K : Type 0} (form : Form R K) (site : Site) (m : ℕ → List ℕ) (root levels : ℕ) where
  -- what is reached at this depth
  abbrev pub Reached : ℕ → ℕ → Type 0
  Reached depth b = IsReached form site m root levels depth b

  -- what is named of that which is reached above this depth
  abbrev pub NamedAbove : ℕ → ℕ → Type 0
  NamedAbove depth b = (k : ℕ) × (k < depth) × Reached k b × (is_named form.kind site b (m b) ≡ true)

  abbrev pub AreReached : ℕ → (ℕ → Bool) → Type 0
  AreReached depth p = (b : ℕ) → (p b ≡ true) ↔ Reached depth b

  abbrev pub AreNamed : ℕ → (ℕ → Bool) → Type 0
  AreNamed depth p = (b : ℕ) → (p b ≡ true) ↔ NamedAbove depth b

  pub root_reached : (p : ℕ → Bool) → ((b : ℕ) → p b ≡ (b == root)) → AreReached 0 p
  root_reached p h b = (λ now. eqb-true b root (sym (h b) ∙ now), λ is. h b ∙ eq-eqb b root is)

  pub none_named : (p : ℕ → Bool) → ((b : ℕ) → p b ≡ false) → AreNamed 0 p
  none_named p h b = (λ now. absurd (true≢false (sym now ∙ h b)), λ a. absurd (omega (arith, a.1)))

  module _ (depth level : ℕ) (first : Bool) (is_level : level ≡ top_of levels - depth) (is_first : first ≡ (depth == 0)) (p c0 c1 n1 : ℕ → Bool) (looks : Looks form site m level first p c0 c1 (λ b. false) n1) (reached : AreReached depth p) where
    leads_here : (q b : ℕ) → Leads form site level first q (m q) b → Leads form site (top_of levels - depth) (depth == 0) q (m q) b
    leads_here q b l =
        let P : ℕ → Type 0 = λ x. Leads form site x first q (m q) b in
        let Q : Bool → Type 0 = λ x. Leads form site (top_of levels - depth) x q (m q) b in
        subst Q is_first (subst P is_level l)

    leads_there : (q b : ℕ) → Leads form site (top_of levels - depth) (depth == 0) q (m q) b → Leads form site level first q (m q) b
    leads_there q b l =
        let P : ℕ → Type 0 = λ x. Leads form site x first q (m q) b in
        let Q : Bool → Type 0 = λ x. Leads form site (top_of levels - depth) x q (m q) b in
        subst P (sym is_level) (subst Q (sym is_first) l)

    next_is : (b : ℕ) → (n1 b ≡ true) ↔ Reached (suc depth) b
    next_is b = (
      λ now. elim ((looks.leads b).0 now) [
        | inl never ↦ absurd (true≢false (sym never))
        | inr a ↦ (a.0, (reached a.0).0 a.1, leads_here a.0 b a.2)
      ],
      λ r. (looks.leads b).1 (inr (r.0, (reached r.0).1 r.1, leads_there r.0 b r.2)),
    )

    -- the next level is what is reached one deeper
    pub next_reached : AreReached (depth + 1) n1
    next_reached = let e : depth + 1 ≡ suc depth = omega arith in rw e next_is

    -- and what was claimed is named above it
    pub next_named : AreNamed depth c0 → AreNamed (depth + 1) c1
    next_named named b = (
      λ now. elim (or_cases (c0 b) (p b && is_named form.kind site b (m b)) (sym (looks.claims b) ∙ now)) [
        | inl before ↦ let a = (named b).0 before in (a.0, omega (arith, a.1), a.2, a.3)
        | inr both ↦ let parts = and_parts (p b) (is_named form.kind site b (m b)) both in (depth, omega arith, (reached b).0 parts.0, parts.1)
      ],
      λ a. looks.claims b ∙ elim (cases_lt a.0 depth) [
        | inl lt ↦ or_left (c0 b) (p b && is_named form.kind site b (m b)) ((named b).1 (a.0, lt, a.2, a.3))
        | inr ge ↦
            let same : a.0 ≡ depth = omega (arith, a.1, ge) in
            let P : ℕ → Type 0 = λ k. Reached k b in
            let here : p b ≡ true = (reached b).1 (subst P same a.2) in
            let name : is_named form.kind site b (m b) ≡ true = a.3 in
            or_right (c0 b) (p b && is_named form.kind site b (m b)) (rw (here, name) refl)
      ],
    )

  -- a block that passes on a level isn't above 8
  passes_low : (level : ℕ) (first : Bool) (q b : ℕ) → Leads form site level first q (m q) b → level ≤ 8
  unfolding opens lone_fault
  passes_low level first q b l = (has_level form (m q) (want_of form.kind site level first (left_of (m q)) q) (opens_none (lone_fault form site level first q (m q)) l.passes)).1

  reached_below : (depth b : ℕ) → Reached (suc depth) b → (top_of levels ≤ 8) × (suc depth ≤ top_of levels)
  reached_below zero b r =
      let low = passes_low (top_of levels - 0) true r.0 b r.2 in
      (omega (arith, low), omega (arith, r.2.above))
  reached_below (suc depth) b r =
      let before = reached_below depth r.0 r.1 in
      (before.0, omega (arith, r.2.above))

  low_enough : (top depth : ℕ) → top ≤ 8 → depth ≤ top → depth < deep top
  low_enough top depth low le = let b : (top == 9) ≡ false = grind (arith, nat_tests) in rw b (omega (arith, le))

  some_deep : (top : ℕ) → 0 < deep top
  some_deep top = elim (top == 9) as (λ (t : Bool). 0 < (if t then 1 else top + 1)) [ true ↦ omega arith | false ↦ omega arith ]

  -- nothing is reached below the last level
  pub reached_above : (depth b : ℕ) → Reached depth b → depth < deep (top_of levels)
  reached_above zero b r = some_deep (top_of levels)
  reached_above (suc depth) b r = let h = reached_below depth b r in low_enough (top_of levels) (suc depth) h.0 h.1

  -- what is named above the end is what is claimed
  pub all_claimed : (depth : ℕ) (p : ℕ → Bool) → 1 ≤ root → root < site.bounds.length → deep (top_of levels) ≤ depth → AreNamed depth p → (b : ℕ) → (p b ≡ true) ↔ IsClaimed form site m root levels b
  all_claimed depth p some inside end named b = (
    λ now. let a = (named b).0 now in record { some = some; inside = inside; depth = a.0; reached = a.2; named = a.3 },
    λ c. (named b).1 (c.depth, omega (arith, reached_above c.depth b c.reached, end), c.reached, c.named),
  )

  -- a root outside of the group claims nothing
  pub none_claimed : (p : ℕ → Bool) → (1 ≤ root → root < site.bounds.length → ⊥) → ((b : ℕ) → p b ≡ false) → (b : ℕ) → (p b ≡ true) ↔ IsClaimed form site m root levels b
  none_claimed p outside none b = (λ now. absurd (true≢false (sym now ∙ none b)), λ c. absurd (outside c.some c.inside))

-- each level reads at most the group
pub level_read : (before now new depth len : ℕ) → now ≤ before + depth * len → new ≤ now + len → new ≤ before + (depth + 1) * len
level_read before now new depth len h step = omega (arith, h, step)

pub levels_read : (before now depth len : ℕ) → depth ≤ 9 → now ≤ before + depth * len → now ≤ before + 9 * len
levels_read before now depth len le h = let most : depth * len ≤ 9 * len = grind arith in omega (arith, h, most)

pub top_most : (levels : ℕ) → top_of levels ≤ 9
top_most levels = elim (cases_Bool (nat_le 1 levels && nat_le levels 9)) [
  | inl is ↦ let least = leb-true levels 9 (and_parts (nat_le 1 levels) (nat_le levels 9) is).1 in rw is (omega (arith, least))
  | inr isnt ↦ rw isnt (omega arith)
]
