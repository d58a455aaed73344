-- The rows of a tree, one below the other, and the reads that they took.
use Rattle.std.proofs.Common.{◌≡◌, ℕ, zero, suc, ◌+◌, ◌<◌, ◌≤◌, true, false, List, [], refl, sym, ap, subst, inl, inr, arith}
use Rattle.std.specs.Prelude.{◌==◌, nat_lt, if◌then◌else◌}
use Rattle.std.proofs.lemmas.Bool.{cases_lt, eq-eqb, ne_eqb, lt-ltb, le-ltb, true≢false}
use Rattle.run_sets.specs.declared.run.Run.{Run}
use Rattle.sblock.specs.Form.{Form}
use Rattle.tree_defs.specs.Tree.{top_of}
use Rattle.tree_defs.specs.declared.site.Site.{Site}
use Rattle.tree_claims.specs.Looks.{blocks_in}
use Rattle.tree_claims.specs.Rows.{rows_in, IsRow, ReadsRows}
use Rattle.tree_claims.proofs.ClaimLemmas.{deep, reached_above}

same_rows_in : (rows others : ℕ → List Run) (n : ℕ) → ((k : ℕ) → k < n → rows k ≡ others k) → rows_in rows n ≡ rows_in others n
same_rows_in rows others zero h = refl
same_rows_in rows others (suc n) h =
    let before = same_rows_in rows others n (λ k lt. h k (omega (arith, lt))) in
    let here : blocks_in (rows n) ≡ blocks_in (others n) = ap blocks_in (h n (omega arith)) in
    omega (arith, before, here)

-- empty rows have no blocks
padded : (rows : ℕ → List Run) (from n : ℕ) → from ≤ n → ((k : ℕ) → from ≤ k → rows k ≡ []) → rows_in rows n ≡ rows_in rows from
padded rows from zero le h = let e : from ≡ 0 = omega (arith, le) in rw e refl
padded rows from (suc n) le h = elim (cases_lt n from) [
  | inl lt ↦ let e : from ≡ suc n = omega (arith, le, lt) in rw e refl
  | inr ge ↦
      let before = padded rows from n ge h in
      let here : blocks_in (rows n) ≡ 0 = ap blocks_in (h n ge) in
      omega (arith, before, here)
]

abbrev with_row : (ℕ → List Run) → ℕ → List Run → ℕ → List Run
with_row rows depth row k = if k == depth then row else rows k

abbrev cut : (ℕ → List Run) → ℕ → ℕ → List Run
cut rows depth k = if nat_lt k depth then rows k else []

with_row_here : (rows : ℕ → List Run) (depth : ℕ) (row : List Run) → with_row rows depth row depth ≡ row
with_row_here rows depth row = let e : (depth == depth) ≡ true = eq-eqb depth depth refl in rw e refl

with_row_above : (rows : ℕ → List Run) (depth : ℕ) (row : List Run) (k : ℕ) → k < depth → with_row rows depth row k ≡ rows k
with_row_above rows depth row k lt = let e : (k == depth) ≡ false = ne_eqb k depth (λ is. omega (arith, lt, is)) in rw e refl

cut_above : (rows : ℕ → List Run) (depth k : ℕ) → k < depth → cut rows depth k ≡ rows k
cut_above rows depth k lt = let e : nat_lt k depth ≡ true = lt-ltb k depth lt in rw e refl

cut_below : (rows : ℕ → List Run) (depth k : ℕ) → depth ≤ k → cut rows depth k ≡ []
cut_below rows depth k ge = let e : nat_lt k depth ≡ false = le-ltb k depth ge in rw e refl

module _ {R K : Type 0} (form : Form R K) (site : Site) (m : ℕ → List ℕ) (root levels : ℕ) where
  -- the rows above this depth were read
  pub record ReadAbove (depth before now : ℕ) : Type 0 where
    pub rows : ℕ → List Run
    pub above : (k : ℕ) → k < depth → IsRow form site m root levels k (rows k)
    pub count : now ≡ before + rows_in rows depth

  pub none_read : (before : ℕ) → ReadAbove 0 before before
  none_read before = record { rows = λ k. []; above = λ k lt. absurd (omega (arith, lt)); count = omega arith }

  pub one_row_read : (depth before now new : ℕ) (row : List Run) → ReadAbove depth before now → IsRow form site m root levels depth row → new ≡ now + blocks_in row → ReadAbove (depth + 1) before new
  one_row_read depth before now new row h is more =
      let all = with_row h.rows depth row in
      let s : depth + 1 ≡ suc depth = omega arith in
      let last : blocks_in (all depth) ≡ blocks_in row = ap blocks_in (with_row_here h.rows depth row) in
      let rest : rows_in all depth ≡ rows_in h.rows depth = same_rows_in all h.rows depth (with_row_above h.rows depth row) in
      let sum : rows_in all (depth + 1) ≡ rows_in all depth + blocks_in (all depth) = ap (rows_in all) s in
      record {
        rows = all;
        above = λ k lt. elim (cases_lt k depth) [
          | inl less ↦ let P : List Run → Type 0 = λ x. IsRow form site m root levels k x in subst P (sym (with_row_above h.rows depth row k less)) (h.above k less)
          | inr ge ↦
              let same : depth ≡ k = omega (arith, lt, ge) in
              let P : List Run → Type 0 = λ x. IsRow form site m root levels depth x in
              let Q : ℕ → Type 0 = λ j. IsRow form site m root levels j (all j) in
              subst Q same (subst P (sym (with_row_here h.rows depth row)) is)
        ];
        count = omega (arith, more, h.count, sum, rest, last);
      }

  pub all_rows_read : (depth before now : ℕ) → deep (top_of levels) ≤ depth → depth ≤ 9 → ReadAbove depth before now → ReadsRows form site m root levels before now
  all_rows_read depth before now end most h =
      let all = cut h.rows depth in
      let pad = padded all depth 9 most (cut_below h.rows depth) in
      let same = same_rows_in all h.rows depth (cut_above h.rows depth) in
      record {
        rows = all;
        exact = λ k. elim (cases_lt k depth) [
          | inl less ↦ let P : List Run → Type 0 = λ x. IsRow form site m root levels k x in subst P (sym (cut_above h.rows depth k less)) (h.above k less)
          | inr ge ↦
              let P : List Run → Type 0 = λ x. IsRow form site m root levels k x in
              let none : IsRow form site m root levels k [] = record {
                maximal = tt;
                exact = λ b. (λ held. absurd (true≢false (sym held)), λ r. absurd (omega (arith, reached_above form site m root levels k b r, end, ge)));
              } in
              subst P (sym (cut_below h.rows depth k ge)) none
        ];
        count = omega (arith, h.count, pad, same);
      }
