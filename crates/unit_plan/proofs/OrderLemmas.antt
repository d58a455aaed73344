-- The order of claims: of two different ones exactly one comes before the other.
use Rattle.std.proofs.Common.{◌≡◌, ℕ, ◌<◌, ◌≤◌, ◌⊎◌, true, false, refl, ap, sym, ◌∙◌, inl, inr, arith}
use Rattle.std.specs.Prelude.{◌==◌, ◌&&◌, nat_lt, if◌then◌else◌}
use Rattle.std.proofs.lemmas.Bool.{or_cases, or_parts, or_left, or_right, or_from, and_parts, and_cases, and_from, and_left, and_right, ltb-true, ltb-false, eqb-true, eqb-false, lt-ltb, le-ltb, eq-eqb, ne_eqb, cases_eq}
use Rattle.fs_model.specs.declared.claim.Claim.{Claim}
use Rattle.fs_model.specs.declared.claim.Claim.TheVariants.{Heads, Log, List as FreeList, Tree, Reserve, Limbo, Chunk, Data, Attr, ForkTree, Staging}
use Rattle.sblock.specs.declared.kind.Kind.{Kind}
use Rattle.sblock.specs.declared.kind.Kind.TheVariants.{Bno, Cnt, Rmap, Refc, Ino, Fino}
use Rattle.unit_plan.specs.Order.{place, inode, is_first, comes_before}

pub first_true : (a i b j : ℕ) → is_first a i b j ≡ true → (a < b) ⊎ ((a ≡ b) × (i < j))
unfolding is_first
first_true a i b j h = elim (or_cases (nat_lt a b) ((a == b) && nat_lt i j) h) [
  | inl lt ↦ inl (ltb-true a b lt)
  | inr both ↦ let p = and_parts (a == b) (nat_lt i j) both in inr (eqb-true a b p.0, ltb-true i j p.1)
]

pub first_false : (a i b j : ℕ) → is_first a i b j ≡ false → (b < a) ⊎ ((a ≡ b) × (j ≤ i))
unfolding is_first
first_false a i b j h =
    let p = or_parts (nat_lt a b) ((a == b) && nat_lt i j) h in
    let ge : b ≤ a = ltb-false a b p.0 in
    elim (cases_eq a b) [
      | inl same ↦ elim (and_cases (a == b) (nat_lt i j) p.1) [
        | inl absent ↦ absurd (eqb-false a b absent same)
        | inr le ↦ inr (same, ltb-false i j le)
      ]
      | inr other ↦ inl (omega (arith, ge, other))
    ]

pub is_first_by : (a i b j : ℕ) → (a < b) ⊎ ((a ≡ b) × (i < j)) → is_first a i b j ≡ true
unfolding is_first
is_first_by a i b j (inl lt) = or_left (nat_lt a b) ((a == b) && nat_lt i j) (lt-ltb a b lt)
is_first_by a i b j (inr p) = or_right (nat_lt a b) ((a == b) && nat_lt i j) (and_from (a == b) (nat_lt i j) (eq-eqb a b p.0) (lt-ltb i j p.1))

pub not_first_by : (a i b j : ℕ) → (b < a) ⊎ ((a ≡ b) × (j ≤ i)) → is_first a i b j ≡ false
unfolding is_first
not_first_by a i b j (inl lt) = or_from (nat_lt a b) ((a == b) && nat_lt i j) (le-ltb a b (omega (arith, lt))) (and_left (a == b) (nat_lt i j) (ne_eqb a b (λ e. omega (arith, lt, e))))
not_first_by a i b j (inr p) = or_from (nat_lt a b) ((a == b) && nat_lt i j) (le-ltb a b (let e = p.0 in omega (arith, e))) (and_right (a == b) (nat_lt i j) (le-ltb i j p.1))

-- before one, and so before what doesn't come before that
along_by : (a i b j c k : ℕ) → (a < b) ⊎ ((a ≡ b) × (i < j)) → (b < c) ⊎ ((c ≡ b) × (j ≤ k)) → (a < c) ⊎ ((a ≡ c) × (i < k))
along_by a i b j c k (inl lt) (inl mt) = inl (omega (arith, lt, mt))
along_by a i b j c k (inl lt) (inr m) = inl (let e = m.0 in omega (arith, lt, e))
along_by a i b j c k (inr l) (inl mt) = inl (let e = l.0 in omega (arith, mt, e))
along_by a i b j c k (inr l) (inr m) = inr (l.0 ∙ sym m.0, let x = l.1 in let y = m.1 in omega (arith, x, y))

pub along : (c d e : Claim) → comes_before c d ≡ true → comes_before e d ≡ false → comes_before c e ≡ true
along c d e h k = is_first_by (place c) (inode c) (place e) (inode e)
    (along_by (place c) (inode c) (place d) (inode d) (place e) (inode e) (first_true (place c) (inode c) (place d) (inode d) h) (first_false (place e) (inode e) (place d) (inode d) k))

behind_by : (a i b j c k : ℕ) → (b < a) ⊎ ((a ≡ b) × (j ≤ i)) → (c < b) ⊎ ((b ≡ c) × (k ≤ j)) → (c < a) ⊎ ((a ≡ c) × (k ≤ i))
behind_by a i b j c k (inl lt) (inl mt) = inl (omega (arith, lt, mt))
behind_by a i b j c k (inl lt) (inr m) = inl (let e = m.0 in omega (arith, lt, e))
behind_by a i b j c k (inr l) (inl mt) = inl (let e = l.0 in omega (arith, mt, e))
behind_by a i b j c k (inr l) (inr m) = inr (l.0 ∙ m.0, let x = l.1 in let y = m.1 in omega (arith, x, y))

-- not before one that isn't before another
pub not_along : (c d e : Claim) → comes_before c d ≡ false → comes_before d e ≡ false → comes_before c e ≡ false
not_along c d e h k = not_first_by (place c) (inode c) (place e) (inode e)
    (behind_by (place c) (inode c) (place d) (inode d) (place e) (inode e) (first_false (place c) (inode c) (place d) (inode d) h) (first_false (place d) (inode d) (place e) (inode e) k))

turned : (a i b j : ℕ) → (a < b) ⊎ ((a ≡ b) × (i < j)) → (a < b) ⊎ ((b ≡ a) × (i ≤ j))
turned a i b j (inl lt) = inl lt
turned a i b j (inr p) = inr (sym p.0, let x = p.1 in omega (arith, x))

pub one_way : (c d : Claim) → comes_before c d ≡ true → comes_before d c ≡ false
one_way c d h = not_first_by (place d) (inode d) (place c) (inode c) (turned (place c) (inode c) (place d) (inode d) (first_true (place c) (inode c) (place d) (inode d) h))

pub not_itself : (c : Claim) → comes_before c c ≡ false
not_itself c = not_first_by (place c) (inode c) (place c) (inode c) (inr (refl, omega arith))

-- ---- claims of one place and one inode are the same

tree_at : ℕ → Kind
tree_at n = if n == 3 then Bno else if n == 4 then Cnt else if n == 5 then Rmap else if n == 6 then Refc else if n == 7 then Ino else Fino

sort_at : ℕ → ℕ → Claim
sort_at n i = if n == 12 then Data i else if n == 13 then Attr i else if n == 14 then ForkTree i else Staging

claim_at : ℕ → ℕ → Claim
claim_at n i =
    if n == 0 then Heads else if n == 1 then Log else if n == 2 then FreeList else if nat_lt n 9 then Tree (tree_at n)
    else if n == 9 then Reserve else if n == 10 then Limbo else if n == 11 then Chunk else sort_at n i

claim_is : (c : Claim) → claim_at (place c) (inode c) ≡ c
unfolding claim_at sort_at tree_at
claim_is Heads = refl
claim_is Log = refl
claim_is FreeList = refl
claim_is (Tree Bno) = refl
claim_is (Tree Cnt) = refl
claim_is (Tree Rmap) = refl
claim_is (Tree Refc) = refl
claim_is (Tree Ino) = refl
claim_is (Tree Fino) = refl
claim_is Reserve = refl
claim_is Limbo = refl
claim_is Chunk = refl
claim_is (Data i) = refl
claim_is (Attr i) = refl
claim_is (ForkTree i) = refl
claim_is Staging = refl

same_numbers : (a i b j : ℕ) → (b < a) ⊎ ((a ≡ b) × (j ≤ i)) → (a < b) ⊎ ((b ≡ a) × (i ≤ j)) → (a ≡ b) × (i ≡ j)
same_numbers a i b j (inl lt) (inl mt) = absurd (omega (arith, lt, mt))
same_numbers a i b j (inl lt) (inr m) = absurd (let e = m.0 in omega (arith, lt, e))
same_numbers a i b j (inr l) (inl mt) = absurd (let e = l.0 in omega (arith, mt, e))
same_numbers a i b j (inr l) (inr m) = (l.0, let x = l.1 in let y = m.1 in omega (arith, x, y))

pub one_claim : (c d : Claim) → comes_before c d ≡ false → comes_before d c ≡ false → c ≡ d
one_claim c d h k =
    let e = same_numbers (place c) (inode c) (place d) (inode d) (first_false (place c) (inode c) (place d) (inode d) h) (first_false (place d) (inode d) (place c) (inode c) k) in
    sym (claim_is c) ∙ ap (λ (n : ℕ). claim_at n (inode c)) e.0 ∙ ap (λ (n : ℕ). claim_at (place d) n) e.1 ∙ claim_is d
