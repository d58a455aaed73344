-- The inodes of a state rise.
use Rattle.std.proofs.Common.{◌≡◌, ◌≤◌, ℕ, zero, suc, ◌+◌, ◌-◌, ◌*◌, ◌/◌, ◌%◌, ◌^◌, Bool, true, false, cond, eqb, List, [], ◌∷◌, ◌++◌, map, refl, ap, sym, subst, ◌∙◌, arith}
use Rattle.std.specs.Prelude.{filter, flat_map}
use Rattle.std.proofs.lemmas.Nat.{mul-le}
use Rattle.fs_state.specs.Chunks.{chunks, inode_in, inodes, inodes_in}
use Rattle.fs_state.specs.Lists.{numbers}
use Rattle.fs_state.specs.Apart.{is_chunk}
use Rattle.fs_state.specs.State.{State}
use Rattle.geom.specs.Apart.{HasFitting}
use Rattle.geom.specs.Layout.{group_len_of}

-- from one number up to below another
abbrev pub Up : ℕ → ℕ → List ℕ → Type 0
Up lo hi [] = lo ≤ hi
Up lo hi (x ∷ xs) = (lo ≤ x) × Up (x + 1) hi xs

pub up_le : (lo hi : ℕ) (xs : List ℕ) → Up lo hi xs → lo ≤ hi
up_le lo hi [] h = h
up_le lo hi (x ∷ xs) h = let l = h.0 in let k = up_le (x + 1) hi xs h.1 in omega (arith, l, k)

pub up_lower : (k lo hi : ℕ) (xs : List ℕ) → k ≤ lo → Up lo hi xs → Up k hi xs
up_lower k lo hi [] le h = omega (arith, le, h)
up_lower k lo hi (x ∷ xs) le h = ((let l = h.0 in omega (arith, le, l)), h.1)

up_higher : (lo hi top : ℕ) (xs : List ℕ) → hi ≤ top → Up lo hi xs → Up lo top xs
up_higher lo hi top [] le h = omega (arith, le, h)
up_higher lo hi top (x ∷ xs) le h = (h.0, up_higher (x + 1) hi top xs le h.1)

up_both : (lo mid hi : ℕ) (xs ys : List ℕ) → Up lo mid xs → Up mid hi ys → Up lo hi (xs ++ ys)
up_both lo mid hi [] ys h k = up_lower lo mid hi ys h k
up_both lo mid hi (x ∷ xs) ys h k = (h.0, up_both (x + 1) mid hi xs ys h.1 k)

numbers_up : (a n hi : ℕ) → a + n ≡ hi → Up a hi (numbers a n)
numbers_up a zero hi e = omega (arith, e)
numbers_up a (suc n) hi e = (omega arith, numbers_up (a + 1) n hi (omega (arith, e)))

filter_up : (p : ℕ → Bool) (lo hi : ℕ) (xs : List ℕ) → Up lo hi xs → Up lo hi (filter p xs)
filter_up p lo hi [] h = h
filter_up p lo hi (x ∷ xs) h = elim (p x) as (λ b. Up lo hi (cond b (x ∷ filter p xs) (filter p xs))) [
  | true ↦ (h.0, filter_up p (x + 1) hi xs h.1)
  | false ↦ up_lower lo (x + 1) hi (filter p xs) (let l = h.0 in omega (arith, l)) (filter_up p (x + 1) hi xs h.1)
]

place_of : (q u i : ℕ) → (q + (8 * u + i / 8)) * 8 + i % 8 ≡ q * 8 + 64 * u + i
place_of q u i = omega arith

next_group : (g k : ℕ) → (g + 1) * k ≡ g * k + k
next_group g k = omega arith

module _ (a : State) (g : ℕ) where
  abbrev base : ℕ
  base = g * 2 ^ a.geometry.agblklog

  part_up : (u i n lo hi : ℕ) → i + n ≡ 64 → lo ≤ base * 8 + 64 * u + i → hi ≡ base * 8 + 64 * u + 64 → Up lo hi (map (inode_in a g u) (numbers i n))
  part_up u i zero lo hi e low top = omega (arith, e, low, top)
  part_up u i (suc n) lo hi e low top =
      let is = place_of base u i in
      (omega (arith, is, low), part_up u (i + 1) n (inode_in a g u i + 1) hi (omega (arith, e)) (omega (arith, is)) top)

  units_up : (lo hi : ℕ) (us : List ℕ) → Up lo hi us → Up (base * 8 + 64 * lo) (base * 8 + 64 * hi) (flat_map (λ u. map (inode_in a g u) (numbers 0 64)) us)
  units_up lo hi [] h = omega (arith, h)
  units_up lo hi (u ∷ us) h =
      let low = h.0 in
      up_both (base * 8 + 64 * lo) (base * 8 + 64 * (u + 1)) (base * 8 + 64 * hi) (map (inode_in a g u) (numbers 0 64)) (flat_map (λ v. map (inode_in a g v) (numbers 0 64)) us)
      (part_up u 0 64 (base * 8 + 64 * lo) (base * 8 + 64 * (u + 1)) refl (omega (arith, low)) (omega arith)) (units_up (u + 1) hi us h.1)

  group_up : group_len_of a.geometry g ≤ 2 ^ a.geometry.agblklog → Up (base * 8) ((base + 2 ^ a.geometry.agblklog) * 8) (inodes_in a g)
  unfolding inodes_in chunks
  group_up fits =
      let n = group_len_of a.geometry g / 8 in
      let k = 2 ^ a.geometry.agblklog in
      let all = units_up 0 n (filter (is_chunk a g) (numbers 0 n)) (filter_up (is_chunk a g) 0 n (numbers 0 n) (numbers_up 0 n n (omega arith))) in
      up_higher (base * 8) (base * 8 + 64 * n) ((base + k) * 8) (inodes_in a g) (omega (arith, fits))
      (up_lower (base * 8) (base * 8 + 64 * 0) (base * 8 + 64 * n) (inodes_in a g) (omega arith) all)

module _ (a : State) (fit : HasFitting a.geometry) where
  abbrev width : ℕ
  width = 2 ^ a.geometry.agblklog

  either : (b : Bool) (x y k : ℕ) → x ≤ k → y ≤ k → (cond b x y) ≤ k
  either true x y k p q = p
  either false x y k p q = q

  pub len_fits : (g : ℕ) → group_len_of a.geometry g ≤ width
  len_fits g = let whole = fit.covered in let last = fit.last_short in either (eqb (g + 1) a.geometry.agcount) (a.geometry.dblocks - (a.geometry.agcount - 1) * a.geometry.agblocks) a.geometry.agblocks width (omega (arith, whole, last)) whole

  pub len_short : (g : ℕ) → group_len_of a.geometry g ≤ 268435456
  len_short g = let whole = fit.short_groups in let last = fit.last_short in either (eqb (g + 1) a.geometry.agcount) (a.geometry.dblocks - (a.geometry.agcount - 1) * a.geometry.agblocks) a.geometry.agblocks 268435456 (omega (arith, whole, last)) whole

  groups_up : (g n hi : ℕ) → hi ≡ (g + n) * width * 8 → Up (g * width * 8) hi (flat_map (inodes_in a) (numbers g n))
  groups_up g zero hi e = let same : g + 0 ≡ g = omega arith in let end = ap (λ (k : ℕ). k * width * 8) same in omega (arith, e, end)
  groups_up g (suc n) hi e =
      let next = next_group g width in
      let same : g + suc n ≡ g + 1 + n = omega arith in
      let end : hi ≡ (g + 1 + n) * width * 8 = e ∙ ap (λ (k : ℕ). k * width * 8) same in
      let first : Up (g * width * 8) ((g + 1) * width * 8) (inodes_in a g) = subst (λ (k : ℕ). Up (g * width * 8) (k * 8) (inodes_in a g)) (sym next) (group_up a g (len_fits g)) in
      up_both (g * width * 8) ((g + 1) * width * 8) hi (inodes_in a g) (flat_map (inodes_in a) (numbers (g + 1) n)) first (groups_up (g + 1) n hi end)

  -- all inodes, which have numbers of 49 bits at most
  pub inodes_up : (hi : ℕ) × Up 0 hi (inodes a) × (hi ≤ 2 ^ 49)
  unfolding inodes
  inodes_up =
      let n = a.geometry.agcount in
      let few = fit.few_groups in
      let short = fit.short_groups in
      let least = fit.least in
      let product : n * width ≤ 65536 * 536870912 = mul-le n width 65536 536870912 few (omega (arith, short, least)) in
      let all : Up 0 ((0 + n) * width * 8) (flat_map (inodes_in a) (numbers 0 n)) = up_lower 0 (0 * width * 8) ((0 + n) * width * 8) (flat_map (inodes_in a) (numbers 0 n)) (omega arith) (groups_up 0 n ((0 + n) * width * 8) refl) in
      let none : 0 + n ≡ n = omega arith in
      let same : (0 + n) * width * 8 ≡ n * width * 8 = ap (λ (k : ℕ). k * width * 8) none in
      ((0 + n) * width * 8, all, omega (arith, product, same))
