-- The inodes of an image rise, so a change of one inode's part changes a sum over all of them by as much.
use Rattle.std.proofs.Common.{◌≡◌, ℕ, zero, suc, ◌+◌, ◌-◌, ◌*◌, ◌^◌, ◌<◌, ◌≤◌, ◌==◌, ◌||◌, Bool, true, false, cond, List, [], ◌∷◌, ◌++◌, map, filter, flat_map, refl, sym, ap, ap₂, subst, ◌∙◌, arith, eqb-true}
use Rattle.std.specs.Prelude.{◌/◌, ◌%◌, sum_by, if◌then◌else◌}
use Rattle.std.specs.List.{list_any}
use Rattle.std.proofs.lemmas.Bool.{false≢true}
use Rattle.std.proofs.lemmas.Bool.Decides.{nat_tests}
use Rattle.std.proofs.lemmas.List.Sums.{sum_by-cons}
use Rattle.std.proofs.Math.Nat.{suc-mul}
use Rattle.law_writers.proofs.Change.Members.{in_inodes}
use Rattle.fs_state.specs.Chunks.{chunks, inode_in, inodes, inodes_in}
use Rattle.fs_state.specs.Lists.{numbers}
use Rattle.fs_state.specs.Apart.{is_chunk, is_inode}
use Rattle.fs_state.specs.State.{State}
use Rattle.geom.specs.Apart.{HasFitting}
use Rattle.geom.specs.Layout.{Layout, group_len_of}
use Rattle.tree_defs.specs.Lists.{is_in}

-- numbers that rise, from the first bound on and below the second
abbrev pub Up : ℕ → ℕ → List ℕ → Type 0
Up lo hi [] = lo ≤ hi
Up lo hi (x ∷ xs) = (lo ≤ x) × Up (x + 1) hi xs

up_lower : (low lo hi : ℕ) (xs : List ℕ) → low ≤ lo → Up lo hi xs → Up low hi xs
up_lower low lo hi [] l u = omega (arith, l, u)
up_lower low lo hi (x ∷ xs) l u = (omega (arith, l, u.0), u.1)

up_both : (lo mid hi : ℕ) (xs ys : List ℕ) → Up lo mid xs → Up mid hi ys → Up lo hi (xs ++ ys)
up_both lo mid hi [] ys u v = up_lower lo mid hi ys u v
up_both lo mid hi (x ∷ xs) ys u v = (u.0, up_both (x + 1) mid hi xs ys u.1 v)

up_higher : (lo hi high : ℕ) (xs : List ℕ) → hi ≤ high → Up lo hi xs → Up lo high xs
up_higher lo hi high [] l u = omega (arith, l, u)
up_higher lo hi high (x ∷ xs) l u = (u.0, up_higher (x + 1) hi high xs l u.1)

-- ---- a list with what is beside one number

abbrev pub Beside : (ℕ → ℕ) → (ℕ → ℕ) → ℕ → Type 0
Beside U V ino = (o : ℕ) → (o == ino) ≡ false → V o ≡ U o

none_here : (U V : ℕ → ℕ) (ino lo hi : ℕ) (xs : List ℕ) → Beside U V ino → ino < lo → Up lo hi xs → sum_by V xs ≡ sum_by U xs
none_here U V ino lo hi [] e l u = refl
none_here U V ino lo hi (x ∷ xs) e l u =
    sum_by-cons V x xs ∙ ap₂ (λ m n. m + n) (e x (later x ino lo u.0 l)) (none_here U V ino (x + 1) hi xs e (omega (arith, l, u.0)) u.1) ∙ sym (sum_by-cons U x xs)
  where
    later : (x ino lo : ℕ) → lo ≤ x → ino < lo → (x == ino) ≡ false
    later x ino lo h i = grind (arith, nat_tests)

pub sum_changes : (U V : ℕ → ℕ) (ino d lo hi : ℕ) (xs : List ℕ) → Beside U V ino → V ino ≡ U ino + d → Up lo hi xs → is_in ino xs ≡ true → sum_by V xs ≡ sum_by U xs + d
sum_changes U V ino d lo hi [] e here u i = absurd (false≢true i)
sum_changes U V ino d lo hi (x ∷ xs) e here u i = by (x == ino) refl i (λ j. sum_changes U V ino d (x + 1) hi xs e here u.1 j)
  where
    own : (v m t n w s : ℕ) → v ≡ m + d → t ≡ n → w ≡ v + t → s ≡ m + n → w ≡ s + d
    own v m t n w s a b c k = omega (arith, a, b, c, k)

    rest : (v m t n w s : ℕ) → v ≡ m → t ≡ n + d → w ≡ v + t → s ≡ m + n → w ≡ s + d
    rest v m t n w s a b c k = omega (arith, a, b, c, k)

    by : (b : Bool) → (x == ino) ≡ b → (b || is_in ino xs) ≡ true → (is_in ino xs ≡ true → sum_by V xs ≡ sum_by U xs + d) → sum_by V (x ∷ xs) ≡ sum_by U (x ∷ xs) + d
    by true q j later =
        let same : x ≡ ino = eqb-true x ino q in
        own (V x) (U x) (sum_by V xs) (sum_by U xs) _ _ (subst (λ n. V n ≡ U n + d) (sym same) here) (none_here U V ino (x + 1) hi xs e (omega (arith, same)) u.1) (sum_by-cons V x xs) (sum_by-cons U x xs)
    by false q j later = rest (V x) (U x) (sum_by V xs) (sum_by U xs) _ _ (e x q) (later j) (sum_by-cons V x xs) (sum_by-cons U x xs)

-- ---- the inodes of an image

abbrev start_of : State → ℕ → ℕ
start_of a g = g * 2 ^ a.geometry.agblklog * 8

number_is : (a : State) (g u j : ℕ) → inode_in a g u j ≡ start_of a g + (64 * u + j)
number_is a g u j = by (g * 2 ^ a.geometry.agblklog) u j
  where
    by : (x u j : ℕ) → (x + (8 * u + j / 8)) * 8 + j % 8 ≡ x * 8 + (64 * u + j)
    by x u j = omega arith

unit_up : (a : State) (g u j n lo hi : ℕ) → lo ≡ start_of a g + (64 * u + j) → hi ≡ start_of a g + (64 * u + (j + n)) → Up lo hi (map (inode_in a g u) (numbers j n))
unit_up a g u j zero lo hi l h = omega (arith, l, h)
unit_up a g u j (suc n) lo hi l h =
    let e = number_is a g u j in
    (omega (arith, e, l), unit_up a g u (j + 1) n (inode_in a g u j + 1) hi (omega (arith, e)) (omega (arith, h)))

units_up : (a : State) (g : ℕ) (p : ℕ → Bool) (u n lo hi : ℕ) → lo ≡ start_of a g + 64 * u → hi ≡ start_of a g + 64 * (u + n) → Up lo hi (flat_map (λ v. map (inode_in a g v) (numbers 0 64)) (filter p (numbers u n)))
units_up a g p u zero lo hi l h = omega (arith, l, h)
units_up a g p u (suc n) lo hi l h = by (p u) (units_up a g p (u + 1) n (start_of a g + 64 * (u + 1)) hi refl (omega (arith, h)))
  where
    by : (b : Bool) → Up (start_of a g + 64 * (u + 1)) hi (flat_map (λ v. map (inode_in a g v) (numbers 0 64)) (filter p (numbers (u + 1) n)))
        → Up lo hi (flat_map (λ v. map (inode_in a g v) (numbers 0 64)) (cond b (u ∷ filter p (numbers (u + 1) n)) (filter p (numbers (u + 1) n))))
    by true rest =
        up_both lo (start_of a g + 64 * (u + 1)) hi (map (inode_in a g u) (numbers 0 64)) (flat_map (λ v. map (inode_in a g v) (numbers 0 64)) (filter p (numbers (u + 1) n)))
        (unit_up a g u 0 64 lo (start_of a g + 64 * (u + 1)) (omega (arith, l)) (omega arith)) rest
    by false rest = up_lower lo (start_of a g + 64 * (u + 1)) hi _ (omega (arith, l)) rest

group_up : (a : State) (g : ℕ) → Up (start_of a g) (start_of a g + 64 * (group_len_of a.geometry g / 8)) (inodes_in a g)
unfolding inodes_in chunks
group_up a g = units_up a g (is_chunk a g) 0 (group_len_of a.geometry g / 8) (start_of a g) (start_of a g + 64 * (group_len_of a.geometry g / 8)) (omega arith) (omega arith)

short_groups : (at : Layout) → HasFitting at → (g : ℕ) → group_len_of at g ≤ 2 ^ at.agblklog
short_groups at fit g = elim (g + 1 == at.agcount) as (λ b. (if b then at.dblocks - (at.agcount - 1) * at.agblocks else at.agblocks) ≤ 2 ^ at.agblklog) [
  | true ↦ chain (at.dblocks - (at.agcount - 1) * at.agblocks) at.agblocks (2 ^ at.agblklog) fit.last_short fit.covered
  | false ↦ fit.covered
]
  where
    chain : (x y z : ℕ) → x ≤ y → y ≤ z → x ≤ z
    chain x y z h i = omega (arith, h, i)

-- a group's inodes end before the next group's begin
ends_before : (a : State) (g : ℕ) → HasFitting a.geometry → start_of a g + 64 * (group_len_of a.geometry g / 8) ≤ start_of a (g + 1)
ends_before a g fit =
    let len : group_len_of a.geometry g ≤ 2 ^ a.geometry.agblklog = short_groups a.geometry fit g in
    let next : (g + 1) * 2 ^ a.geometry.agblklog ≡ g * 2 ^ a.geometry.agblklog + 2 ^ a.geometry.agblklog = ap (λ n. n * 2 ^ a.geometry.agblklog) (one_more g) ∙ suc-mul g (2 ^ a.geometry.agblklog) in
    by (g * 2 ^ a.geometry.agblklog) ((g + 1) * 2 ^ a.geometry.agblklog) (2 ^ a.geometry.agblklog) (group_len_of a.geometry g) len next
  where
    one_more : (g : ℕ) → g + 1 ≡ suc g
    one_more g = omega arith

    by : (x y p len : ℕ) → len ≤ p → y ≡ x + p → x * 8 + 64 * (len / 8) ≤ y * 8
    by x y p len l e = omega (arith, l, e)

groups_up : (a : State) (g n : ℕ) → HasFitting a.geometry → Up (start_of a g) (start_of a (g + n)) (flat_map (inodes_in a) (numbers g n))
groups_up a g zero fit = subst (λ m. start_of a g ≤ start_of a m) (none g) (omega arith)
  where
    none : (g : ℕ) → g ≡ g + 0
    none g = omega arith
groups_up a g (suc n) fit =
    up_both (start_of a g) (start_of a (g + 1)) (start_of a (g + suc n)) (inodes_in a g) (flat_map (inodes_in a) (numbers (g + 1) n))
    (up_higher (start_of a g) _ (start_of a (g + 1)) (inodes_in a g) (ends_before a g fit) (group_up a g))
    (subst (λ m. Up (start_of a (g + 1)) (start_of a m) (flat_map (inodes_in a) (numbers (g + 1) n))) (along g n) (groups_up a (g + 1) n fit))
  where
    along : (g n : ℕ) → g + 1 + n ≡ g + suc n
    along g n = omega arith

pub inodes_up : (a : State) → HasFitting a.geometry → Up (start_of a 0) (start_of a (0 + a.geometry.agcount)) (inodes a)
unfolding inodes
inodes_up a fit = groups_up a 0 a.geometry.agcount fit

as_any : (o : ℕ) (xs : List ℕ) → is_in o xs ≡ list_any (λ n. n == o) xs
as_any o [] = refl
as_any o (x ∷ xs) = ap (λ b. (x == o) || b) (as_any o xs)

pub among : (a : State) (o : ℕ) → HasFitting a.geometry → is_in o (inodes a) ≡ is_inode a o
among a o fit = as_any o (inodes a) ∙ in_inodes a o fit

-- one inode's part of a sum over all of them changes by so much
pub all_change : (a : State) (U V : ℕ → ℕ) (ino d : ℕ) → HasFitting a.geometry → is_inode a ino ≡ true → Beside U V ino → V ino ≡ U ino + d → sum_by V (inodes a) ≡ sum_by U (inodes a) + d
all_change a U V ino d fit is e here = sum_changes U V ino d (start_of a 0) (start_of a (0 + a.geometry.agcount)) (inodes a) e here (inodes_up a fit) (among a ino fit ∙ is)
