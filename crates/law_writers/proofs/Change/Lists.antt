-- Lists of mappings: one is added, or a piece leaves.
use Rattle.std.proofs.Common.{◌≡◌, ℕ, ◌+◌, ◌<◌, ◌≤◌, ◌||◌, Bool, true, false, not, cond, nat_lt, List, [], ◌∷◌, filter, find, Option, Some, None, refl, sym, ap, ap₂, subst, ◌∙◌, arith}
use Rattle.std.specs.List.{list_any}
use Rattle.std.specs.Option.{option_map_or}
use Rattle.std.proofs.lemmas.Bool.{false≢true, true≢false}
use Rattle.dinode_core.specs.declared.mapping.Mapping.{Mapping}
use Rattle.fs_model.specs.declared.claim.Claim.{Claim}
use Rattle.geom.specs.Layout.{Layout}
use Rattle.rmap_recs.specs.declared.tuples.Tuple.{Tuple}
use Rattle.fs_change.specs.Records.{meets, put_by, joined_to, with_before, add_mapping}
use Rattle.law_writers.proofs.Change.Covers.{maps_it, Meeting, meeting, joined_has, joined_placed}
use Rattle.law_writers.specs.Change.Forks.{Each, IsPlaced, AreApart}

-- ---- tests of lists

any_put : (H : Mapping → Bool) (key : Mapping → ℕ) (x : Mapping) (ys : List Mapping) → list_any H (put_by key x ys) ≡ (H x || list_any H ys)
any_put H key x [] = refl
any_put H key x (y ∷ ys) = elim (nat_lt (key y) (key x)) as (λ b. list_any H (cond b (y ∷ put_by key x ys) (x ∷ y ∷ ys)) ≡ (H x || (H y || list_any H ys))) [
  | true ↦ ap (λ b. H y || b) (any_put H key x ys) ∙ swap (H y) (H x) (list_any H ys)
  | false ↦ refl
]
  where
    swap : (x y z : Bool) → (x || (y || z)) ≡ (y || (x || z))
    swap true true z = refl
    swap true false z = refl
    swap false true z = refl
    swap false false z = refl

nothing : {X : Type 0} (x : X) → None ≡ Some x → ⊥
nothing x h = false≢true (ap (λ o. (elim o [ None ↦ false | Some y ↦ true ])) h)

-- what is found passes, and has what each has
pub found_one : (T : Mapping → Bool) (P : Mapping → Type 0) (ms : List Mapping) (x : Mapping) → Each P ms → find T ms ≡ Some x → (T x ≡ true) × P x
found_one T P [] x e h = absurd (nothing x h)
found_one T P (m ∷ ms) x e h = (elim (T m) as (λ t. T m ≡ t → cond t (Some m) (find T ms) ≡ Some x → (T x ≡ true) × P x) [
  | true ↦ λ k i. let same : m ≡ x = ap (λ o. (elim o [ None ↦ m | Some y ↦ y ])) i in (subst (λ y. T y ≡ true) same k, subst P same e.0)
  | false ↦ λ k i. found_one T P ms x e.1 i
]) refl h

-- one that passes is the last that does
abbrev pub Single : (Mapping → Bool) → List Mapping → Type 0
Single T [] = Unit {0}
Single T (m ∷ ms) = (T m ≡ true → list_any T ms ≡ false) × Single T ms

first_false : (x y : Bool) → (x || y) ≡ false → x ≡ false
first_false false y h = refl
first_false true y h = absurd (true≢false h)

rest_false : (x y : Bool) → (x || y) ≡ false → y ≡ false
rest_false false y h = h
rest_false true y h = absurd (true≢false h)

pub not_found : (T : Mapping → Bool) (ms : List Mapping) → list_any T ms ≡ false → find T ms ≡ None
not_found T [] h = refl
not_found T (m ∷ ms) h = ap (λ b. cond b (Some m) (find T ms)) (first_false (T m) (list_any T ms) h) ∙ not_found T ms (rest_false (T m) (list_any T ms) h)

abbrev of_one : (Mapping → Bool) → (Mapping → Bool) → List Mapping → Bool
of_one H T ms = option_map_or H (find T ms) false

both_kept : (f a b m r : Bool) → r ≡ ((f || b) || a) → (m || r) ≡ (((m || f) || b) || a)
both_kept f a b true r e = refl
both_kept f a b false r e = e

last_out : (f b m r : Bool) → r ≡ ((f || b) || false) → (m || r) ≡ ((f || b) || m)
last_out true b true r e = refl
last_out false true true r e = refl
last_out false false true r e = refl
last_out true b false r e = e
last_out false b false r e = e

middle_out : (f a m r : Bool) → r ≡ ((f || false) || a) → (m || r) ≡ ((f || m) || a)
middle_out true a true r e = refl
middle_out false a true r e = refl
middle_out true a false r e = e
middle_out false a false r e = e

-- A list is what passes neither of two tests, and the one that passes the second, and the one that passes the first.
parted : (H A B : Mapping → Bool) (ms : List Mapping) → Single A ms → Single B ms → ((m : Mapping) → A m ≡ true → B m ≡ false)
    → list_any H ms ≡ ((list_any H (filter (λ m. not (A m || B m)) ms) || of_one H B ms) || of_one H A ms)
parted H A B [] sa sb apart = refl
parted H A B (m ∷ ms) sa sb apart =
    let F : Bool = list_any H (filter (λ x. not (A x || B x)) ms) in
    let rest = parted H A B ms sa.1 sb.1 apart in
    (elim (A m) as (λ a. A m ≡ a → (H m || list_any H ms) ≡ ((list_any H (cond (not (a || B m)) (m ∷ filter (λ x. not (A x || B x)) ms) (filter (λ x. not (A x || B x)) ms)) || of_one H B (m ∷ ms)) || option_map_or H (cond a (Some m) (find A ms)) false)) [
      | true ↦ λ e.
          last_out F (of_one H B ms) (H m) (list_any H ms) (rest ∙ ap (λ o. (F || of_one H B ms) || option_map_or H o false) (not_found A ms (sa.0 e)))
          ∙ ap (λ b. (F || option_map_or H (cond b (Some m) (find B ms)) false) || H m) (sym (apart m e))
      | false ↦ λ e.
          (elim (B m) as (λ b. B m ≡ b → (H m || list_any H ms) ≡ ((list_any H (cond (not b) (m ∷ filter (λ x. not (A x || B x)) ms) (filter (λ x. not (A x || B x)) ms)) || option_map_or H (cond b (Some m) (find B ms)) false) || of_one H A ms)) [
            | true ↦ λ k. middle_out F (of_one H A ms) (H m) (list_any H ms) (rest ∙ ap (λ o. (F || option_map_or H o false) || of_one H A ms) (not_found B ms (sb.0 k)))
            | false ↦ λ k. both_kept F (of_one H A ms) (of_one H B ms) (H m) (list_any H ms) rest
          ]) refl
    ]) refl

-- ---- one mapping is added

pub none_that : (T : Mapping → Bool) (P : Mapping → Type 0) (ms : List Mapping) → Each P ms → ((m : Mapping) → P m → T m ≡ false) → list_any T ms ≡ false
none_that T P [] e f = refl
none_that T P (m ∷ ms) e f = ap₂ (λ x y. x || y) (f m e.0) (none_that T P ms e.1 f)

pub both_each : (P Q : Mapping → Type 0) (ms : List Mapping) → Each P ms → Each Q ms → Each (λ m. P m × Q m) ms
both_each P Q [] p q = tt
both_each P Q (m ∷ ms) p q = ((p.0, q.0), both_each P Q ms p.1 q.1)

-- of mappings that stand apart one ends at an offset, and one begins there
pub one_ends : (at : Layout) (T : Mapping → Bool) (e : ℕ) → ((m : Mapping) → T m ≡ true → m.offset + m.count ≡ e) → (ms : List Mapping) → Each (IsPlaced at) ms → AreApart ms → Single T ms
one_ends at T e is [] p a = tt
one_ends at T e is (m ∷ ms) p a = (
  (λ h. none_that T (λ q. IsPlaced at q × (m.offset + m.count ≤ q.offset)) ms (both_each (IsPlaced at) (λ q. m.offset + m.count ≤ q.offset) ms p.1 a.0) (λ q both. later q (T q) refl both (is m h))),
  one_ends at T e is ms p.1 a.1,
)
  where
    beyond : (x y n : ℕ) → 0 < n → x ≤ y → y + n ≡ x → ⊥
    beyond x y n h i j = omega (arith, h, i, j)

    later : (q : Mapping) (t : Bool) → T q ≡ t → IsPlaced at q × (m.offset + m.count ≤ q.offset) → m.offset + m.count ≡ e → T q ≡ false
    later q false k both end = k
    later q true k both end = absurd (beyond (m.offset + m.count) q.offset q.count both.0.some both.1 (is q k ∙ sym end))

pub one_begins : (at : Layout) (T : Mapping → Bool) (e : ℕ) → ((m : Mapping) → T m ≡ true → e ≡ m.offset) → (ms : List Mapping) → Each (IsPlaced at) ms → AreApart ms → Single T ms
one_begins at T e is [] p a = tt
one_begins at T e is (m ∷ ms) p a = (
  (λ h. none_that T (λ q. m.offset + m.count ≤ q.offset) ms a.0 (λ q behind. later q (T q) refl behind (is m h))),
  one_begins at T e is ms p.1 a.1,
)
  where
    beyond : (x y n : ℕ) → 0 < n → x + n ≤ y → y ≡ x → ⊥
    beyond x y n h i j = omega (arith, h, i, j)

    later : (q : Mapping) (t : Bool) → T q ≡ t → m.offset + m.count ≤ q.offset → e ≡ m.offset → T q ≡ false
    later q false k behind begin = k
    later q true k behind begin = absurd (beyond m.offset q.offset m.count p.0.some behind (sym (is q k) ∙ begin))

module _ (at : Layout) (h : ℕ) (c : Claim) (ino flag : ℕ) (t : Tuple) where
  abbrev H : Mapping → Bool
  H m = maps_it at h c ino flag t m

  -- the mapping with the one before it
  before_has : (m : Mapping) (ms : List Mapping) → IsPlaced at m → Each (IsPlaced at) ms → (o : Option Mapping) → find (λ p. meets at.agblklog p m) ms ≡ o → (H (joined_to o m) ≡ (H m || option_map_or H o false)) × IsPlaced at (joined_to o m) × ((joined_to o m).offset + (joined_to o m).count ≡ m.offset + m.count)
  before_has m ms pm ps None e = (none (H m), pm, refl)
    where
      none : (x : Bool) → x ≡ (x || false)
      none true = refl
      none false = refl
  before_has m ms pm ps (Some p) e =
      let f = found_one (λ q. meets at.agblklog q m) (IsPlaced at) ms p ps e in
      let meet : Meeting at.agblklog p m = meeting at.agblklog p m f.0 in
      (joined_has at h c ino flag t p m f.1 pm meet ∙ turn (H p) (H m), joined_placed at p m f.1 pm meet, ends p.offset p.count m.offset m.count meet.offsets)
    where
      turn : (x y : Bool) → (x || y) ≡ (y || x)
      turn true true = refl
      turn true false = refl
      turn false true = refl
      turn false false = refl

      ends : (x n y k : ℕ) → x + n ≡ y → x + (n + k) ≡ y + k
      ends x n y k e = omega (arith, e)

  after_has : (x : Mapping) (ms : List Mapping) → IsPlaced at x → Each (IsPlaced at) ms → (o : Option Mapping) → find (meets at.agblklog x) ms ≡ o → H (option_map_or (joined_to (Some x)) o x) ≡ (H x || option_map_or H o false)
  after_has x ms px ps None e = none (H x)
    where
      none : (y : Bool) → y ≡ (y || false)
      none true = refl
      none false = refl
  after_has x ms px ps (Some q) e =
      let f = found_one (meets at.agblklog x) (IsPlaced at) ms q ps e in
      joined_has at h c ino flag t x q px f.1 (meeting at.agblklog x q f.0)

  gathered : (m a b f all : Bool) → all ≡ ((f || b) || a) → (((m || a) || b) || f) ≡ (all || m)
  gathered m a b f all e = by_cases m a b f ∙ ap (λ x. x || m) (sym e)
    where
      by_cases : (m a b f : Bool) → (((m || a) || b) || f) ≡ (((f || b) || a) || m)
      by_cases true true true true = refl
      by_cases true true true false = refl
      by_cases true true false true = refl
      by_cases true true false false = refl
      by_cases true false true true = refl
      by_cases true false true false = refl
      by_cases true false false true = refl
      by_cases true false false false = refl
      by_cases false true true true = refl
      by_cases false true true false = refl
      by_cases false true false true = refl
      by_cases false true false false = refl
      by_cases false false true true = refl
      by_cases false false true false = refl
      by_cases false false false true = refl
      by_cases false false false false = refl

  -- What has a fork that a mapping was added to? What it had, and the mapping's.
  pub added_has : (m : Mapping) (ms : List Mapping) → IsPlaced at m → Each (IsPlaced at) ms → AreApart ms → list_any H (add_mapping at.agblklog m ms) ≡ (list_any H ms || H m)
  unfolding add_mapping
  added_has m ms pm ps apart =
      let l : ℕ = at.agblklog in
      let x : Mapping = with_before l m ms in
      let front = before_has m ms pm ps (find (λ p. meets l p m) ms) refl in
      let y : Mapping = option_map_or (joined_to (Some x)) (find (meets l x) ms) x in
      any_put H (λ p. p.offset) y (filter (λ p. not (meets l p m || meets l x p)) ms)
      ∙ ap (λ b. b || list_any H (filter (λ p. not (meets l p m || meets l x p)) ms)) (after_has x ms front.1 ps (find (meets l x) ms) refl ∙ ap (λ b. b || option_map_or H (find (meets l x) ms) false) front.0)
      ∙ gathered (H m) (option_map_or H (find (λ p. meets l p m) ms) false) (option_map_or H (find (meets l x) ms) false) (list_any H (filter (λ p. not (meets l p m || meets l x p)) ms)) (list_any H ms)
      (parted H (λ p. meets l p m) (meets l x) ms
      (one_ends at (λ p. meets l p m) m.offset (λ p e. (meeting l p m e).offsets) ms ps apart)
      (one_begins at (meets l x) (x.offset + x.count) (λ q e. (meeting l x q e).offsets) ms ps apart)
      (λ p e. never p x (meets l x p) refl ((meeting l p m e).offsets) front.2 pm.some))
    where
      behind : (o n mo mn xe : ℕ) → o + n ≡ mo → xe ≡ mo + mn → 0 < mn → xe ≡ o → ⊥
      behind o n mo mn xe a b k e = omega (arith, a, b, k, e)

      never : (p x : Mapping) (b : Bool) → meets at.agblklog x p ≡ b → p.offset + p.count ≡ m.offset → x.offset + x.count ≡ m.offset + m.count → 0 < m.count → meets at.agblklog x p ≡ false
      never p x false k e f some = k
      never p x true k e f some = absurd (behind p.offset p.count m.offset m.count (x.offset + x.count) e f some ((meeting at.agblklog x p k).offsets))
