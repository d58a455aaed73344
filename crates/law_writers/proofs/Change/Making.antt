-- A new chunk: the unit of its eight blocks is one more, and no other.
use Rattle.std.proofs.Common.{◌≡◌, ℕ, ◌+◌, ◌<◌, ◌==◌, ◌&&◌, ◌||◌, Bool, true, false, cond, nat_lt, nat_le, List, [], ◌∷◌, find, Option, Some, None, refl, sym, ap, subst, ◌∙◌, arith, eqb-true}
use Rattle.std.specs.List.{list_any}
use Rattle.std.specs.Option.{option_map_or}
use Rattle.std.proofs.lemmas.Bool.{false≢true, and_parts}
use Rattle.std.proofs.lemmas.Bool.Decides.{nat_tests}
use Rattle.rmap_recs.specs.Rmap.{can_join}
use Rattle.rmap_recs.specs.Words.{word_goes_on}
use Rattle.rmap_recs.specs.declared.records.RmapRec.{RmapRec}
use Rattle.run_edits.specs.Edits.{grown, joined, joined_before, joined_after}
use Rattle.fs_change.specs.Records.{without_first, give_mapping}
use Rattle.law_writers.proofs.Change.Chunks.{gives_block, any_gives, put_gives}

-- ---- one run more

or_none : (b : Bool) → b ≡ (b || false)
or_none true = refl
or_none false = refl

-- a list is what is left without the first that passes, and that one
first_apart : (t T : RmapRec → Bool) (rs : List RmapRec) → list_any t rs ≡ (list_any t (without_first T rs) || option_map_or t (find T rs) false)
first_apart t T [] = refl
first_apart t T (x ∷ xs) = elim (T x) as (λ b. (t x || list_any t xs) ≡ (list_any t (cond b xs (x ∷ without_first T xs)) || option_map_or t (cond b (Some x) (find T xs)) false)) [
  | true ↦ turn (t x) (list_any t xs)
  | false ↦ ap (λ b. t x || b) (first_apart t T xs) ∙ over (t x) (list_any t (without_first T xs)) (option_map_or t (find T xs) false)
]
  where
    turn : (x y : Bool) → (x || y) ≡ (y || x)
    turn true true = refl
    turn true false = refl
    turn false true = refl
    turn false false = refl

    over : (x y z : Bool) → (x || (y || z)) ≡ ((x || y) || z)
    over true y z = refl
    over false y z = refl

-- what one test finds is found without what another finds, where none passes both
found_without : (S T : RmapRec → Bool) (rs : List RmapRec) → ((r : RmapRec) → T r ≡ true → S r ≡ false) → find S (without_first T rs) ≡ find S rs
found_without S T [] e = refl
found_without S T (x ∷ xs) e = (elim (T x) as (λ b. T x ≡ b → find S (cond b xs (x ∷ without_first T xs)) ≡ cond (S x) (Some x) (find S xs)) [
  | true ↦ λ k. sym (ap (λ b. cond b (Some x) (find S xs)) (e x k))
  | false ↦ λ k. ap (λ o. cond (S x) (Some x) o) (found_without S T xs e)
]) refl

one_found : (T : RmapRec → Bool) (rs : List RmapRec) (x : RmapRec) → find T rs ≡ Some x → T x ≡ true
one_found T [] x h = absurd (false≢true (ap (λ o. (elim o [ None ↦ false | Some y ↦ true ])) h))
one_found T (m ∷ ms) x h = (elim (T m) as (λ t. T m ≡ t → cond t (Some m) (find T ms) ≡ Some x → T x ≡ true) [
  | true ↦ λ k i. subst (λ y. T y ≡ true) (ap (λ o. (elim o [ None ↦ m | Some y ↦ y ])) i) k
  | false ↦ λ k i. one_found T ms x i
]) refl h

pub record Joins (p q : RmapRec) : Type 0 where
  pub start : q.start ≡ p.start + p.count
  pub owner : q.owner ≡ p.owner

joins : (p q : RmapRec) → can_join p q ≡ true → Joins p q
joins p q h =
    let v = and_parts ((q.start == p.start + p.count) && (q.owner == p.owner)) (word_goes_on p.owner p.word p.count q.word) h in
    let w = and_parts (q.start == p.start + p.count) (q.owner == p.owner) v.0 in
    record { start = eqb-true q.start (p.start + p.count) w.0; owner = eqb-true q.owner p.owner w.1 }

-- two runs side by side cover what each of them does
side_by_side : (o : Bool) (c s m n : ℕ) → (o && nat_le s c && nat_lt c (s + (m + n))) ≡ ((o && nat_le s c && nat_lt c (s + m)) || (o && nat_le (s + m) c && nat_lt c (s + m + n)))
side_by_side true c s m n = grind (arith, nat_tests)
side_by_side false c s m n = refl

joined_gives : (c : ℕ) (p q : RmapRec) → Joins p q → gives_block c (joined p q) ≡ (gives_block c p || gives_block c q)
joined_gives c p q j =
    side_by_side (p.owner == 0xffff_ffff_ffff_fff9) c p.start p.count q.count
    ∙ ap (λ b. gives_block c p || b) (λ i. (sym j.owner i == 0xffff_ffff_ffff_fff9) && nat_le (sym j.start i) c && nat_lt c (sym j.start i + q.count))

-- A run that is given gives its own blocks, and no others.
pub gift_gives : (c : ℕ) (r : RmapRec) (rs : List RmapRec) → 0 < r.count → any_gives c (give_mapping r rs) ≡ (any_gives c rs || gives_block c r)
unfolding give_mapping
gift_gives c r rs some =
    let P : Option RmapRec = find (λ p. can_join p r) rs in
    let Q : Option RmapRec = find (can_join r) rs in
    let rest : List RmapRec = without_first (λ p. can_join p r) (without_first (can_join r) rs) in
    put_gives c (grown r rs) rest
    ∙ ap (λ b. b || any_gives c rest) (after_gives c (joined_before P r) r Q (same_end P r (λ p e. joins p r (one_found (λ x. can_join x r) rs p e))) (λ q e. joins r q (one_found (can_join r) rs q e)) ∙ ap (λ b. b || option_map_or (gives_block c) Q false) (before_gives c r P (λ p e. joins p r (one_found (λ x. can_join x r) rs p e))))
    ∙ gathered (gives_block c r) (option_map_or (gives_block c) P false) (option_map_or (gives_block c) Q false) (any_gives c rest)
    ∙ ap (λ b. (b || option_map_or (gives_block c) Q false) || gives_block c r) (sym (first_apart (gives_block c) (λ p. can_join p r) (without_first (can_join r) rs) ∙ ap (λ o. any_gives c rest || option_map_or (gives_block c) o false) (found_without (λ p. can_join p r) (can_join r) rs (λ q e. never q (joins r q e) (can_join q r) refl))))
    ∙ ap (λ b. b || gives_block c r) (sym (first_apart (gives_block c) (can_join r) rs))
  where
    before_gives : (c : ℕ) (r : RmapRec) (o : Option RmapRec) → ((p : RmapRec) → o ≡ Some p → Joins p r) → gives_block c (joined_before o r) ≡ (gives_block c r || option_map_or (gives_block c) o false)
    before_gives c r None j = or_none (gives_block c r)
    before_gives c r (Some p) j = joined_gives c p r (j p refl) ∙ turn (gives_block c p) (gives_block c r)
      where
        turn : (x y : Bool) → (x || y) ≡ (y || x)
        turn true true = refl
        turn true false = refl
        turn false true = refl
        turn false false = refl

    same_end : (o : Option RmapRec) (r : RmapRec) → ((p : RmapRec) → o ≡ Some p → Joins p r) → ((joined_before o r).start + (joined_before o r).count ≡ r.start + r.count) × ((joined_before o r).owner ≡ r.owner)
    same_end None r j = (refl, refl)
    same_end (Some p) r j = (along p.start p.count r.start r.count (j p refl).start, sym (j p refl).owner)
      where
        along : (s m t n : ℕ) → t ≡ s + m → s + (m + n) ≡ t + n
        along s m t n h = omega (arith, h)

    after_gives : (c : ℕ) (x r : RmapRec) (o : Option RmapRec) → (x.start + x.count ≡ r.start + r.count) × (x.owner ≡ r.owner) → ((q : RmapRec) → o ≡ Some q → Joins r q) → gives_block c (joined_after x o) ≡ (gives_block c x || option_map_or (gives_block c) o false)
    after_gives c x r None e j = or_none (gives_block c x)
    after_gives c x r (Some q) e j = joined_gives c x q (record { start = (j q refl).start ∙ sym e.0; owner = (j q refl).owner ∙ sym e.1 })

    gathered : (r p q x : Bool) → (((r || p) || q) || x) ≡ (((x || p) || q) || r)
    gathered true true true true = refl
    gathered true true true false = refl
    gathered true true false true = refl
    gathered true true false false = refl
    gathered true false true true = refl
    gathered true false true false = refl
    gathered true false false true = refl
    gathered true false false false = refl
    gathered false true true true = refl
    gathered false true true false = refl
    gathered false true false true = refl
    gathered false true false false = refl
    gathered false false true true = refl
    gathered false false true false = refl
    gathered false false false true = refl
    gathered false false false false = refl

    around : (s n t m : ℕ) → 0 < n → t ≡ s + n → s ≡ t + m → ⊥
    around s n t m h i j = omega (arith, h, i, j)

    never : (q : RmapRec) → Joins r q → (b : Bool) → can_join q r ≡ b → can_join q r ≡ false
    never q j false e = e
    never q j true e = absurd (around r.start r.count q.start q.count some j.start ((joins q r e).start))
