-- A group of an image is in order: each part of it, and all of them. At opening what is kept in memory is so by itself.
use Rattle.std.proofs.Common.{◌≡◌, ℕ, ◌-◌, ◌^◌, ◌<◌, ◌≤◌, true, map, arith, zero, suc, ◌+◌, Bool, false, List, [], ◌∷◌, Option, Some, None, Ok, Err, refl, subst, inl, inr}
use Rattle.std.specs.Prelude.{nat_lt, if◌then◌else◌}
use Rattle.std.proofs.lemmas.Bool.{lt-ltb, cases_eq, eq-eqb, ne_eqb}
use Rattle.claim_laws.specs.Whole.{ForksAreGood}
use Rattle.fs_change.specs.Switch.{unit_owner}
use Rattle.fs_state.specs.Claims.{Claimed, claims}
use Rattle.fs_state.specs.Own.{own, set_of, tuple_of}
use Rattle.fs_model.specs.declared.unit.Trust.TheVariants.{Sick}
use Rattle.fs_state.specs.Frame.{OpeningLaw}
use Rattle.fs_state.specs.Kinds.{Image, heads_in, form_of, heads_of, level_of, root_of}
use Rattle.fs_state.specs.Read.{KeepsBad, group_of, state_of, Read, bad_in, claimed, opened, trust_in, walked}
use Rattle.fs_state.specs.State.{Kept, State, Bad}
use Rattle.geom.specs.Apart.{HasFitting}
use Rattle.geom.specs.Layout.{Layout, group_len_of}
use Rattle.law_repairs.proofs.Letter.Plain.{plain_words}
use Rattle.law_repairs.proofs.Reserve.Owning.{runs_now}
use Rattle.law_repairs.proofs.Reserve.Reserved.{plain_owner}
use Rattle.rmap_recs.specs.Runs.{AreTuples, HaveNext}
use Rattle.rmap_recs.specs.declared.tuples.Tuple.{Tuple}
use Rattle.sblock.specs.Lists.{items_from}
use Rattle.sblock.specs.declared.kind.Kind.{Kind}
use Rattle.tree_defs.proofs.SiteLemmas.{is_short}
use Rattle.tree_defs.specs.Claims.{claims_of, is_claimed}
use Rattle.tree_defs.specs.Lists.{AllDiffer, In, passing, times}
use Rattle.tree_defs.specs.Sites.{group_blocks, site_of}
use Rattle.unit_plan.specs.Group.{AreGoodForks}
use Rattle.law_repairs.proofs.Order.Blocks.{blocks_are_once}
use Rattle.law_repairs.proofs.Order.Claims.{AreInside, each_below, each_told}
use Rattle.law_repairs.proofs.Order.Readings.{accepted, bad_is_sick, limbo_is_plain, words, known_below}
use Rattle.law_repairs.proofs.Order.Lists.{at_place, every_all, every_map, every_test, every_weaker}
use Rattle.law_repairs.proofs.Order.Offsets.{IsTold, told_apart}
use Rattle.law_repairs.proofs.Order.Tuples.{every_set, set_rises}
use Rattle.law_repairs.specs.Order.Kept.{AreNoInodes, KeptInOrder, ListIsAccepted, LogLiesInside, LieBelow}
use Rattle.law_repairs.specs.Order.Ordered.{ClaimsLieInside, GroupIsInOrder, OrderHasOwners, OwnersAreInOrder, OwnersAreTuples, OwnersHaveNext, OpenedIsInOrder, OpenedIsKept}

pub own_inside : (at : Layout) (image : Image) (kept : Kept) (g : ℕ) → g < at.agcount → KeepsBad at image kept → KeptInOrder at kept g → ListIsAccepted at image g → AreInside (group_len_of at g) ((state_of at image kept).group g)
unfolding group_of heads_in
own_inside at image kept g lt keeps order list = record {
  list = λ p i. (at_place (λ (b : ℕ). (1 ≤ b) × (b < group_len_of at g)) ((state_of at image kept).group g).free_list (accepted at image g list).inside p i).1;
  trees = λ k. known_below at image kept g k (keeps g k lt) (order.claims_inside k);
  reserve = order.reserve_inside;
  limbo = order.limbo_inside;
}

few_blocks : (at : Layout) (g : ℕ) → HasFitting at → group_len_of at g ≤ 268435456
few_blocks at g fit = is_short at.agblocks at.agcount at.dblocks g fit.short_groups fit.last_short

-- ---- of any state with good forks

pub next_of : (a : State) (g : ℕ) → HasFitting a.geometry → LogLiesInside a.geometry → g < a.geometry.agcount → AreGoodForks a → AreInside (group_len_of a.geometry g) (a.group g) → HaveNext (own a g)
unfolding own
next_of a g fit log lt good inside =
    every_all (λ (t : Tuple). t.block < 2 ^ 32 - 1) (set_of (map tuple_of (claims a g)))
    (every_set (λ (t : Tuple). t.block < 2 ^ 32 - 1) (map tuple_of (claims a g))
    (every_map (λ (t : Tuple). t.block < 2 ^ 32 - 1) tuple_of (claims a g)
    (every_weaker (λ (c : Claimed). c.block < group_len_of a.geometry g) (λ (c : Claimed). c.block < 2 ^ 32 - 1) (λ c h. let few = few_blocks a.geometry g fit in omega (arith, h, few)) (claims a g)
    (each_below a g fit log lt good inside))))

pub tuples_of : (a : State) (g : ℕ) → HasFitting a.geometry → AreGoodForks a → AreNoInodes (a.group g).reserve → AreNoInodes (a.group g).limbo → AreTuples (own a g)
unfolding own
tuples_of a g fit good reserve limbo =
    set_rises (λ (t : Tuple). IsTold a t.owner t.word) (λ t u h k block owner keys. told_apart a good t.owner t.word u.owner u.word h k owner keys) (map tuple_of (claims a g))
    (every_map (λ (t : Tuple). IsTold a t.owner t.word) tuple_of (claims a g) (each_told a g fit good reserve limbo))

-- ---- of an image

module _ (good : ForksAreGood) where
  pub inside : ClaimsLieInside
  inside at image kept g fit log lt keeps order list =
      every_test (λ (c : Claimed). nat_lt c.block (group_len_of at g)) (claims (state_of at image kept) g)
      (every_weaker (λ (c : Claimed). c.block < group_len_of at g) (λ (c : Claimed). nat_lt c.block (group_len_of at g) ≡ true) (λ c h. lt-ltb c.block (group_len_of at g) h) (claims (state_of at image kept) g)
      (each_below (state_of at image kept) g fit log lt (good at image kept) (own_inside at image kept g lt keeps order list)))

  pub next : OwnersHaveNext
  next at image kept g fit log lt keeps order list = next_of (state_of at image kept) g fit log lt (good at image kept) (own_inside at image kept g lt keeps order list)

  pub tuples : OwnersAreTuples
  unfolding group_of
  tuples at image kept g fit order = tuples_of (state_of at image kept) g fit (good at image kept) order.reserve_plain order.limbo_plain

  pub group_is_in_order : GroupIsInOrder
  group_is_in_order at image kept g fit log lt firm order bytes list = record {
    words = words at image kept g bytes;
    bad = bad_is_sick at image kept g lt firm.keeps order;
    blocks = blocks_are_once at image kept g fit lt firm order list;
    inside = inside at image kept g fit log lt firm.keeps order list;
    tuples = tuples at image kept g fit order;
    next = next at image kept g fit log lt firm.keeps order list;
    plain = limbo_is_plain at image kept g order;
  }

  pub owners_are_in_order : OwnersAreInOrder
  owners_are_in_order at image kept g unit fit log lt keeps order list = record {
    inside = inside at image kept g fit log lt keeps order list;
    plain = plain_words (state_of at image kept) g (unit_owner unit) fit (plain_owner unit);
    runs = runs_now (state_of at image kept) g (tuples at image kept g fit order) (next at image kept g fit log lt keeps order list);
  }

pub order_has_owners : OrderHasOwners
order_has_owners a g unit fit order = record { inside = order.inside; plain = plain_words a g (unit_owner unit) fit (plain_owner unit); runs = runs_now a g order.tuples order.next }

-- ---- numbers that are counted off, some left out

passing_in : (t : ℕ → Bool) (p : ℕ) (xs : List ℕ) → In p (passing t xs) → In p xs
passing_in t p [] i = i
passing_in t p (x ∷ xs) i = (elim (t x) as (λ b. In p (if b then x ∷ passing t xs else passing t xs) → In p (x ∷ xs)) [
  | true ↦ λ j. elim j [ inl e ↦ inl e | inr k ↦ inr (passing_in t p xs k) ]
  | false ↦ λ j. inr (passing_in t p xs j)
]) i

passing_times : (t : ℕ → Bool) (p : ℕ) (xs : List ℕ) → times p (passing t xs) ≤ times p xs
passing_times t p [] = omega arith
passing_times t p (x ∷ xs) =
    let more = passing_times t p xs in
    elim (t x) as (λ b. times p (if b then x ∷ passing t xs else passing t xs) ≤ times p (x ∷ xs)) [
      | true ↦ omega (arith, more)
      | false ↦ omega (arith, more)
    ]

counted_in : (p n i : ℕ) → In p (items_from (λ x. x) n i) → p < i + n
counted_in p zero i j = absurd j
counted_in p (suc n) i (inl e) = omega (arith, e)
counted_in p (suc n) i (inr j) = let more = counted_in p n (i + 1) j in omega (arith, more)

none_before : (p n i : ℕ) → p < i → times p (items_from (λ x. x) n i) ≡ 0
none_before p zero i lt = refl
none_before p (suc n) i lt = let rest = none_before p n (i + 1) (omega (arith, lt)) in rw (ne_eqb i p (λ e. omega (arith, e, lt))) (omega (arith, rest))

counted_once : (p n i : ℕ) → times p (items_from (λ x. x) n i) ≤ 1
counted_once p zero i = omega arith
counted_once p (suc n) i = elim (cases_eq i p) [
  | inl e ↦ let none = none_before p n (i + 1) (omega (arith, e)) in rw (eq-eqb i p e) (omega (arith, none))
  | inr ne ↦ let rest = counted_once p n (i + 1) in rw (ne_eqb i p ne) (omega (arith, rest))
]

claimed_below : (at : Layout) (image : Image) (g : ℕ) (k : Kind) → LieBelow (group_len_of at g) (claimed at image g k)
unfolding claimed claims_of site_of
claimed_below at image g k p i = let lt = counted_in p (group_len_of at g) 0 (passing_in _ p (items_from (λ x. x) (group_len_of at g) 0) i) in omega (arith, lt)

claimed_differ : (at : Layout) (image : Image) (g : ℕ) (k : Kind) → AllDiffer (claimed at image g k)
unfolding claimed claims_of site_of
claimed_differ at image g k p =
    let test = is_claimed (form_of k) (site_of at g) (group_blocks (site_of at g) image) (root_of (heads_of at image g) k) (level_of (heads_of at image g) k) in
    let few = passing_times test p (items_from (λ x. x) (group_len_of at g) 0) in
    let once = counted_once p (group_len_of at g) 0 in
    omega (arith, few, once)

-- ---- what is kept

none_some : (b : Bad) → ◌≡◌ {A = Option Bad} None (Some b) → ⊥
none_some b e = cc

some_same : (b c : Bad) → ◌≡◌ {A = Option Bad} (Some b) (Some c) → b ≡ c
some_same b c e = cc

bad_sick : {R : Type 0} (read : Read R) (claims : List ℕ) (bad : Bad) → bad_in read claims ≡ Some bad → trust_in read ≡ Sick
bad_sick (Ok x) claims bad e = absurd (none_some bad e)
bad_sick (Err f) claims bad e = refl

bad_claims : {R : Type 0} (P : List ℕ → Type 0) (read : Read R) (claims : List ℕ) (bad : Bad) → P claims → bad_in read claims ≡ Some bad → P bad.claims
bad_claims P (Ok x) claims bad h e = absurd (none_some bad e)
bad_claims P (Err f) claims bad h e = subst (λ (b : Bad). P b.claims) (some_same (record { block = f.0; fault = f.1; claims = claims }) bad e) h

pub opened_is_kept : OpenedIsKept
unfolding opened
opened_is_kept at image g = record {
  sick = λ k bad e. bad_sick (walked at image g k) (claimed at image g k) bad e;
  claims_inside = λ k bad e. bad_claims (LieBelow (group_len_of at g)) (walked at image g k) (claimed at image g k) bad (claimed_below at image g k) e;
  claims_once = λ k bad e. bad_claims (λ (ps : List ℕ). AllDiffer ps) (walked at image g k) (claimed at image g k) bad (claimed_differ at image g k) e;
  reserve_inside = λ p i. absurd i;
  reserve_plain = refl;
  limbo_inside = λ p i. absurd i;
  limbo_plain = refl;
  limbo_once = λ b. omega arith;
}

pub opened_is_in_order : ForksAreGood → OpeningLaw → OpenedIsInOrder
opened_is_in_order good opening at image g fit log lt apart bytes list = group_is_in_order good at image (opened at image) g fit log lt (opening at image apart) (opened_is_kept at image g) bytes list
