-- How many levels a readable tree has, by the least numbers of entries of its nodes.
use Rattle.std.proofs.Common.{◌≡◌, ℕ, zero, suc, ◌+◌, ◌*◌, ◌-◌, ◌<◌, ◌≤◌, Bool, true, false, List, [], ◌∷◌, ◌++◌, length, length-append, refl, ap, ◌∙◌, subst, arith, inl, inr}
use Rattle.std.specs.Prelude.{◌==◌}
use Rattle.std.proofs.Math.Nat.{suc-mul}
use Rattle.std.proofs.lemmas.Bool.{cases_lt, and_parts, leb-true}
use Rattle.std.proofs.lemmas.Bool.Decides.{nat_tests}
use Rattle.sblock.specs.Area.{area_of}
use Rattle.sblock.specs.Blocks.{numrecs, count_fits, least_of}
use Rattle.sblock.specs.Form.{Form}
use Rattle.sblock.specs.Kinds.{node_least_of}
use Rattle.sblock.specs.Lists.{items_from}
use Rattle.sblock.specs.declared.kind.Kind.{Kind}
use Rattle.sblock.specs.declared.kind.Kind.TheVariants.{Bno, Cnt, Rmap, Refc, Ino, Fino}
use Rattle.sblock.proofs.BlockLemmas.{passed}
use Rattle.tree_defs.specs.Levels.{over, AllEntries, entries, blocks_of, recs_of, IsRight, IsSound, IsTree}
use Rattle.tree_defs.specs.Sizes.{most_blocks, most_levels_of, HasFewLevels}
use Rattle.sblock.specs.Headers.{left_of, no_block}
use Rattle.sblock.specs.Spans.{span_of}
use Rattle.tree_defs.specs.Tree.{Entry, want_of, agrees, entry_at, entries_from}
use Rattle.tree_defs.specs.declared.site.Site.{Site}
use Rattle.tree_defs.proofs.Rows.{blocks_differ_lem}

-- k times k times .. one
abbrev power : ℕ → ℕ → ℕ
power k zero = 1
power k (suc n) = k * power k n

no_less : (k x : ℕ) → 1 ≤ k → x ≤ k * x
no_less zero x h = absurd (omega arith)
no_less (suc k) x h = let e : suc k * x ≡ k * x + x = suc-mul k x in omega (arith, e)

power_grows : (k c d : ℕ) → 1 ≤ k → power k c ≤ power k (d + c)
power_grows k c zero h = let e : 0 + c ≡ c = omega arith in rw e (omega arith)
power_grows k c (suc d) h =
    let e : suc d + c ≡ suc (d + c) = omega arith in
    rw e (omega (arith, power_grows k c d h, no_less k (power k (d + c)) h))

power_passes : (k c n bound : ℕ) → 1 ≤ k → c ≤ n → bound < power k c → bound < power k n
power_passes k c n bound h le lt =
    let e : (n - c) + c ≡ n = omega (arith, le) in
    let g : power k c ≤ power k n = rw e at (power_grows k c (n - c) h) in
    omega (arith, g, lt)

at_least_one : (kind : Kind) → 1 ≤ most_levels_of kind
at_least_one Bno = omega arith
at_least_one Cnt = omega arith
at_least_one Rmap = omega arith
at_least_one Refc = omega arith
at_least_one Ino = omega arith
at_least_one Fino = omega arith

-- a group has no room for so many levels
too_deep : (kind : Kind) (n : ℕ) → most_levels_of kind ≤ n + 1 → most_blocks < power (node_least_of kind) n
too_deep Bno n h = power_passes 168 4 n most_blocks (omega arith) (omega (arith, h)) (omega arith)
too_deep Cnt n h = power_passes 168 4 n most_blocks (omega arith) (omega (arith, h)) (omega arith)
too_deep Rmap n h = power_passes 45 6 n most_blocks (omega arith) (omega (arith, h)) (omega arith)
too_deep Refc n h = power_passes 252 4 n most_blocks (omega arith) (omega (arith, h)) (omega arith)
too_deep Ino n h = power_passes 252 4 n most_blocks (omega arith) (omega (arith, h)) (omega arith)
too_deep Fino n h = power_passes 252 4 n most_blocks (omega arith) (omega (arith, h)) (omega arith)

items_length : {A : Type 0} (item : ℕ → A) (n i : ℕ) → length (items_from item n i) ≡ n
items_length item zero i = refl
items_length item (suc n) i = ap suc (items_length item n (i + 1))

-- each entry has some blocks, so n entries have n times as many
over_many : {K : Type 0} (f : ℕ → List ℕ) (b : ℕ) (es : List (Entry K)) (n : ℕ) → n ≤ length es → AllEntries (λ (e : Entry K). b ≤ length (f e.child)) es → n * b ≤ length (over f es)
over_many f b es zero le h = omega arith
over_many f b [] (suc n) le h = absurd (omega (arith, le))
over_many f b (e ∷ es) (suc n) le h =
    omega (
      arith,
      suc-mul n b,
      h.0,
      over_many f b es n (omega (arith, le)) h.1,
      length-append (f e.child) (over f es),
    )

module _ {R K : Type 0} (form : Form R K) (site : Site) (m : ℕ → List ℕ) where
  node_has : (level : ℕ) (root : Bool) (p : ℕ) → IsRight form m site (suc level) root p → least_of form.kind false root ≤ length (entries form m p)
  unfolding count_fits entries_from
  node_has level root p right =
      let e : (suc level == 0) ≡ false = grind (arith, nat_tests) in
      let fits : count_fits form.kind (suc level == 0) root (numrecs (m p)) ≡ true = (passed form (m p) (want_of form.kind site (suc level) root (left_of (m p)) p) right).fits in
      let least : least_of form.kind false root ≤ numrecs (m p) = leb-true _ _ (and_parts _ _ (rw e at fits)).0 in
      rw (items_length (entry_at form (area_of (m p))) (numrecs (m p)) 0) least

  abbrev AllSound : ℕ → List (Entry K) → Type 0
  AllSound level es = AllEntries (λ (e : Entry K). IsSound form m site level false e.child × (agrees form e (span_of form (recs_of form m level e.child)) ≡ true)) es

  each_many : (level b : ℕ) → ((q : ℕ) → IsSound form m site level false q → b ≤ length (blocks_of form m level q)) → (es : List (Entry K)) → AllSound level es → AllEntries (λ (e : Entry K). b ≤ length (blocks_of form m level e.child)) es
  each_many level b below [] sound = tt
  each_many level b below (e ∷ es) sound = (below e.child sound.0.0, each_many level b below es sound.1)

  -- below a block that isn't the root
  under_many : (level p : ℕ) → IsSound form m site level false p → power (node_least_of form.kind) level ≤ length (blocks_of form m level p)
  unfolding blocks_of IsSound
  under_many zero p sound = omega arith
  under_many (suc level) p sound =
      let b = power (node_least_of form.kind) level in
      let all = each_many level b (λ q s. under_many level q s) (entries form m p) sound.1 in
      omega (arith, over_many (blocks_of form m level) b (entries form m p) (node_least_of form.kind) (node_has level false p sound.0) all)

  root_many : (level p : ℕ) → IsSound form m site (suc level) true p → power (node_least_of form.kind) level < length (blocks_of form m (suc level) p)
  unfolding blocks_of IsSound
  root_many level p sound =
      let b = power (node_least_of form.kind) level in
      let all = each_many level b (λ q s. under_many level q s) (entries form m p) sound.1 in
      omega (arith, over_many (blocks_of form m level) b (entries form m p) 1 (node_has level true p sound.0) all)

pub has_few_levels_lem : {R K : Type 0} (form : Form R K) → HasFewLevels form
has_few_levels_lem form site m root levels recs blocks short tree =
    elim (cases_lt (most_levels_of form.kind) levels) [
      | inr le ↦ omega (arith, le)
      | inl lt ↦ absurd (
          let some : 1 ≤ most_levels_of form.kind = at_least_one form.kind in
          let e : levels - 1 ≡ suc (levels - 2) = omega (arith, lt, some) in
          let sound : IsSound form m site (suc (levels - 2)) true root = subst (λ (n : ℕ). IsSound form m site n true root) e tree.sound in
          let many = root_many form site m (levels - 2) root sound in
          let all : length blocks ≡ length (blocks_of form m (suc (levels - 2)) root) = ap length tree.blocks_are ∙ ap (λ (n : ℕ). length (blocks_of form m n root)) e in
          let few = (blocks_differ_lem form site m root levels recs blocks (omega (arith, short)) tree).1 in
          let deep = too_deep form.kind (levels - 2) (omega (arith, lt, some)) in
          omega (arith, many, all, few, deep, short)
          )
    ]
