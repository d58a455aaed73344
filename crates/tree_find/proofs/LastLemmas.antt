-- What looking for the last record meets, block by block.
use Rattle.std.proofs.Common.{◌≡◌, ℕ, zero, suc, ◌+◌, ◌-◌, ◌<◌, ◌≤◌, Bool, true, false, List, [], ◌∷◌, Option, Some, None, Result, Ok, Err, refl, ◌∙◌, arith, length}
use Rattle.std.specs.Prelude.{IfSome, slice_get}
use Rattle.sblock.specs.Area.{area_of, child_of}
use Rattle.sblock.specs.Blocks.{numrecs, records_of, AllInside, AllSupported}
use Rattle.sblock.specs.Form.{Form}
use Rattle.sblock.specs.Lists.{items_from, Each}
use Rattle.sblock.specs.declared.block.Bounds.{Bounds}
use Rattle.sblock.specs.declared.block.BlockFault.{BlockFault}
use Rattle.sblock.specs.declared.block.BlockFault.TheVariants.{Range}
use Rattle.tree_defs.specs.Claims.{lone_fault}
use Rattle.tree_defs.specs.Tree.{top_of}
use Rattle.tree_defs.specs.declared.site.Site.{Site}
use Rattle.tree_blocks.specs.Meets.{Refuses, RefusesBlock}
use Rattle.tree_blocks.specs.declared.tree.WalkFault.{WalkFault}
use Rattle.tree_blocks.specs.declared.tree.WalkFault.TheVariants.{Bad, Failed, Memory}
use Rattle.tree_find.specs.Last.{last_of, last_below, last_in, IsSoundOne}
use Rattle.tree_find.specs.Meets.{Meets}
use Rattle.tree_find.proofs.FindLemmas.{lies_not, does_lie}

item_at : {A : Type 0} (item : ℕ → A) (n i k : ℕ) → k < n → slice_get (items_from item n i) k ≡ Some (item (i + k))
item_at item zero i k lt = absurd (omega (arith, lt))
item_at item (suc n) i zero lt = let e : i + 0 ≡ i = omega arith in rw e refl
item_at item (suc n) i (suc k) lt =
    let e : i + suc k ≡ (i + 1) + k = omega arith in
    rw e (item_at item n (i + 1) k (omega (arith, lt)))

pub items_length : {A : Type 0} (item : ℕ → A) (n i : ℕ) → length (items_from item n i) ≡ n
items_length item zero i = refl
items_length item (suc n) i = let e = items_length item n (i + 1) in omega (arith, e)

pub last_item : {A : Type 0} (item : ℕ → A) (n : ℕ) → 0 < n → last_of (items_from item n 0) ≡ Some (item (n - 1))
last_item item n some =
    let e : 0 + (n - 1) ≡ n - 1 = omega arith in
    rw (items_length item n 0) (rw e at (item_at item n 0 (n - 1) (omega (arith, some))))

pub no_item : {A : Type 0} (item : ℕ → A) (n : ℕ) → n ≡ 0 → last_of (items_from item n 0) ≡ None
no_item item zero none = refl
no_item item (suc n) none = absurd (omega (arith, none))

get_each : {A : Type 0} (test : A → Bool) (xs : List A) (k : ℕ) → Each test xs → IfSome (slice_get xs k) (λ x. test x ≡ true)
get_each test [] k h = tt
get_each test (x ∷ xs) zero h = h.0
get_each test (x ∷ xs) (suc k) h = get_each test xs k h.1

both_some : {A : Type 0} (o : Option A) (P Q : A → Type 0) → IfSome o P → IfSome o Q → IfSome o (λ x. P x × Q x)
both_some None P Q h k = tt
both_some (Some x) P Q h k = (h, k)

sound_of : {R K : Type 0} (form : Form R K) (bounds : Bounds) (o : Option R) → IfSome o (λ r. form.is_in_range bounds r ≡ true) → IfSome o (λ r. form.is_supported r ≡ true) → IfSome o (IsSoundOne form bounds)
sound_of form bounds None h k = tt
sound_of form bounds (Some r) h k = record { inside = h; supported = k }

-- the last record of a leaf that passes is as its tests say
pub sound_last : {R K : Type 0} (form : Form R K) (bounds : Bounds) (bytes : List ℕ) (o : Option R) → AllInside form bounds (records_of form bytes) → AllSupported form (records_of form bytes) → o ≡ last_of (records_of form bytes) → IfSome o (IsSoundOne form bounds)
sound_last form bounds bytes o inside supported e =
    rw e (sound_of form bounds (last_of (records_of form bytes)) (get_each (form.is_in_range bounds) (records_of form bytes) (length (records_of form bytes) - 1) inside) (get_each form.is_supported (records_of form bytes) (length (records_of form bytes) - 1) supported))

module _ {R K : Type 0} (form : Form R K) (site : Site) (m : ℕ → List ℕ) where
  one_refused : (level : ℕ) (root : Bool) (p : ℕ) (fault : BlockFault) → lone_fault form site level root p (m p) ≡ Some fault → last_below form site m level root p ≡ Err (p, fault)
  unfolding last_below
  one_refused zero root p fault h = rw h refl
  one_refused (suc level) root p fault h = rw h refl

  pub refused_last : (level : ℕ) (root : Bool) (p : ℕ) (fault : WalkFault) → RefusesBlock p (lone_fault form site level root p (m p)) fault → Refuses (last_below form site m level root p) fault
  refused_last level root p (Bad q f) h = one_refused level root p f h.1 ∙ rw (h.0) refl
  refused_last level root p Failed h = h
  refused_last level root p Memory h = h

  pub last_at_leaf : (level : ℕ) (root : Bool) (p : ℕ) (bytes : List ℕ) (r : Option R) → level ≡ 0 → bytes ≡ m p → lone_fault form site level root p bytes ≡ None → r ≡ last_of (records_of form bytes) → last_below form site m level root p ≡ Ok r
  unfolding last_below
  last_at_leaf zero root p bytes r z e h f = rw (f, e) (rw (rw e at h) refl)
  last_at_leaf (suc level) root p bytes r z e h f = absurd (omega (arith, z))

  last_at_node : (level : ℕ) (root : Bool) (p : ℕ) (bytes : List ℕ) → 0 < level → bytes ≡ m p → lone_fault form site level root p bytes ≡ None → last_below form site m level root p ≡ last_below form site m (level - 1) false (child_of form.kind (area_of bytes) (numrecs bytes - 1))
  unfolding last_below
  last_at_node zero root p bytes pos e h = absurd (omega (arith, pos))
  last_at_node (suc level) root p bytes pos e h = let s : suc level - 1 ≡ level = omega arith in rw (e, s) (rw (rw e at h) refl)

  pub last_by_child : (level : ℕ) (root : Bool) (p : ℕ) (bytes : List ℕ) (q : ℕ) (result : Result (Option R) WalkFault) → 0 < level → bytes ≡ m p → lone_fault form site level root p bytes ≡ None → q ≡ child_of form.kind (area_of bytes) (numrecs bytes - 1) → Meets (last_below form site m (level - 1) false q) result → Meets (last_below form site m level root p) result
  last_by_child level root p bytes q (Ok r) pos e h c below = last_at_node level root p bytes pos e h ∙ rw c at below
  last_by_child level root p bytes q (Err (Bad x y)) pos e h c below = last_at_node level root p bytes pos e h ∙ rw c at below
  last_by_child level root p bytes q (Err Failed) pos e h c below = below
  last_by_child level root p bytes q (Err Memory) pos e h c below = below

  module _ (root levels : ℕ) where
    pub last_outside : (1 ≤ root → root < site.bounds.length → ⊥) → last_in form site m root levels ≡ Err (root, Range)
    unfolding last_in
    last_outside h = rw (lies_not root site.bounds.length h) refl

    pub last_within : (level : ℕ) (result : Result (Option R) WalkFault) → 1 ≤ root → root < site.bounds.length → level ≡ top_of levels → Meets (last_below form site m level true root) result → Meets (last_in form site m root levels) result
    unfolding last_in
    last_within level result some below e h = rw (does_lie root site.bounds.length some below, ← e) h
