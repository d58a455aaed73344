-- What finding a record meets, block by block.
use Rattle.std.proofs.Common.{◌≡◌, ℕ, zero, suc, ◌+◌, ◌-◌, ◌<◌, ◌≤◌, Bool, true, false, List, Option, Some, None, Result, Ok, Err, refl, sym, ◌∙◌, arith}
use Rattle.std.specs.Prelude.{◌&&◌, nat_le, nat_lt, if◌then◌else◌}
use Rattle.std.proofs.lemmas.Bool.{and_parts, leb-true}
use Rattle.std.proofs.lemmas.Bool.Decides.{nat_tests}
use Rattle.sblock.specs.Blocks.{records_of}
use Rattle.sblock.specs.Form.{Form}
use Rattle.sblock.specs.declared.block.BlockFault.{BlockFault}
use Rattle.sblock.specs.declared.block.BlockFault.TheVariants.{Range}
use Rattle.tree_defs.specs.Claims.{lone_fault}
use Rattle.tree_defs.specs.Tree.{top_of}
use Rattle.tree_defs.specs.declared.site.Site.{Site}
use Rattle.tree_blocks.specs.Meets.{Refuses, RefusesBlock}
use Rattle.tree_blocks.specs.declared.tree.WalkFault.{WalkFault}
use Rattle.tree_blocks.specs.declared.tree.WalkFault.TheVariants.{Bad, Failed, Memory}
use Rattle.tree_find.specs.Find.{record_with, on_child, find_below, find_in, way_of}
use Rattle.tree_find.specs.Meets.{Meets}
use Rattle.tree_find.specs.Places.{child_for}

module _ {R K : Type 0} (form : Form R K) (site : Site) (m : ℕ → List ℕ) (key : K) where
  one_refused : (level : ℕ) (root : Bool) (p : ℕ) (fault : BlockFault) → lone_fault form site level root p (m p) ≡ Some fault → find_below form site m key level root p ≡ Err (p, fault)
  unfolding find_below
  one_refused zero root p fault h = rw h refl
  one_refused (suc level) root p fault h = rw h refl

  pub refused_here : (level : ℕ) (root : Bool) (p : ℕ) (fault : WalkFault) → RefusesBlock p (lone_fault form site level root p (m p)) fault → Refuses (find_below form site m key level root p) fault
  refused_here level root p (Bad q f) h = one_refused level root p f h.1 ∙ rw (h.0) refl
  refused_here level root p Failed h = h
  refused_here level root p Memory h = h

  pub at_leaf : (level : ℕ) (root : Bool) (p : ℕ) (bytes : List ℕ) (r : Option R) → level ≡ 0 → bytes ≡ m p → lone_fault form site level root p bytes ≡ None → r ≡ record_with form key (records_of form bytes) → find_below form site m key level root p ≡ Ok r
  unfolding find_below
  at_leaf zero root p bytes r z e h f = rw (f, e) (rw (rw e at h) refl)
  at_leaf (suc level) root p bytes r z e h f = absurd (omega arith)

  at_node : (level : ℕ) (root : Bool) (p : ℕ) (bytes : List ℕ) (o : Option ℕ) → 0 < level → bytes ≡ m p → lone_fault form site level root p bytes ≡ None → o ≡ child_for form key bytes → find_below form site m key level root p ≡ on_child (find_below form site m key (level - 1) false) o
  unfolding find_below
  at_node zero root p bytes o pos e h f = absurd (omega arith)
  at_node (suc level) root p bytes o pos e h f = let s : suc level - 1 ≡ level = omega arith in rw (f, e, s) (rw (rw e at h) refl)

  pub no_child : (level : ℕ) (root : Bool) (p : ℕ) (bytes : List ℕ) (o : Option ℕ) → 0 < level → bytes ≡ m p → lone_fault form site level root p bytes ≡ None → o ≡ child_for form key bytes → o ≡ None → find_below form site m key level root p ≡ Ok None
  no_child level root p bytes o pos e h f n = at_node level root p bytes o pos e h f ∙ rw n refl

  pub by_child : (level : ℕ) (root : Bool) (p : ℕ) (bytes : List ℕ) (o : Option ℕ) (q : ℕ) (result : Result (Option R) WalkFault) → 0 < level → bytes ≡ m p → lone_fault form site level root p bytes ≡ None → o ≡ child_for form key bytes → o ≡ Some q → Meets (find_below form site m key (level - 1) false q) result → Meets (find_below form site m key level root p) result
  by_child level root p bytes o q (Ok r) pos e h f n below = at_node level root p bytes o pos e h f ∙ rw n below
  by_child level root p bytes o q (Err (Bad x y)) pos e h f n below = at_node level root p bytes o pos e h f ∙ rw n below
  by_child level root p bytes o q (Err Failed) pos e h f n below = below
  by_child level root p bytes o q (Err Memory) pos e h f n below = below

-- one block more on the way
pub one_more : (level before between after : ℕ) → 0 < level → level ≤ 8 → between ≡ before + 1 → after ≤ between + (if nat_le (level - 1) 8 then level - 1 + 1 else 1) → after ≤ before + (if nat_le level 8 then level + 1 else 1)
one_more level before between after pos low e h =
    let a : nat_le level 8 ≡ true = grind (arith, nat_tests) in
    let b : nat_le (level - 1) 8 ≡ true = grind (arith, nat_tests) in
    rw a (let k : after ≤ between + (level - 1 + 1) = rw b at h in omega (arith, k))

pub lies_not : (root len : ℕ) → (1 ≤ root → root < len → ⊥) → (nat_le 1 root && nat_lt root len) ≡ false
lies_not root len h = grind (arith, nat_tests)

pub does_lie : (root len : ℕ) → 1 ≤ root → root < len → (nat_le 1 root && nat_lt root len) ≡ true
does_lie root len a b = grind (arith, nat_tests)

by_levels : (levels : ℕ) (b : Bool) → b ≡ (nat_le 1 levels && nat_le levels 9) → (if nat_le (if b then levels - 1 else 9) 8 then (if b then levels - 1 else 9) + 1 else 1) ≡ (if b then levels else 1)
by_levels levels true e =
    let parts = and_parts _ _ (sym e) in
    let some : 1 ≤ levels = leb-true 1 levels parts.0 in
    let few : levels ≤ 9 = leb-true levels 9 parts.1 in
    let low : nat_le (levels - 1) 8 ≡ true = grind (arith, nat_tests) in
    rw low (omega arith)
by_levels levels false e = refl

-- a way from the root is as long as the tree is high
pub whole_way : (levels level before after : ℕ) → level ≡ top_of levels → after ≤ before + (if nat_le level 8 then level + 1 else 1) → after ≤ before + way_of levels
whole_way levels level before after e h =
    let same : (if nat_le level 8 then level + 1 else 1) ≡ way_of levels = rw e (by_levels levels (nat_le 1 levels && nat_le levels 9) refl) in
    rw (← same) h

module _ {R K : Type 0} (form : Form R K) (site : Site) (m : ℕ → List ℕ) (key : K) (root levels : ℕ) where
  pub outside : (1 ≤ root → root < site.bounds.length → ⊥) → find_in form site m root levels key ≡ Err (root, Range)
  unfolding find_in
  outside h = rw (lies_not root site.bounds.length h) refl

  pub within : (level : ℕ) (result : Result (Option R) WalkFault) → 1 ≤ root → root < site.bounds.length → level ≡ top_of levels → Meets (find_below form site m key level true root) result → Meets (find_in form site m root levels key) result
  unfolding find_in
  within level result some below e h = rw (does_lie root site.bounds.length some below, ← e) h
